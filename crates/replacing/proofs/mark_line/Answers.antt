use mathlib.Core.Path.{sym, ◌∙◌}
use native.Mathlib.Omega.{arith}
use Rattle.slots.proofs.Held.{search_held}
use Rattle.replacing.proofs.Bytes.{named_small, named_first_lem, line_put_lem, named_there}
use Rattle.replacing.proofs.mark_line.Goals as goal

pub overflow_mul-at : goal.overflow_mul-at
overflow_mul-at c = omega (arith, (search_held c.args.t.now c.args.base c.args.n c.args.m.key c.find.ensures c.in-Some.is).low, c.requires.0)

pub overflow_add-at : goal.overflow_add-at
overflow_add-at c = omega (arith, (search_held c.args.t.now c.args.base c.args.n c.args.m.key c.find.ensures c.in-Some.is).low, c.requires.0)

pub overflow_add-at-in-Some : goal.overflow_add-at-in-Some
overflow_add-at-in-Some c = omega (arith, (search_held c.args.t.now c.args.base c.args.n c.args.m.key c.find.ensures c.in-Some.is).low, c.requires.0)

pub overflow_sub-at : goal.overflow_sub-at
overflow_sub-at c = omega (arith, named_first_lem c.args.t.now c.args.base c.args.n c.args.m c.requires.1)

pub overflow_add-at-in-Some-2 : goal.overflow_add-at-in-Some-2
overflow_add-at-in-Some-2 c = omega (arith, (search_held c.args.t.now c.args.base c.args.n c.args.m.key c.find.ensures c.in-Some.is).low, named_small c.args.t.now c.args.base c.args.n c.args.m c.requires.1, c.requires.0)

pub copy_in-requires : goal.copy_in-requires
copy_in-requires c = omega (arith, (search_held c.args.t.now c.args.base c.args.n c.args.m.key c.find.ensures c.in-Some.is).low, named_small c.args.t.now c.args.base c.args.n c.args.m c.requires.1, c.requires.0)

pub returns-in-Some : goal.returns-in-Some
returns-in-Some c = c.copy_in.ensures ∙ sym (line_put_lem c.args.t.now c.args.base c.args.n c.args.m c.requires.1 c.find.ensures c.in-Some.is)

pub returns-in-None : goal.returns-in-None
returns-in-None c = absurd (named_there c.args.t.now c.args.base c.args.n c.args.m c.requires.1 c.find.ensures c.in-None.is)
