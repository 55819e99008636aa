use mathlib.Core.Path.{sym, ◌∙◌}
use native.Mathlib.Omega.{arith}
use Rattle.slots.proofs.Held.{search_held}
use Rattle.replacing.proofs.Bytes.{named_none, named_found}
use Rattle.replacing.proofs.named_code.Goals as goal

pub overflow_mul-i : goal.overflow_mul-i
overflow_mul-i c = omega (arith, (search_held c.args.t.now c.args.base c.args.n c.args.m.key c.find.ensures c.in-Some.is).low)

pub overflow_add-base : goal.overflow_add-base
overflow_add-base c = omega (arith, (search_held c.args.t.now c.args.base c.args.n c.args.m.key c.find.ensures c.in-Some.is).low)

pub record_at-requires : goal.record_at-requires
record_at-requires c = omega (arith, (search_held c.args.t.now c.args.base c.args.n c.args.m.key c.find.ensures c.in-Some.is).low)

pub returns-in-Some : goal.returns-in-Some
returns-in-Some c = c.named_in.ensures ∙ sym (named_found c.args.t.now c.args.base c.args.n c.args.m c.find.ensures c.in-Some.is c.record_at.ensures)

pub returns-in-None : goal.returns-in-None
returns-in-None c = sym (named_none c.args.t.now c.args.base c.args.n c.args.m c.find.ensures c.in-None.is)
