use mathlib.Core.Path.{sym, ◌∙◌}
use native.Mathlib.Omega.{arith}
use Rattle.orders.proofs.Laws.{found, found_some}
use Rattle.message_write.proofs.second_from.Goals as goal

pub first_named-requires : goal.first_named-requires
first_named-requires c = (c.requires.0.filled.within, c.requires.1, found_some c.requires.0.depth c.args.parent c.args.f.now 0 c.args.from c.requires.0.filled)

pub first_named-requires-2 : goal.first_named-requires-2
first_named-requires-2 c = ((found c.requires.0.depth c.args.parent c.args.f.now 0 c.args.from c.requires.0.filled c.first_named.result c.first_named.ensures).lies.within, c.requires.1, found_some c.requires.0.depth c.args.parent c.args.f.now 1 c.first_named.result.child.after (found c.requires.0.depth c.args.parent c.args.f.now 0 c.args.from c.requires.0.filled c.first_named.result c.first_named.ensures).on)

pub overflow_add-result : goal.overflow_add-result
overflow_add-result c = let l = (found c.requires.0.depth c.args.parent c.args.f.now 1 c.first_named.result.child.after (found c.requires.0.depth c.args.parent c.args.f.now 0 c.args.from c.requires.0.filled c.first_named.result c.first_named.ensures).on c.first_named-2.result c.first_named-2.ensures).lies in let g = c.well_formed.0.0 in omega arith

pub returns : goal.returns
returns c = let l = (found c.requires.0.depth c.args.parent c.args.f.now 1 c.first_named.result.child.after (found c.requires.0.depth c.args.parent c.args.f.now 0 c.args.from c.requires.0.filled c.first_named.result c.first_named.ensures).on c.first_named-2.result c.first_named-2.ensures).lies in
    (sym ((found c.requires.0.depth c.args.parent c.args.f.now 0 c.args.from c.requires.0.filled c.first_named.result c.first_named.ensures).texts 1 (omega arith) ∙ (found c.requires.0.depth c.args.parent c.args.f.now 1 c.first_named.result.child.after (found c.requires.0.depth c.args.parent c.args.f.now 0 c.args.from c.requires.0.filled c.first_named.result c.first_named.ensures).on c.first_named-2.result c.first_named-2.ensures).text), l.inner, omega arith)
