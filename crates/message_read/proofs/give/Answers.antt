use mathlib.Core.Path.{refl, ◌∙◌}
use Rattle.message_read.proofs.Laws.{give_none, give_all}
use Rattle.message_read.proofs.give.Goals as goal

pub returns-then-values-n : goal.returns-then-values-n
returns-then-values-n c = let s = c.args.s.now in
    let values = c.args.values.now in
    let i = c.args.from in
    let n = c.args.n in
    let g = give_none s values i n c.if-values-n.true in
    (c.refusal.ensures ∙ g.0, g.1)

pub returns : goal.returns
returns c = let s = c.args.s.now in
    let values = c.args.values.now in
    let i = c.args.from in
    let n = c.args.n in
    give_all s values i n c.if-values-n.false c.requires.1 c.put_head.ensures c.put_entries-to.ensures.0 c.put_entries-to.ensures.1 c.put_entries.ensures.1 refl
