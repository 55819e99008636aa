use mathlib.Core.Path.{◌≡◌}
use native.Mathlib.Omega.{arith}
use lib.ListN.{drop}
use Rattle.schema.specs.declared.Holds.TheVariants.{Rows}
use Rattle.orders.specs.Shape.{named_rows}
use Rattle.orders.proofs.Laws.{one, shaped_some, shaped_other, named_inside}
use Rattle.orders.proofs.named_of.Goals as goal

pub named_from-requires : goal.named_from-requires
named_from-requires c = let s = c.args.s.now in
    let k = c.args.k in
    let p = c.in-Rows.p in
    let e : k.holds ≡ Rows p = c.in-Rows.is in
    let n = shaped_other named_rows 0 s k p (λ x. omega arith) e c.requires.0 in
    (rw c.white_end.ensures n.filled, c.requires.1)

pub returns-in-Text : goal.returns-in-Text
returns-in-Text c = absurd (shaped_some one (drop 1 named_rows) 1 c.args.s.now c.args.k c.in-Text.field-0 c.in-Text.is c.requires.0)

pub returns-in-Rows : goal.returns-in-Rows
returns-in-Rows c = let s = c.args.s.now in
    let k = c.args.k in
    let p = c.in-Rows.p in
    let e : k.holds ≡ Rows p = c.in-Rows.is in
    let n = shaped_other named_rows 0 s k p (λ x. omega arith) e c.requires.0 in
    named_inside s k p c.white_end.result c.white_end.ensures n c.named_from.result c.named_from.ensures
