use mathlib.Core.Path.{◌≡◌, sym, ap, subst, ◌∙◌}
use Prim.Native.Nat.{◌+◌}
use native.Mathlib.Omega.{arith}
use lib.ListN.{drop}
use Rattle.schema.specs.declared.Parent.{Parent}
use Rattle.schema.specs.declared.Holds.TheVariants.{Rows}
use Rattle.rows.specs.Replaces.{rows_for}
use Rattle.orders.specs.Shape.{order_rows}
use Rattle.orders.specs.Orders.{kind_of}
use Rattle.orders.proofs.Laws.{one, Inside, kind_alike, shaped_some, shaped_inside, order_inside}
use Rattle.orders.proofs.order_of.Goals as goal

pub order_from-requires : goal.order_from-requires
order_from-requires c = absurd (shaped_some one (drop 1 order_rows) 3 c.args.s.now c.args.k c.in-Text.field-0 c.in-Text.is c.requires.0)

pub overflow_add-at : goal.overflow_add-at
overflow_add-at c = omega (arith, c.requires.0.within)

pub rows_for-q-requires : goal.rows_for-q-requires
rows_for-q-requires c = (omega (arith, c.requires.0.within), c.requires.1)

pub white_end-requires : goal.white_end-requires
white_end-requires c = omega (arith, c.requires.0.within)

pub order_from-requires-in-Rows : goal.order_from-requires-in-Rows
order_from-requires-in-Rows c = let s = c.args.s.now in
    let k = c.args.k in
    let p = c.in-Rows.p in
    let e : k.holds ≡ Rows p = c.in-Rows.is in
    let q = c.rows_for-q.result in
    let z : q ≡ rows_for p s (k.child.gt + 1) = c.rows_for-q.ensures in
    let n = subst (λ (x : Parent). Inside order_rows 2 s k x) (sym z) (shaped_inside order_rows 2 s k p e c.requires.0) in
    (n.rows, rw c.white_end.ensures n.filled, c.requires.1)

pub returns-in-Text : goal.returns-in-Text
returns-in-Text c = absurd (shaped_some one (drop 1 order_rows) 3 c.args.s.now c.args.k c.in-Text.field-0 c.in-Text.is c.requires.0)

pub returns-in-Rows : goal.returns-in-Rows
returns-in-Rows c = let s = c.args.s.now in
    let k = c.args.k in
    let p = c.in-Rows.p in
    let e : k.holds ≡ Rows p = c.in-Rows.is in
    let q = c.rows_for-q.result in
    let z : q ≡ rows_for p s (k.child.gt + 1) = c.rows_for-q.ensures in
    let n = subst (λ (x : Parent). Inside order_rows 2 s k x) (sym z) (shaped_inside order_rows 2 s k p e c.requires.0) in
    (order_inside s k q c.white_end.result c.white_end.ensures n (ap kind_of e ∙ sym (kind_alike p s (k.child.gt + 1)) ∙ ap (λ (x : Parent). kind_of (Rows x)) (sym z)) c.order_from-in-Rows.result c.order_from-in-Rows.ensures.0, c.order_from-in-Rows.ensures.1)
