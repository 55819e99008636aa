use mathlib.Core.Path.{refl, sym, ap, ◌∙◌}
use native.Mathlib.Omega.{arith}
use Rattle.rows.specs.Kept.{next_of}
use Rattle.rows.proofs.Laws.{next_at}
use Rattle.orders.specs.Orders.{is_order}
use Rattle.orders.proofs.Laws.{those_done, those_other, those_one}
use Rattle.orders.proofs.next_order.Goals as goal

pub loop-k-init : goal.loop-k-init
loop-k-init c = (c.requires.0, refl)

pub next_named-requires : goal.next_named-requires
next_named-requires c = (c.loop-k.invariant.0, c.requires.1)

pub returns : goal.returns
returns c = sym (ap next_of (c.loop-k.invariant.1 ∙ those_done is_order _ _ c.loop-k.i (sym c.next_named.ensures ∙ c.in_default.is)))

pub returns-then-holds_order : goal.returns-then-holds_order
returns-then-holds_order c = sym (ap next_of (c.loop-k.invariant.1 ∙ those_one is_order _ _ c.loop-k.i c.in-Some.k (sym c.next_named.ensures ∙ c.in-Some.is) (sym c.holds_order.ensures ∙ c.if-holds_order.true)))

pub loop-k-smaller : goal.loop-k-smaller
loop-k-smaller c = let l = (next_at _ _ c.loop-k.i c.in-Some.k (sym c.next_named.ensures ∙ c.in-Some.is)).lies in
    omega arith

pub loop-k-preserved : goal.loop-k-preserved
loop-k-preserved c = ((next_at _ _ c.loop-k.i c.in-Some.k (sym c.next_named.ensures ∙ c.in-Some.is)).lies.within, c.loop-k.invariant.1 ∙ those_other is_order _ _ c.loop-k.i c.in-Some.k (sym c.next_named.ensures ∙ c.in-Some.is) (sym c.holds_order.ensures ∙ c.if-holds_order.false))
