use mathlib.Core.Path.{sym, ap, ◌∙◌}
use native.Mathlib.Omega.{arith}
use lib.ListN.{length}
use Rattle.children.proofs.Laws.{Lies}
use Rattle.orders.specs.Orders.{is_order}
use Rattle.orders.proofs.Laws.{those_at, orders_end, orders_one}
use Rattle.orders.proofs.count_orders.Goals as goal

pub loop-k-init : goal.loop-k-init
loop-k-init c = (c.requires.0, omega arith, omega arith)

pub next_order-requires : goal.next_order-requires
next_order-requires c = (c.loop-k.invariant.0, c.requires.1)

pub returns : goal.returns
returns c = let o = ap length (orders_end _ _ c.loop-k.i (sym c.next_order.ensures ∙ c.in_default.is)) in
    omega (arith, c.loop-k.invariant.2)

pub overflow_add-n : goal.overflow_add-n
overflow_add-n c = omega (arith, ((those_at is_order _ _ _ c.in-Some.k (sym c.next_order.ensures ∙ c.in-Some.is)).lies))

pub loop-k-smaller : goal.loop-k-smaller
loop-k-smaller c = omega (arith, ((those_at is_order _ _ _ c.in-Some.k (sym c.next_order.ensures ∙ c.in-Some.is)).lies))

pub loop-k-preserved : goal.loop-k-preserved
loop-k-preserved c = let l : Lies c.args.s.now c.loop-k.i c.in-Some.k.child = (those_at is_order _ _ _ c.in-Some.k (sym c.next_order.ensures ∙ c.in-Some.is)).lies in
    let o = ap length (orders_one _ _ _ c.in-Some.k (sym c.next_order.ensures ∙ c.in-Some.is)) in
    (l.within, omega arith, omega (arith, c.loop-k.invariant.2))
