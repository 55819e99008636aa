use mathlib.Core.Path.{◌≡◌}
use Prim.Native.Nat.{◌-◌, ◌≤◌}
use lib.ListN.{length}
use Rattle.rows.specs.Kept.{kept_from}
use Rattle.orders.specs.Orders.{those, is_order}
use Rattle.orders.proofs.next_order.Given as goal

abbrev pub invariant-loop-k : goal.invariant-loop-k
invariant-loop-k l = (l.i ≤ length l.s) × (those is_order (kept_from l.root l.s l.from) ≡ those is_order (kept_from l.root l.s l.i))

abbrev pub decreases-loop-k : goal.decreases-loop-k
decreases-loop-k l = length l.s - l.i
