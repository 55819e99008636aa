-- "shown to be at most orders times the body's slots" (document 02, Req 09).
use Prim.Native.Nat.{ℕ, ◌*◌, ◌≤◌}
use mathlib.Core.List.{List, [], ◌∷◌}
use native.Mathlib.Omega.{arith}
use lib.ListN.{length}
use Rattle.order.specs.Ordinativo.{Ordinativo}
use Rattle.slots.specs.Slots.{records_at}
use Rattle.slots.proofs.Laws.{used_le}
use Rattle.slots.proofs.Index.{length_records}
use Rattle.rules.proofs.Searches.{steps_most}
use Rattle.service.specs.Service.{order_steps, order_leaves, all_steps}

-- a search looks at no more slots than the body has
pub order_most : (t : List ℕ) (base n year : ℕ) (o : Ordinativo) → order_steps t base n year o ≤ n
order_most t base n year o = omega (arith, steps_most year o (records_at t base n), length_records t base n, used_le t base n)

-- nor do those of a flow's orders, for each of them
pub all_most : (t : List ℕ) (base n year : ℕ) (os : List Ordinativo) → all_steps t base n year os ≤ length os * n
unfolding all_steps
all_most t base n year [] = omega arith
all_most t base n year (o ∷ os) = omega (arith, order_most t base n year o, all_most (order_leaves t base n year o) base n year os)
