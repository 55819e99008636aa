-- The orders of a flow from a place on, as they are walked: names for the contracts of the code.
use Rattle.std.specs.Prelude.{ℕ, ◌≤◌, ◌≡◌, true, List, map, length}
use Rattle.markup.specs.Noted.{Noted}
use Rattle.schema.specs.declared.Parent.{Parent}
use Rattle.rows.specs.Kept.{kept_from}
use Rattle.structure.specs.Structure.{all_kept, kept_holds, fits_at}
use Rattle.order.specs.Ordinativo.{Ordinativo, ordinativo}
use Rattle.orders.specs.Orders.{orders_in}

-- the orders among a root's named children from a place on
abbrev pub orders_from : Parent → List ℕ → ℕ → List Ordinativo
orders_from root f from = map ordinativo (orders_in f (kept_from root f from))

-- these each hold what their row says, and the notes are true
pub record Rooted (root : Parent) (f past : List ℕ) (from : ℕ) : Type 0 where
  pub within : from ≤ length f
  pub holds : all_kept (kept_holds (λ q a. fits_at 3 q f a) f) (kept_from root f from) ≡ true
  pub noted : Noted f past
