-- The orders of a flow from a place on, as they are served.
use Rattle.std.specs.Prelude.{ℕ, ◌+◌, ◌*◌, ◌≤◌, ◌≡◌, true, List, map, length}
use Rattle.markup.specs.Noted.{Noted}
use Rattle.schema.specs.declared.Parent.{Parent}
use Rattle.rows.specs.Kept.{kept_from}
use Rattle.structure.specs.Structure.{all_kept, kept_holds, fits_at}
use Rattle.order.specs.Ordinativo.{Ordinativo, ordinativo}
use Rattle.orders.specs.Orders.{orders_in}
use Rattle.bounds.specs.Bounds.{max_slots}
use Rattle.words.specs.Numbers.{put}
use Rattle.record.specs.Slot.{slot_size}
use Rattle.body.specs.Body.{body_ok}
use Rattle.rules.specs.Inner.{Writables}
use Rattle.service.specs.Service.{all_leave, all_outcomes, all_accepted, all_steps}
use Rattle.serving.specs.declared.FlowSums.{FlowSums}

-- the orders among a root's named children from a place on
abbrev pub orders_from : Parent → List ℕ → ℕ → List Ordinativo
orders_from root f from = map ordinativo (orders_in f (kept_from root f from))

-- these each hold what their row says, and the notes are true
pub record Rooted (root : Parent) (f past : List ℕ) (from : ℕ) : Type 0 where
  pub within : from ≤ length f
  pub holds : all_kept (kept_holds (λ q a. fits_at 3 q f a) f) (kept_from root f from) ≡ true
  pub noted : Noted f past

-- a record can hold these orders and their year, as those of a flow that stands
pub record Storable (year : ℕ) (os : List Ordinativo) : Type 0 where
  pub dated : (2000 ≤ year) × (year ≤ 2099)
  pub written : Writables os

-- a body that they can be served on: its slots lie in the table and are valid
pub record Servable (t : List ℕ) (base n year : ℕ) (os : List Ordinativo) : Type 0 where
  pub inside : base + slot_size * n ≤ length t
  pub few : n ≤ max_slots
  pub valid : body_ok t base n ≡ true
  pub orders : Storable year os

-- the greatest sum of steps that a word can hold
abbrev pub max_steps : ℕ
max_steps = 18446744073709551615

-- the orders os served one after another on the table t, their outcomes written into the buffer out: how many were accepted, the steps of their
-- searches, and the two buffers afterwards
abbrev pub AllServed : List ℕ → ℕ → ℕ → ℕ → List Ordinativo → List ℕ → FlowSums → List ℕ → List ℕ → Type 0
AllServed t base n year os out s t' out' =
    (s.accepted ≡ all_accepted t base n year os) × (s.steps ≡ all_steps t base n year os)
    × (t' ≡ all_leave t base n year os) × (out' ≡ put out 0 (all_outcomes t base n year os))
