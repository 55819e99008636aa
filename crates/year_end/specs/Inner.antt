-- What the functions of this crate ask of a body. The promises speak of none of it.
use Rattle.std.specs.Prelude.{ℕ, ◌+◌, ◌*◌, ◌≤◌, ◌≡◌, true, List, length}
use Rattle.bounds.specs.Bounds.{max_slots}
use Rattle.record.specs.Slot.{slot_size}
use Rattle.body.specs.Body.{body_ok}
use Rattle.entries.specs.Entry.{entry_size}

-- its entry at e lies before its slots, these lie in the table and are valid
pub record Fits (t : List ℕ) (e base n : ℕ) : Type 0 where
  pub entry : e + entry_size ≤ base
  pub inside : base + slot_size * n ≤ length t
  pub few : n ≤ max_slots
  pub valid : body_ok t base n ≡ true
