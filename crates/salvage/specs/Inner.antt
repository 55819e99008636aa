-- What the functions of this crate ask of a body's entry. The promises speak of none of it.
use Rattle.std.specs.Prelude.{ℕ, ◌+◌, ◌*◌, ◌≤◌, List, length}
use Rattle.bounds.specs.Bounds.{max_slots}
use Rattle.record.specs.Slot.{slot_size}
use Rattle.entries.specs.Entry.{entry_size, slots_of, place_of}

-- the entry at `at` lies before its slots, and these in the table
pub record Fits (t : List ℕ) (at : ℕ) : Type 0 where
  pub past : at + entry_size ≤ place_of t at
  pub inside : place_of t at + slot_size * slots_of t at ≤ length t
  pub few : slots_of t at ≤ max_slots
