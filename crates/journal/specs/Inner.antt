-- What the functions of this crate tell each other. The promises speak of none of it.
use Rattle.std.specs.Prelude.{ℕ, ◌+◌, ◌-◌, ◌*◌, ◌≤◌, ◌≡◌, Bool, true, ◌&&◌, ◌||◌, not, cond, List, [], ◌∷◌, length, get_or, eqb}
use Rattle.scan.specs.Bytes.{between}
use Rattle.bounds.specs.Bounds.{max_slots}
use Rattle.record.specs.Slot.{slot_size, executed_line}
use Rattle.record.specs.declared.Record.{Record}
use Rattle.record.specs.declared.Key.{Key}
use Rattle.slots.specs.Slots.{used_at, records_at, distinct}
use Rattle.journal.specs.declared.Movement.{Movement}

-- the key of the order that a movement names
abbrev pub movement_key : Movement → Key
movement_key m = record { kind = m.kind; esercizio = m.esercizio; number = m.number }

-- the line with this number is an executed one of a record
abbrev pub line_executed : Record → ℕ → Bool
line_executed r line = between 1 8 line && eqb (get_or r.states (line - 1) 0) executed_line

-- a movement's code by the record of its key, listed before or not
unfoldable pub code_by : Record → Movement → ℕ
code_by r m = cond (line_executed r m.line) (cond (eqb m.cents (get_or r.amounts (m.line - 1) 0)) 0 31) 30

-- each executed line of the records has its mark, the first at p, eight of them for a record
unfoldable pub states_marked : List ℕ → ℕ → List ℕ → Bool
states_marked marks p [] = true
states_marked marks p (s ∷ states) = (not (eqb s executed_line) || not (eqb (get_or marks p 0) 0)) && states_marked marks (p + 1) states

unfoldable pub all_marked : List ℕ → ℕ → List Record → Bool
all_marked marks p [] = true
all_marked marks p (r ∷ rs) = states_marked marks p r.states && all_marked marks (p + 8) rs

-- the slots of a body of a valid table
pub record Walked (t : List ℕ) (base n used : ℕ) : Type 0 where
  pub inside : base + slot_size * n ≤ length t
  pub few : n ≤ max_slots
  pub known : used ≡ used_at t base n
  pub keys : distinct (records_at t base n) ≡ true
