-- The records of a body's slots (document 01, "The table").
use Rattle.std.specs.Prelude.{ℕ, zero, suc, ◌+◌, ◌-◌, ◌*◌, Bool, true, ◌&&◌, cond, List, [], ◌∷◌, get_or, eqb, Option, Some, None}
use Rattle.record.specs.Slot.{slot_size, states_offset, record_at, key_is, key_of}
use Rattle.record.specs.declared.Record.{Record}
use Rattle.record.specs.declared.Key.{Key}
use Rattle.ranges.specs.Ranges.{is_nothing}

-- THE RECORDS

-- how many of the n slots from `at` on are used: those before the first empty one ("0 empty")
unfoldable pub used_at : List ℕ → ℕ → ℕ → ℕ
used_at t at zero = 0
used_at t at (suc n) = cond (eqb (get_or t at 0) 0) 0 (suc (used_at t (at + slot_size) n))

-- the records of the n slots from `at` on
unfoldable pub slots_at : List ℕ → ℕ → ℕ → List Record
slots_at t at zero = []
slots_at t at (suc n) = record_at t at ∷ slots_at t (at + slot_size) n

-- the records of a body that has n slots from `at` on
abbrev pub records_at : List ℕ → ℕ → ℕ → List Record
records_at t at n = slots_at t at (used_at t at n)

-- no record, an empty slot's: nothing ever looks past the last one
abbrev pub no_record : Record
no_record = record_at [] 0

-- the record at an index of a body's records
abbrev pub nth : List Record → ℕ → Record
nth rs i = get_or rs i no_record

-- where the state of line `line`, counted from 1, of the record at index i stands, of a body whose slots begin at base: "24-31 eight line states"
abbrev pub state_place : ℕ → ℕ → ℕ → ℕ
state_place base i line = base + slot_size * i + states_offset + (line - 1)

-- THE SEARCH

-- the first of the records with this key; i is the first record's index
unfoldable pub find_in : List Record → ℕ → Key → Option ℕ
find_in [] i k = None
find_in (r ∷ rs) i k = cond (key_is r k) (Some i) (find_in rs (i + 1) k)

-- "no two records of one body share kind, esercizio and number"
unfoldable pub distinct : List Record → Bool
distinct [] = true
distinct (r ∷ rs) = is_nothing (find_in rs 0 (key_of r)) && distinct rs
