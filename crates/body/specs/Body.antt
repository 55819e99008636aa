-- One body (document 01, "The table" and "Totals"): when it is valid, and its totals.
use Rattle.std.specs.Prelude.{ℕ, zero, suc, ◌+◌, ◌*◌, Bool, true, false, ◌&&◌, ◌||◌, cond, List, [], ◌∷◌, eqb, ltb}
use Rattle.record.specs.Slot.{slot_size, replaced_line, record_at, rest_zero}
use Rattle.record.specs.declared.Record.{Record}
use Rattle.ranges.specs.Ranges.{zeros}
use Rattle.valid.specs.Valid.{record_ok, executed}
use Rattle.slots.specs.Slots.{used_at, records_at, distinct}

-- A VALID BODY

-- a used slot is valid: its record, and zeros where nothing is held
unfoldable pub slot_ok : List ℕ → ℕ → Bool
slot_ok t at = rest_zero t at && record_ok (record_at t at)

-- the n slots from `at` on are valid used ones
unfoldable pub slots_ok : List ℕ → ℕ → ℕ → Bool
slots_ok t at zero = true
slots_ok t at (suc n) = slot_ok t at && slots_ok t (at + slot_size) n

-- a body of n slots from `at` on: used slots are valid, "empty slots are all zero and follow the used ones", no key stands twice
unfoldable pub body_ok : List ℕ → ℕ → ℕ → Bool
body_ok t at n =
    slots_ok t at (used_at t at n)
    && (zeros t (at + slot_size * used_at t at n) (at + slot_size * n)
    && distinct (records_at t at n))

-- THE TOTALS

-- the cents of the executed lines of all records of a kind: paid for a mandato's, collected for a reversale's
unfoldable pub cents_of : ℕ → List Record → ℕ
cents_of k [] = 0
cents_of k (r ∷ rs) = cond (eqb r.kind k) (executed r) 0 + cents_of k rs

-- REPLACED LINES (document 02, Req 07: "it becomes replaced (line state 3)")

unfoldable pub any_replaced : List ℕ → Bool
any_replaced [] = false
any_replaced (s ∷ states) = eqb s replaced_line || any_replaced states

-- no line of the records is
unfoldable pub none_replaced : List Record → Bool
none_replaced [] = true
none_replaced (r ∷ rs) = cond (any_replaced r.states) false (none_replaced rs)

-- CLOSED YEARS (document 02, Req 14: "a valid table holds no record of that or an earlier year"): every record is of a later year
unfoldable pub all_later : ℕ → List Record → Bool
all_later year [] = true
all_later year (r ∷ rs) = ltb year r.esercizio && all_later year rs
