-- Closing an esercizio in one body (document 02, Req 14): "its records are removed, the rest move up"; and what stands against it.
use Rattle.std.specs.Prelude.{ℕ, Bool, false, ◌&&◌, ◌||◌, not, cond, List, [], ◌∷◌, length, eqb, ltb}
use Rattle.record.specs.declared.Record.{Record}
use Rattle.record.specs.Slot.{acquired_state, waiting_line}
use Rattle.slots.specs.Slots.{slots_at}
use Rattle.packing.specs.Packing.{packed, flag}

-- one of the records passes a test, and those that pass it in their own order
unfoldable pub any : (Record → Bool) → List Record → Bool
any p [] = false
any p (r ∷ rs) = p r || any p rs

unfoldable pub keep : (Record → Bool) → List Record → List Record
keep p [] = []
keep p (r ∷ rs) = cond (p r) (r ∷ keep p rs) (keep p rs)

-- A RECORD of the year, of another, of an earlier one: whatever its state
abbrev pub of_year : ℕ → Record → Bool
of_year year r = eqb r.esercizio year

abbrev pub other_year : ℕ → Record → Bool
other_year year r = not (of_year year r)

abbrev pub of_earlier : ℕ → Record → Bool
of_earlier year r = ltb r.esercizio year

-- WHAT STANDS AGAINST IT: "38 a record of an earlier year remains"
abbrev pub earlier_remains : ℕ → List Record → Bool
earlier_remains year rs = any (of_earlier year) rs

-- "39 an acquired order of that year has a waiting line"
unfoldable pub any_waiting : List ℕ → Bool
any_waiting [] = false
any_waiting (s ∷ states) = eqb s waiting_line || any_waiting states

unfoldable pub waits : ℕ → Record → Bool
waits year r = of_year year r && (eqb r.state acquired_state && any_waiting r.states)

abbrev pub line_waits : ℕ → List Record → Bool
line_waits year rs = any (waits year) rs

-- WHAT IT LEAVES: "its records are removed, the rest move up", and "the number of records removed"
abbrev pub staying : ℕ → List Record → List Record
staying year rs = keep (other_year year) rs

abbrev pub removed : ℕ → List Record → ℕ
removed year rs = length (keep (of_year year) rs)

-- IN A BODY'S n SLOTS: one that stays is used, and of another year
unfoldable pub stays : ℕ → Record → Bool
stays year r = not (eqb r.kind 0) && other_year year r

unfoldable pub flags_by : (Record → Bool) → List Record → List ℕ
flags_by p [] = []
flags_by p (r ∷ rs) = flag (p r) ∷ flags_by p rs

-- the flags of the slots, and the table with those that stay moved up and the others empty
abbrev pub stays_at : List ℕ → ℕ → ℕ → ℕ → List ℕ
stays_at t base n year = flags_by (stays year) (slots_at t base n)

abbrev pub year_removed : List ℕ → ℕ → ℕ → ℕ → List ℕ
year_removed t base n year = packed t base (stays_at t base n year)
