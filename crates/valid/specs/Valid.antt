-- A valid record (document 01, "The table").
use Rattle.std.specs.Prelude.{ℕ, zero, suc, ◌+◌, Bool, true, ◌&&◌, cond, List, [], ◌∷◌, get_or, eqb, leb, ltb}
use Rattle.scan.specs.Bytes.{between}
use Rattle.bounds.specs.Bounds.{is_year, is_numero, max_cents}
use Rattle.calendar.specs.Calendar.{is_date}
use Rattle.record.specs.declared.Record.{Record}
use Rattle.record.specs.Slot.{mandato_kind, reversale_kind, acquired_state, annulled_state, waiting_line, executed_line, replaced_line}

-- a line that is there is waiting, executed or (document 02, Req 07) replaced; "an annulled order has every line waiting"
unfoldable pub line_there : Bool → ℕ → ℕ → Bool
line_there annulled state amount = between waiting_line (cond annulled waiting_line replaced_line) state && leb amount max_cents

-- "lines that aren't there have state and amount zero"
unfoldable pub line_absent : ℕ → ℕ → Bool
line_absent state amount = eqb state 0 && eqb amount 0

-- the record's line k, counted from 0
unfoldable pub line_ok : Record → ℕ → Bool
line_ok r k =
    cond (ltb k r.lines)
    (line_there (eqb r.state annulled_state) (get_or r.states k 0) (get_or r.amounts k 0))
    (line_absent (get_or r.states k 0) (get_or r.amounts k 0))

-- f holds of the m numbers from k on
unfoldable pub all_from : (ℕ → Bool) → ℕ → ℕ → Bool
all_from f k zero = true
all_from f k (suc m) = f k && all_from f (k + 1) m

unfoldable pub sum : List ℕ → ℕ
sum [] = 0
sum (a ∷ rest) = a + sum rest

-- "fields lie in the ranges above"
unfoldable pub ranges_ok : Record → Bool
ranges_ok r =
    between mandato_kind reversale_kind r.kind && (between acquired_state annulled_state r.state && (between 1 8 r.lines
    && (is_year r.esercizio && (is_numero r.number && (is_date r.date && leb r.total max_cents)))))

-- a record that is valid by itself: ranges, its eight lines, and "line amounts sum to the total"
unfoldable pub record_ok : Record → Bool
record_ok r = ranges_ok r && (all_from (line_ok r) 0 8 && eqb (sum r.amounts) r.total)

-- EXECUTED LINES: the cents of a record's executed lines (document 01, "Totals")
unfoldable pub executed_in : List ℕ → List ℕ → ℕ
executed_in [] amounts = 0
executed_in (s ∷ states) [] = 0
executed_in (s ∷ states) (a ∷ amounts) = cond (eqb s executed_line) a 0 + executed_in states amounts

abbrev pub executed : Record → ℕ
executed r = executed_in r.states r.amounts
