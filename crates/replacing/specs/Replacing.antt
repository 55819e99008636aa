-- Replacement orders (document 02, Req 07): what the lines that a SOSTITUZIONE names come to, over one body's records, and the records that they leave.
use Rattle.std.specs.Prelude.{ℕ, zero, suc, ◌-◌, ◌&&◌, cond, List, [], ◌∷◌, get_or, set, eqb, leb, Option, Some, None}
use Rattle.words.specs.Numbers.{put}
use Rattle.order.specs.declared.Line.{Line}
use Rattle.order.specs.Ordinativo.{Ordinativo}
use Rattle.record.specs.declared.Record.{Record}
use Rattle.record.specs.Slot.{executed_line, replaced_line, with_state}
use Rattle.slots.specs.Slots.{records_at, nth, state_place, find_in}
use Rattle.replacing.specs.declared.Naming.{Naming}

-- THE LINES THAT AN ORDER NAMES: "each line names one line, of the same kind and body, by number, line and esercizio"

-- by a line of an order of this kind; beside it that line's own amount
abbrev pub naming_of : ℕ → Line → Naming
naming_of kind l = record {
  key = record { kind = kind; esercizio = l.named.esercizio; number = l.named.number };
  line = l.named.line;
  amount = l.amount;
}

unfoldable pub namings_of : ℕ → List Line → List Naming
namings_of kind [] = []
namings_of kind (l ∷ ls) = naming_of kind l ∷ namings_of kind ls

-- by all of an order's lines
abbrev pub namings : Ordinativo → List Naming
namings o = namings_of o.kind o.lines

-- ONE NAMED LINE

-- of the record r: "24 named line absent, 25 not executed or already replaced, .. 26 other amount"; 0 where it may be replaced
unfoldable pub line_named_in : Record → ℕ → ℕ → ℕ
line_named_in r line amount =
    cond (leb 1 line && leb line r.lines)
    (cond (eqb (get_or r.states (line - 1) 0) executed_line)
    (cond (eqb (get_or r.amounts (line - 1) 0) amount) 0 26)
    25)
    24

unfoldable pub named_at : List Record → Naming → Option ℕ → ℕ
named_at rs m None = 24
named_at rs m (Some i) = line_named_in (nth rs i) m.line m.amount

-- among a body's records
unfoldable pub named_code : List Record → Naming → ℕ
named_code rs m = named_at rs m (find_in rs 0 m.key)

-- "it becomes replaced (line state 3)"
unfoldable pub with_replaced_at : List Record → Naming → Option ℕ → List Record
with_replaced_at rs m None = rs
with_replaced_at rs m (Some i) = set rs i (with_state (nth rs i) (m.line - 1) replaced_line)

unfoldable pub with_replaced : List Record → Naming → List Record
with_replaced rs m = with_replaced_at rs m (find_in rs 0 m.key)

-- ALL NAMED LINES, "also earlier in this order, .. line by line": each is judged on what the lines before it marked

-- a code, or the next one where it is 0
abbrev pub first_code : ℕ → ℕ → ℕ
first_code zero next = next
first_code (suc c) next = suc c

unfoldable pub replace_code : List Record → List Naming → ℕ
replace_code rs [] = 0
replace_code rs (m ∷ ms) = first_code (named_code rs m) (replace_code (with_replaced rs m) ms)

-- the body's records with them all replaced
unfoldable pub replaced_by : List Record → List Naming → List Record
replaced_by rs [] = rs
replaced_by rs (m ∷ ms) = replaced_by (with_replaced rs m) ms

-- THE BYTES: of each named line the one byte of its state, among a body's n slots from base on

unfoldable pub line_stored : List ℕ → ℕ → Naming → Option ℕ → List ℕ
line_stored t base m None = t
line_stored t base m (Some i) = put t (state_place base i m.line) (replaced_line ∷ [])

unfoldable pub line_put : List ℕ → ℕ → ℕ → Naming → List ℕ
line_put t base n m = line_stored t base m (find_in (records_at t base n) 0 m.key)

-- the table with them all replaced
unfoldable pub lines_put : List ℕ → ℕ → ℕ → List Naming → List ℕ
lines_put t base n [] = t
lines_put t base n (m ∷ ms) = lines_put (line_put t base n m) base n ms
