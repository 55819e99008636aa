-- Where the code's array of codes has the step table's rows and columns, an order's code as the code takes it, and what it asks of an order. The promises
-- speak of none of it.
use Rattle.std.specs.Prelude.{ℕ, ◌≤◌, ◌≡◌, true, cond, List, [], ◌∷◌, length, ltb}
use Rattle.bounds.specs.Bounds.{max_cents}
use Rattle.calendar.specs.Calendar.{is_date}
use Rattle.order.specs.Ordinativo.{Ordinativo}
use Rattle.record.specs.declared.Record.{Record}
use Rattle.record.specs.Slot.{waiting_line, executed_line}
use Rattle.replacing.specs.Replacing.{namings, first_code, replace_code}
use Rattle.rules.specs.declared.Situation.{Situation}
use Rattle.rules.specs.declared.Situation.TheVariants.{Absent, Annulled, Waiting, Executed}
use Rattle.rules.specs.declared.Change.{Change}
use Rattle.rules.specs.declared.Change.TheVariants.{Insert, Vary, Annul, Replace}
use Rattle.rules.specs.Rules.{situation_in, step_code, same_order}

abbrev pub row_of : Change → ℕ
row_of Insert = 0
row_of Vary = 1
row_of Annul = 2
row_of Replace = 0

abbrev pub column_of : Situation → ℕ
column_of Absent = 0
column_of Annulled = 1
column_of Waiting = 2
column_of Executed = 3

-- AN ORDER'S CODE after its lines, from what one search told: that they are the rules' is proved (crates/rules/proofs/Codes)

-- "19 (ANNULLO: total, number of lines or a line amount differs from the record)"
abbrev pub meant_code : Change → Ordinativo → Record → ℕ
meant_code Insert o r = 0
meant_code Vary o r = 0
meant_code Annul o r = cond (same_order o r) 0 19
meant_code Replace o r = 0

-- where its record is r
abbrev pub record_code : Change → Ordinativo → Record → ℕ
record_code c o r = first_code (step_code c (situation_in r)) (meant_code c o r)

-- "24 named line absent, 25 not executed or already replaced, .. 26 other amount, line by line", of a replacement
abbrev pub names_code : Change → Ordinativo → List Record → ℕ
names_code Insert o rs = 0
names_code Vary o rs = 0
names_code Annul o rs = 0
names_code Replace o rs = replace_code rs (namings o)

-- where the body has n records, none of them its own, and the named lines come to `named`. "15 (INSERIMENTO: the body has no empty slot)"
abbrev pub absent_code : Change → ℕ → ℕ → ℕ → ℕ
absent_code c named n slots = first_code (step_code c Absent) (first_code named (cond (ltb n slots) 0 15))

-- the lines' state of a new record
abbrev pub new_state : Change → ℕ
new_state Insert = waiting_line
new_state Vary = waiting_line
new_state Annul = waiting_line
new_state Replace = executed_line

-- AN ORDER AS A FLOW THAT STANDS WRITES IT: a record can hold its values
pub record Writable (o : Ordinativo) : Type 0 where
  pub kind : (1 ≤ o.kind) × (o.kind ≤ 2)
  pub number : (1 ≤ o.number) × (o.number ≤ 9999999)
  pub date : is_date o.date ≡ true
  pub total : o.total ≤ max_cents
  pub count : (1 ≤ length o.lines) × (length o.lines ≤ 8)

pub data Writables : List Ordinativo → Type 0 where
  none : Writables []
  more : {o : Ordinativo} {os : List Ordinativo} → Writable o → Writables os → Writables (o ∷ os)
