-- The rules (document 01, "Answers"): what an order or a notice comes to, over one body's records.
use Rattle.std.specs.Prelude.{ℕ, zero, suc, ◌-◌, Bool, true, false, ◌&&◌, ◌||◌, cond, List, [], ◌∷◌, ◌++◌, length, get_or, take, replicate, eqb, leb, ltb, Option, Result, Some, None, Ok, Err}
use Rattle.codes.specs.declared.Operation.{Operation}
use Rattle.codes.specs.declared.Operation.TheVariants.{Inserimento, Variazione, Annullo, Sostituzione}
use Rattle.order.specs.declared.Line.{Line}
use Rattle.order.specs.Ordinativo.{Ordinativo}
use Rattle.record.specs.declared.Record.{Record}
use Rattle.record.specs.declared.Key.{Key}
use Rattle.record.specs.Slot.{acquired_state, annulled_state, waiting_line, executed_line, replaced_line, key_of, record_with}
use Rattle.slots.specs.Slots.{nth, find_in}
use Rattle.lines.specs.Lines.{line_code}
use Rattle.replacing.specs.Replacing.{namings, replace_code}
use Rattle.rules.specs.declared.Situation.{Situation}
use Rattle.rules.specs.declared.Situation.TheVariants.{Absent, Annulled, Waiting, Executed}
use Rattle.rules.specs.declared.Change.{Change}
use Rattle.rules.specs.declared.Change.TheVariants.{Insert, Vary, Annul, Replace}

-- THE OPERATIONS: which change an order asks for
abbrev pub change_of : Operation → Change
change_of Inserimento = Insert
change_of Variazione = Vary
change_of Annullo = Annul
change_of Sostituzione = Replace

-- THE STEP TABLE

-- a line that was executed, and may have been replaced since. Document 02, Req 07: "A replaced line .. blocks VARIAZIONE and ANNULLO with 18; executing it
-- gets 21"
abbrev pub was_executed : ℕ → Bool
was_executed state = eqb state executed_line || eqb state replaced_line

unfoldable pub any_executed : List ℕ → Bool
any_executed [] = false
any_executed (s ∷ states) = was_executed s || any_executed states

-- the situation of an order that is there
unfoldable pub situation_in : Record → Situation
situation_in r = cond (eqb r.state annulled_state) Annulled (cond (any_executed r.states) Executed Waiting)

-- a row: "absent; annulled; acquired, all lines waiting; acquired, a line executed"
abbrev pub row : ℕ → ℕ → ℕ → ℕ → Situation → ℕ
row absent annulled waiting executed Absent = absent
row absent annulled waiting executed Annulled = annulled
row absent annulled waiting executed Waiting = waiting
row absent annulled waiting executed Executed = executed

-- "The step table is held as three rows of four codes". SOSTITUZIONE "carries a new order; .. 12, 13 and 14 apply" (document 02, Req 07): INSERIMENTO's row
abbrev pub step_code : Change → Situation → ℕ
step_code Insert s = row 0 14 14 14 s
step_code Vary s = row 16 17 0 18 s
step_code Annul s = row 16 17 0 18 s
step_code Replace s = row 0 14 14 14 s

-- WHAT AN ORDER COMES TO

-- "by the body's record of the order's kind and number and the flow's esercizio"
abbrev pub key_for : ℕ → Ordinativo → Key
key_for year o = record { kind = o.kind; esercizio = year; number = o.number }

unfoldable pub situation_of : List Record → Option ℕ → Situation
situation_of rs None = Absent
situation_of rs (Some i) = situation_in (nth rs i)

-- EIGHT PLACES of a record, nothing after what there is: "eight line states (0 no line ..)", "eight amounts"
abbrev pub eight_places : List ℕ → List ℕ
eight_places ns = take 8 (ns ++ replicate 8 0)

unfoldable pub amounts_of : List Line → List ℕ
amounts_of [] = []
amounts_of (l ∷ ls) = l.amount ∷ amounts_of ls

unfoldable pub same_list : List ℕ → List ℕ → Bool
same_list [] [] = true
same_list [] (b ∷ y) = false
same_list (a ∷ x) [] = false
same_list (a ∷ x) (b ∷ y) = eqb a b && same_list x y

-- "19 (ANNULLO: total, number of lines or a line amount differs from the record)"
unfoldable pub same_order : Ordinativo → Record → Bool
same_order o r = eqb o.total r.total && (eqb (length o.lines) r.lines && same_list (eight_places (amounts_of o.lines)) r.amounts)

-- after a step of 0: the slot that the order's record takes. "15 (INSERIMENTO: the body has no empty slot)"
abbrev pub first_empty : Change → ℕ → List Record → Result (Change × ℕ) ℕ
first_empty c slots rs = cond (ltb (length rs) slots) (Ok (c, (length rs))) (Err 15)

abbrev pub if_same : Ordinativo → List Record → ℕ → Result (Change × ℕ) ℕ
if_same o rs i = cond (same_order o (nth rs i)) (Ok (Annul, i)) (Err 19)

-- refused with a code, or what comes after where it is 0
abbrev pub unless : {A : Type 0} → (ℕ → A) → ℕ → A → A
unless refuse zero next = next
unless refuse (suc c) next = refuse (suc c)

-- document 02, Req 07: "then 24 named line absent, 25 .., 26 .., line by line, then 15"
unfoldable pub placed : ℕ → Ordinativo → List Record → Change → Option ℕ → Result (Change × ℕ) ℕ
placed slots o rs Insert f = first_empty Insert slots rs
placed slots o rs Replace f = unless Err (replace_code rs (namings o)) (first_empty Replace slots rs)
placed slots o rs Vary (Some i) = Ok (Vary, i)
placed slots o rs Vary None = Err 16
placed slots o rs Annul (Some i) = if_same o rs i
placed slots o rs Annul None = Err 16

unfoldable pub stepped : ℕ → Ordinativo → List Record → Change → Option ℕ → Result (Change × ℕ) ℕ
stepped slots o rs c f = unless Err (step_code c (situation_of rs f)) (placed slots o rs c f)

-- "12 ..; 13 ..; then the step table ..; then 19 .. or 15 ..; else 0"
abbrev pub judge_change : ℕ → ℕ → Ordinativo → List Record → Change → Result (Change × ℕ) ℕ
judge_change slots year o rs c = unless Err (line_code o.lines o.total) (stepped slots o rs c (find_in rs 0 (key_for year o)))

unfoldable pub judge_order : ℕ → ℕ → Ordinativo → List Record → Result (Change × ℕ) ℕ
judge_order slots year o rs = judge_change slots year o rs (change_of o.operation)

-- document 01's code
abbrev pub order_code : Result (Change × ℕ) ℕ → ℕ
order_code (Ok (c, i)) = 0
order_code (Err code) = code

-- WHAT IS WRITTEN

-- a record of this key and state with the order's date, total and lines, all of them in one line state
abbrev pub record_of : Key → ℕ → ℕ → Ordinativo → Record
record_of k state line_state o =
    record_with k state (length o.lines) o.date o.total (eight_places (replicate (length o.lines) line_state)) (eight_places (amounts_of o.lines))

-- the record that an accepted change leaves in its slot, which held r: "INSERIMENTO fills the body's first empty slot with all lines waiting;
-- VARIAZIONE replaces date, total and lines; ANNULLO sets the state only". Document 02, Req 07: "the new line is executed at once"
unfoldable pub written : ℕ → Ordinativo → Record → Change → Record
written year o r Insert = record_of (key_for year o) acquired_state waiting_line o
written year o r Replace = record_of (key_for year o) acquired_state executed_line o
written year o r Vary = record_of (key_of r) r.state waiting_line o
written year o r Annul = record_with (key_of r) annulled_state r.lines r.date r.total r.states r.amounts

-- A NOTICE: "Execution sets the line executed; reversal sets it waiting again"

-- 0 where a line of this state moves, else "for execution 21 (already executed), for reversal 22 (not executed)"; a replaced line: "executing it gets 21,
-- reversing it 22"
unfoldable pub line_moves : Bool → ℕ → ℕ
line_moves true state = cond (was_executed state) 21 0
line_moves false state = cond (eqb state executed_line) 0 22

abbrev pub moved_to : Bool → ℕ
moved_to true = executed_line
moved_to false = waiting_line

-- "17; 20 (no such line)": line 0 or past the order's lines
unfoldable pub notice_in : Bool → ℕ → ℕ → Record → Result (ℕ × ℕ) ℕ
notice_in executing line i r =
    cond (eqb r.state annulled_state) (Err 17)
    (cond (leb 1 line && leb line r.lines)
    (unless Err (line_moves executing (get_or r.states (line - 1) 0)) (Ok (i, (get_or r.amounts (line - 1) 0))))
    (Err 20))

unfoldable pub notice_at : Bool → ℕ → List Record → Option ℕ → Result (ℕ × ℕ) ℕ
notice_at executing line rs None = Err 16
notice_at executing line rs (Some i) = notice_in executing line i (nth rs i)

-- "Order: .. 16 (no such order), 17, 20 (no such line), then for execution 21 .., for reversal 22"
unfoldable pub judge_notice : Bool → Key → ℕ → List Record → Result (ℕ × ℕ) ℕ
judge_notice executing k line rs = notice_at executing line rs (find_in rs 0 k)

-- document 01's code
abbrev pub notice_code : Result (ℕ × ℕ) ℕ → ℕ
notice_code (Ok (i, cents)) = 0
notice_code (Err c) = c
