-- THE LISTED REFUSALS (document 01, "Answers"; document 02, Req 07), each by what it says. An order or a notice is accepted exactly when none of them
-- applies; otherwise its code is that of the one that applies and has the first turn (crates/theorems/proofs/Exactly.antt).
use Rattle.std.specs.Prelude.{ℕ, ◌+◌, ◌-◌, ◌*◌, ◌≤◌, ◌<◌, ◌≡◌, Bool, true, false, cond, ◌⊎◌, length, get_or, eqb}
use mathlib.Core.List.{List, map, Memᴰ}
use Rattle.codes.specs.declared.Operation.{Operation}
use Rattle.codes.specs.declared.Operation.TheVariants.{Inserimento, Variazione, Annullo, Sostituzione}
use Rattle.order.specs.declared.Line.{Line}
use Rattle.order.specs.Ordinativo.{no_line, Ordinativo}
use Rattle.record.specs.declared.Record.{Record}
use Rattle.record.specs.declared.Key.{Key}
use Rattle.record.specs.Slot.{annulled_state, executed_line, replaced_line, key_of}
use Rattle.lines.specs.Lines.{sum_of}
use Rattle.rules.specs.Rules.{key_for, eight_places, amounts_of}

-- r is one of the records, the one of this kind, esercizio and number
pub record Has (rs : List Record) (k : Key) (r : Record) : Type 0 where
  pub among : Memᴰ r rs
  pub key : key_of r ≡ k

abbrev pub HasNone : List Record → Key → Type 0
HasNone rs k = (r : Record) → Has rs k r → ⊥

-- "state (1 acquired, 2 annulled)"
abbrev pub IsAnnulled : Record → Type 0
IsAnnulled r = r.state ≡ annulled_state

-- "line states (.. 1 waiting, 2 executed)" and (document 02, Req 07) "replaced (line state 3)": line k, counted from 0
abbrev pub IsExecuted : Record → ℕ → Type 0
IsExecuted r k = get_or r.states k 0 ≡ executed_line

abbrev pub IsReplaced : Record → ℕ → Type 0
IsReplaced r k = get_or r.states k 0 ≡ replaced_line

-- AN ORDER

-- "numbered 1, 2, 3 and so on"
abbrev pub Numbered : List Line → Type 0
Numbered ls = (k : ℕ) → k < length ls → get_or (map (λ (l : Line). l.progressivo) ls) k 0 ≡ k + 1

-- "total, number of lines or a line amount differs from the record"
pub data Differs (o : Ordinativo) (r : Record) : Type 0 where
  total : (o.total ≡ r.total → ⊥) → Differs o r
  count : (length o.lines ≡ r.lines → ⊥) → Differs o r
  amounts : (eight_places (amounts_of o.lines) ≡ r.amounts → ⊥) → Differs o r

-- the operations on an order that is there
pub data OnRecord : Operation → Type 0 where
  variazione : OnRecord Variazione
  annullo : OnRecord Annullo

-- the operations with a new order. Document 02, Req 07: SOSTITUZIONE "carries a new order"
pub data WithNew : Operation → Type 0 where
  inserimento : WithNew Inserimento
  sostituzione : WithNew Sostituzione

-- THE LINE THAT A LINE NAMES, "of the same kind and body, by number, line and esercizio": line j of the order, counted from 0
abbrev pub line_at : Ordinativo → ℕ → Line
line_at o j = get_or o.lines j no_line

abbrev pub named_key : Ordinativo → ℕ → Key
named_key o j = record { kind = o.kind; esercizio = (line_at o j).named.esercizio; number = (line_at o j).named.number }

abbrev pub named_number : Ordinativo → ℕ → ℕ
named_number o j = (line_at o j).named.line

-- THE TURN of each refusal is a number: those of a lower one come first. "12 ..; 13 ..; then the step table ..; then 19 .. or 15", and between these
-- two a SOSTITUZIONE's named lines, 24, 25 and 26 "line by line, then 15"
abbrev pub name_turn : ℕ → ℕ
name_turn j = 4 + 3 * j

abbrev pub last_turn : Ordinativo → ℕ
last_turn o = name_turn (length o.lines)

-- the refusals of an order in the esercizio `year`, for a body with so many slots and these records: turn, then code
pub data Applies (slots year : ℕ) (o : Ordinativo) (rs : List Record) : ℕ → ℕ → Type 0 where
  -- "12 lines not numbered 1, 2, 3 and so on"
  misnumbered : (Numbered o.lines → ⊥) → Applies slots year o rs 1 12
  -- "13 line amounts don't sum to the total"
  missummed : (sum_of o.lines ≡ o.total → ⊥) → Applies slots year o rs 2 13
  -- INSERIMENTO or SOSTITUZIONE of an order that is there, whatever its situation
  present : WithNew o.operation → (r : Record) → Has rs (key_for year o) r → Applies slots year o rs 3 14
  -- VARIAZIONE or ANNULLO of an order that is absent, annulled, or has a line that is executed or replaced
  absent : OnRecord o.operation → HasNone rs (key_for year o) → Applies slots year o rs 3 16
  annulled : OnRecord o.operation → (r : Record) → Has rs (key_for year o) r → IsAnnulled r → Applies slots year o rs 3 17
  executed : OnRecord o.operation → (r : Record) → Has rs (key_for year o) r → (IsAnnulled r → ⊥) → (k : ℕ) → IsExecuted r k ⊎ IsReplaced r k → Applies slots year o rs 3 18
  -- "24 named line absent": no such order, line 0 or past its lines
  no_order : o.operation ≡ Sostituzione → (j : ℕ) → j < length o.lines → HasNone rs (named_key o j) → Applies slots year o rs (name_turn j) 24
  line_zero : o.operation ≡ Sostituzione → (j : ℕ) → j < length o.lines → named_number o j ≡ 0 → Applies slots year o rs (name_turn j) 24
  line_past : o.operation ≡ Sostituzione → (j : ℕ) → j < length o.lines → (r : Record) → Has rs (named_key o j) r → r.lines < named_number o j
      → Applies slots year o rs (name_turn j) 24
  -- "25 not executed or already replaced, also earlier in this order"
  not_executed : o.operation ≡ Sostituzione → (j : ℕ) → j < length o.lines → (r : Record) → Has rs (named_key o j) r → (IsExecuted r (named_number o j - 1) → ⊥)
      → Applies slots year o rs (name_turn j + 1) 25
  named_before : o.operation ≡ Sostituzione → (j : ℕ) → j < length o.lines → (i : ℕ) → i < j → (line_at o i).named ≡ (line_at o j).named
      → Applies slots year o rs (name_turn j + 1) 25
  -- "26 other amount"
  other_amount : o.operation ≡ Sostituzione → (j : ℕ) → j < length o.lines → (r : Record) → Has rs (named_key o j) r
      → (get_or r.amounts (named_number o j - 1) 0 ≡ (line_at o j).amount → ⊥) → Applies slots year o rs (name_turn j + 2) 26
  -- "15 (INSERIMENTO: the body has no empty slot)"; of a SOSTITUZIONE too
  full : WithNew o.operation → slots ≤ length rs → Applies slots year o rs (last_turn o) 15
  -- "19 (ANNULLO: total, number of lines or a line amount differs from the record)"
  differs : o.operation ≡ Annullo → (r : Record) → Has rs (key_for year o) r → Differs o r → Applies slots year o rs (last_turn o) 19

-- A NOTICE of execution (true) or reversal (false) for line `line`, counted from 1, of the order with this key
pub data NoticeApplies (executing : Bool) (k : Key) (line : ℕ) (rs : List Record) : ℕ → Type 0 where
  -- "16 (no such order)"
  unknown : HasNone rs k → NoticeApplies executing k line rs 16
  -- "17"
  closed : (r : Record) → Has rs k r → IsAnnulled r → NoticeApplies executing k line rs 17
  -- "20 (no such line)": "Line 0 or past the order's lines"
  zeroth : line ≡ 0 → NoticeApplies executing k line rs 20
  past : (r : Record) → Has rs k r → r.lines < line → NoticeApplies executing k line rs 20
  -- "for execution 21 (already executed), for reversal 22 (not executed)"; a replaced line: "executing it gets 21, reversing it 22"
  already : executing ≡ true → (r : Record) → Has rs k r → IsExecuted r (line - 1) ⊎ IsReplaced r (line - 1) → NoticeApplies executing k line rs 21
  not_yet : executing ≡ false → (r : Record) → Has rs k r → (IsExecuted r (line - 1) → ⊥) → NoticeApplies executing k line rs 22

-- the turn of each: "16 (no such order), 17, 20 (no such line), then for execution 21 .., for reversal 22"
abbrev pub notice_turn : ℕ → ℕ
notice_turn c = cond (eqb c 16) 1 (cond (eqb c 17) 2 (cond (eqb c 20) 3 4))
