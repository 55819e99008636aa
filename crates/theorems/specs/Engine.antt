-- THE DESK'S CALLS AS A MACHINE: its states are a table's bytes, its calls flows, notices, totals, journals and closes, and its answers any engine's that keeps the calls'
-- promises. Which body a call names and which bytes a body owns are read from t₀, the table that the calls start from.
use Rattle.std.specs.Prelude.{ℕ, zero, suc, ◌+◌, ◌*◌, ◌≡◌, true, false, cond, List, [], ◌∷◌, ◌++◌, length, leb, Option as Maybe, Result, Some, None, Ok, Err}
use Rattle.std.proofs.Math.Option.{Option, none, some}
use Rattle.bounds.specs.Bounds.{max_flow}
use Rattle.scan.specs.Bytes.{part, text_is}
use Rattle.calendar.specs.declared.Date.{Date}
use Rattle.target_days.specs.Target.{target_code}
use Rattle.record.specs.Slot.{slot_size}
use Rattle.record.specs.declared.Key.{Key}
use Rattle.record.specs.declared.Record.{Record}
use Rattle.slots.specs.Slots.{records_at}
use Rattle.entries.specs.Entry.{entry_size, entry_fixed, slots_of, place_of}
use Rattle.table.specs.Table.{head_size, bodies, abi_of, body_of, entry_of}
use Rattle.editions.specs.declared.Edition.{Edition}
use Rattle.editions.specs.Editions.{edition_of}
use Rattle.flow.specs.declared.Breakage.{Breakage}
use Rattle.flow.specs.declared.Breakage.TheVariants.{MarkupBreaks, StructureBreaks, FieldBreaks}
use Rattle.flow.specs.Flow.{verdict_of, header_of}
use Rattle.notices.specs.declared.NoticeRefusal.{NoticeRefusal}
use Rattle.notices.specs.declared.TotalsAnswer.{TotalsAnswer}
use Rattle.notices.specs.Notices.{NoticePromise, notice_code_of, TotalsPromise}
use Rattle.journal.specs.Journal.{JournalPromise}
use Rattle.year_end.specs.declared.CloseRefusal.{CloseRefusal}
use Rattle.year_end.specs.YearEnd.{ClosePromise, close_code}
use Rattle.desk.specs.declared.FlowRefusal.{FlowRefusal}
use Rattle.desk.specs.Desk.{FlowPromise, flow_code}
use Rattle.isolation.specs.Machine.{Machine, state_after}

-- THE CALLS
pub data Call : Type 0 where
  -- an edition's number, a flow's bytes, and those of the outcome buffer that it lends. "a body may mix editions" (document 02, Req 05): each flow has its own
  flow : ℕ → List ℕ → List ℕ → Call
  -- a notice of execution or reversal: body code; kind, esercizio and number; line; date
  execute : List ℕ → Key → ℕ → Date → Call
  reverse : List ℕ → Key → ℕ → Date → Call
  -- body code
  totals : List ℕ → Call
  -- body code; a journal's movements (document 02, Req 10)
  journal : List ℕ → List ℕ → Call
  -- body code; the year to close (document 02, Req 14)
  close : List ℕ → ℕ → Call

pub data Answer : Type 0 where
  -- with the outcome buffer's bytes afterwards
  of_flow : Result (ℕ × ℕ × ℕ) FlowRefusal → List ℕ → Answer
  of_notice : Result ℕ NoticeRefusal → Answer
  of_totals : TotalsAnswer → Answer
  of_journal : ℕ → Answer
  of_close : Result ℕ CloseRefusal → Answer

-- what each call promises: on the table t, the answer a and the table t' afterwards
abbrev pub Step : Call → List ℕ → Answer → List ℕ → Type 0
Step (flow ed f out) t a t' = (r : Result (ℕ × ℕ × ℕ) FlowRefusal) × (out' : List ℕ) × FlowPromise t ed f out r t' out' × (a ≡ of_flow r out')
Step (execute code k line d) t a t' = (r : Result ℕ NoticeRefusal) × NoticePromise t true code k line d r t' × (a ≡ of_notice r)
Step (reverse code k line d) t a t' = (r : Result ℕ NoticeRefusal) × NoticePromise t false code k line d r t' × (a ≡ of_notice r)
Step (totals code) t a t' = (r : TotalsAnswer) × TotalsPromise t code r × (a ≡ of_totals r) × (t' ≡ t)
Step (journal code s) t a t' = (r : ℕ) × JournalPromise t code s r × (a ≡ of_journal r) × (t' ≡ t)
Step (close code year) t a t' = (r : Result ℕ CloseRefusal) × ClosePromise t code year r t' × (a ≡ of_close r)

-- an engine that keeps the promises on every table
pub record Engine : Type 0 where
  pub answer : Call → List ℕ → Answer
  pub next : Call → List ℕ → List ℕ
  pub keeps : (c : Call) (t : List ℕ) → Step c t (answer c t) (next c t)

-- WHAT MAY HAPPEN from a table on: a log of calls with their answers, and the table in the end, each step as its call promises
pub data Happens : List ℕ → List (Call × Answer) → List ℕ → Type 0 where
  nothing : (t : List ℕ) → Happens t [] t
  step : {t t' u : List ℕ} {c : Call} {a : Answer} {ls : List (Call × Answer)} → Step c t a t' → Happens t' ls u → Happens t ((c, a) ∷ ls) u

-- an answer's code
abbrev pub answer_code : Answer → ℕ
answer_code (of_flow a out) = flow_code a
answer_code (of_notice a) = notice_code_of a
answer_code (of_totals a) = a.code
answer_code (of_journal c) = c
answer_code (of_close a) = close_code a

-- WHICH BODY A CALL NAMES, read from the call and from t₀, the table that the calls start from: its ABI digits and its bodies' codes.

-- a flow of an edition names a body when it stands and its codice_ABI_BT is the table's: by its codice_ente_BT
abbrev pub names_in : Edition → List ℕ → List ℕ → Result ℕ Breakage → Option (List ℕ)
names_in e t₀ f (Err (MarkupBreaks p)) = none
names_in e t₀ f (Err StructureBreaks) = none
names_in e t₀ f (Err (FieldBreaks p c)) = none
names_in e t₀ f (Ok at) = cond (text_is (abi_of t₀) (header_of e f at).abi) (some (header_of e f at).ente) none

-- and none where its number names no edition
abbrev pub names_by : List ℕ → List ℕ → Maybe Edition → Option (List ℕ)
names_by t₀ f (Some e) = cond (leb (length f) max_flow) (names_in e t₀ f (verdict_of e f)) none
names_by t₀ f None = none

-- a notice names a body when its date is a TARGET day: by its code
abbrev pub names_on : ℕ → List ℕ → Option (List ℕ)
names_on zero code = some code
names_on (suc c) code = none

abbrev pub names : List ℕ → Call → Option (List ℕ)
names t₀ (flow ed f out) = names_by t₀ f (edition_of ed)
names t₀ (execute code k line d) = names_on (target_code d) code
names t₀ (reverse code k line d) = names_on (target_code d) code
names t₀ (totals code) = some code
names t₀ (journal code s) = some code
names t₀ (close code year) = some code

abbrev pub which_body : Maybe ℕ → Option ℕ
which_body (Some b) = some b
which_body None = none

-- the place of a code among those of t₀, compared byte by byte
abbrev pub position : List ℕ → Option (List ℕ) → Option ℕ
position t₀ (some code) = which_body (body_of t₀ code)
position t₀ none = none

abbrev pub who : List ℕ → Call → Option ℕ
who t₀ c = position t₀ (names t₀ c)

-- BODY b of a table t: its records
abbrev pub body_records : ℕ → List ℕ → List Record
body_records b t = records_at t (place_of t (entry_of b)) (slots_of t (entry_of b))

-- WHAT BODY b OWNS of a table t: its entry's bytes past the fixed ones, and the bytes of its slots, where t₀ has them
abbrev pub owned : List ℕ → ℕ → List ℕ → List ℕ
owned t₀ b t =
    part t (entry_of b + entry_fixed) (entry_of b + entry_size)
    ++ part t (place_of t₀ (entry_of b)) (place_of t₀ (entry_of b) + slot_size * slots_of t₀ (entry_of b))

-- WHAT NO BODY OWNS: the length, the head, and each entry's fixed bytes
unfoldable pub fixed_bytes : List ℕ → ℕ → ℕ → List (List ℕ)
fixed_bytes t at zero = []
fixed_bytes t at (suc n) = part t at (at + entry_fixed) ∷ fixed_bytes t (at + entry_size) n

pub record Rest : Type 0 where
  pub long : ℕ
  pub head : List ℕ
  pub entries : List (List ℕ)

abbrev pub unowned : List ℕ → List ℕ → Rest
unowned t₀ t = record { long = length t; head = part t 0 head_size; entries = fixed_bytes t head_size (bodies t₀) }

-- THE MACHINE of an engine's calls that start from the table t₀
abbrev pub machine : Engine → List ℕ → Machine
machine E t₀ = record {
  State = List ℕ;
  Call = Call;
  Answer = Answer;
  Part = List ℕ;
  Rest = Rest;
  count = bodies t₀;
  who = who t₀;
  answer = E.answer;
  next = E.next;
  part = owned t₀;
  rest = unowned t₀;
}

-- the table after the calls cs
abbrev pub table_after : Engine → List ℕ → List Call → List ℕ
table_after E t₀ cs = state_after (machine E t₀) cs t₀
