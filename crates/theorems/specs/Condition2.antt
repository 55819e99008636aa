-- CONDITION 2 of the tender letter, about the calls' own promises: whatever keeps them does this. Proved: `condition2 : Condition2`.
use Rattle.std.specs.Prelude.{ℕ, ◌+◌, ◌*◌, ◌<◌, ◌≤◌, pos, ◌-ℤ◌, ◌≡◌, Bool, true, false, cond, length, eqb, Result, Some, None as Nothing, Ok, Err}
use mathlib.Core.List.{List, [], ◌∷◌, ◌++◌, Memᴰ}
use Rattle.journal.specs.Told.{Exactly}
use Rattle.calendar.specs.declared.Date.{Date}
use Rattle.target_days.specs.Target.{target_code}
use Rattle.record.specs.declared.Key.{Key}
use Rattle.record.specs.Slot.{mandato_kind, reversale_kind}
use Rattle.slots.specs.Slots.{records_at}
use Rattle.body.specs.Body.{cents_of}
use Rattle.entries.specs.Entry.{slots_of, place_of}
use Rattle.scan.specs.Bytes.{text_is}
use Rattle.table.specs.Table.{table_ok, bodies, body_of, entry_of, abi_of}
use Rattle.record.specs.declared.Record.{Record}
use Rattle.editions.specs.declared.Edition.{Edition}
use Rattle.editions.specs.Editions.{edition_of}
use Rattle.flow.specs.Flow.{verdict_of, header_of, flow_orders}
use Rattle.order.specs.Ordinativo.{Ordinativo}
use Rattle.tree.specs.Flow.{Answered}
use Rattle.rules.specs.Rules.{order_code, judge_order, judge_notice}
use Rattle.rules.specs.Effects.{records_by, all_records, records_moved}
use Rattle.rules.specs.Searches.{steps_of}
use Rattle.rules.specs.Listed.{Applies, NoticeApplies, notice_turn}
use Rattle.service.specs.Service.{order_comes}
use Rattle.notices.specs.declared.NoticeRefusal.{NoticeRefusal}
use Rattle.notices.specs.declared.NoticeRefusal.TheVariants.{InvalidTable, WrongDay, UnknownBody, Declined}
use Rattle.notices.specs.declared.TotalsAnswer.{TotalsAnswer}
use Rattle.notices.specs.Notices.{noticed, NoticePromise, notice_code_of, zero_totals, TotalsPromise}
use Rattle.request.specs.Request.{needed, request_ok}
use Rattle.opening.specs.declared.OpenRefusal.{OpenRefusal}
use Rattle.opening.specs.Opening.{open_code, OpenPromise}
use Rattle.desk.specs.declared.FlowRefusal.{FlowRefusal}
use Rattle.desk.specs.Desk.{FlowPromise, flow_code, flow_reply}
use Rattle.theorems.specs.Engine.{body_records}
use Rattle.theorems.specs.Given.{broken_place, breaks_by, flow_refusals, first_of, verdict_as}
use Rattle.theorems.specs.Codes.{outcome_codes, zero_codes}
use Rattle.rules.specs.declared.Change.{Change}

-- the codes that the rules give a flow's orders, "each on the table the one before left", over a body's records
abbrev pub codes_in_turn : ℕ → ℕ → List Ordinativo → List Record → List ℕ
codes_in_turn slots year [] rs = []
codes_in_turn slots year (o ∷ os) rs = order_code (judge_order slots year o rs) ∷ codes_in_turn slots year os (records_by year o rs (judge_order slots year o rs))

-- the slots that their searches looked at, together (document 02, Req 09)
abbrev pub steps_in_turn : ℕ → ℕ → List Ordinativo → List Record → ℕ
steps_in_turn slots year [] rs = 0
steps_in_turn slots year (o ∷ os) rs = steps_of year o rs + steps_in_turn slots year os (records_by year o rs (judge_order slots year o rs))

-- what an order comes to for body b of a table
abbrev pub comes_to : List ℕ → ℕ → ℕ → Ordinativo → Result (Change × ℕ) ℕ
comes_to t b year o = order_comes t (place_of t (entry_of b)) (slots_of t (entry_of b)) year o

-- a key that no record of a valid body has
pub data Strange (k : Key) : Type 0 where
  kind : (k.kind ≡ mandato_kind → ⊥) → (k.kind ≡ reversale_kind → ⊥) → Strange k
  number : k.number ≡ 0 → Strange k

-- no refusal applies, whatever its code
abbrev pub None : (ℕ → Type 0) → Type 0
None applies = (c : ℕ) → applies c → ⊥

-- the same of refusals that have a turn and a code: none applies; this code's applies, none that applies having an earlier turn
abbrev pub NoneListed : (ℕ → ℕ → Type 0) → Type 0
NoneListed applies = (t c : ℕ) → applies t c → ⊥

abbrev pub FirstListed : (ℕ → ℕ → Type 0) → ℕ → Type 0
FirstListed applies code = (t : ℕ) × applies t code × ((u c : ℕ) → applies u c → t ≤ u)

-- a refusal that applies, none that applies having an earlier turn
abbrev pub InTurn : (ℕ → ℕ) → (ℕ → Type 0) → ℕ → Type 0
InTurn turn applies code = applies code × ((c : ℕ) → applies c → turn code ≤ turn c)

-- of every order for a body of a valid table; and of every notice for such a body whose date is a TARGET day, with an answer and a table afterwards that keep
-- its promise
abbrev pub EachOrder : (List ℕ → ℕ → ℕ → Ordinativo → Type 0) → Type 0
EachOrder P = (t : List ℕ) → table_ok t ≡ true → (b : ℕ) → b < bodies t → (year : ℕ) (o : Ordinativo) → P t b year o

abbrev pub EachNotice : (List ℕ → ℕ → Bool → Key → ℕ → Result ℕ NoticeRefusal → List ℕ → Type 0) → Type 0
EachNotice P = (t : List ℕ) → table_ok t ≡ true → (code : List ℕ) (b : ℕ) → body_of t code ≡ Some b
    → (executing : Bool) (k : Key) (line : ℕ) (d : Date) → target_code d ≡ 0
    → (a : Result ℕ NoticeRefusal) (t' : List ℕ) → NoticePromise t executing code k line d a t'
    → P t b executing k line a t'

-- A FLOW THAT IS TAKEN, on a table t with the outcome buffer out' and the table t' afterwards
pub record Taken (t : List ℕ) (ed : ℕ) (f : List ℕ) (a : Result (ℕ × ℕ × ℕ) FlowRefusal) (t' out' : List ℕ) : Type 0 where
  -- the table is valid; its number names an edition, by which the flow stands, its codice_ABI_BT is the table's, and its codice_ente_BT is the code of this body
  pub valid : table_ok t ≡ true
  pub edition : Edition
  pub numbered : edition_of ed ≡ Some edition
  pub at : ℕ
  pub stands : verdict_of edition f ≡ Ok at
  pub bank : text_is (abi_of t) (header_of edition f at).abi ≡ true
  pub body : ℕ
  pub named : body_of t (header_of edition f at).ente ≡ Some body
  -- each of its orders has "1 to 8 informazioni_beneficiario", or informazioni_versante
  pub lines : (o : Ordinativo) → Memᴰ o (flow_orders edition f at) → (1 ≤ length o.lines) × (length o.lines ≤ 8)
  -- its orders, for the flow's esercizio, get the rules' codes over the body's records, and leave the records that the rules give (rules/specs/Effects)
  pub orders : (flow_reply a).orders ≡ length (flow_orders edition f at)
  pub codes : outcome_codes (length (flow_orders edition f at)) out'
      ≡ codes_in_turn (slots_of t (entry_of body)) (header_of edition f at).esercizio (flow_orders edition f at) (body_records body t)
  pub records : records_at t' (place_of t (entry_of body)) (slots_of t (entry_of body))
      ≡ all_records (slots_of t (entry_of body)) (header_of edition f at).esercizio (flow_orders edition f at) (body_records body t)
  -- "The flow's answer carries their sum, shown to be at most orders times the body's slots" (document 02, Req 09)
  pub steps : (flow_reply a).steps ≡ steps_in_turn (slots_of t (entry_of body)) (header_of edition f at).esercizio (flow_orders edition f at) (body_records body t)
  pub steps_bound : (flow_reply a).steps ≤ (flow_reply a).orders * slots_of t (entry_of body)
  -- "An order is accepted exactly when no listed refusal applies", on what the orders before it left
  pub exactly : (before : List Ordinativo) (o : Ordinativo) (after : List Ordinativo) → flow_orders edition f at ≡ before ++ (o ∷ after)
      → let rs = all_records (slots_of t (entry_of body)) (header_of edition f at).esercizio before (body_records body t) in
      Exactly (order_code (judge_order (slots_of t (entry_of body)) (header_of edition f at).esercizio o rs) ≡ 0) (NoneListed (Applies (slots_of t (entry_of body)) (header_of edition f at).esercizio o rs))

pub record Condition2 : Type 0 where
  -- "A flow is read as the profile in document 01 says": of any bytes and either edition, by grammar, tree, schema and fields alone (crates/tree/specs/Flow)
  pub reading : (e : Edition) (s : List ℕ) → Answered e s
  -- and each refusal of a flow is given exactly when document 01 says, with "place .. 0 but for code 5"; document 02, Req 03: "All other answers
  -- carry cause 0"
  pub refusals : (t : List ℕ) (ed : ℕ) (f out : List ℕ) (a : Result (ℕ × ℕ × ℕ) FlowRefusal) (t' out' : List ℕ) → FlowPromise t ed f out a t' out'
      → let v = verdict_as (edition_of ed) f in
      (flow_code a ≡ first_of (flow_refusals t (edition_of ed) f (length out) v)) × ((flow_reply a).place ≡ cond (eqb (flow_code a) 5) (broken_place v) 0)
      × ((flow_reply a).cause ≡ cond (eqb (flow_code a) 5) (breaks_by v) 0)
  -- "each order .. is answered by the step table", and accepted "exactly when no listed refusal applies": of a flow with code 0
  pub taken : (t : List ℕ) (ed : ℕ) (f out : List ℕ) (a : Result (ℕ × ℕ × ℕ) FlowRefusal) (t' out' : List ℕ) → FlowPromise t ed f out a t' out' → flow_code a ≡ 0 → Taken t ed f a t' out'
  -- and `accepted` is "how many of them got outcome code 0"
  pub accepted : (t : List ℕ) (ed : ℕ) (f out : List ℕ) (a : Result (ℕ × ℕ × ℕ) FlowRefusal) (t' out' : List ℕ) → FlowPromise t ed f out a t' out' → flow_code a ≡ 0
      → (flow_reply a).accepted ≡ zero_codes (outcome_codes (flow_reply a).orders out')
  -- "execution and reversal is answered by the .. notice rules there": by those over the records of the body with that code
  pub notices : EachNotice (λ t b executing k line a t'. a ≡ noticed (judge_notice executing k line (body_records b t)))
  pub moved : EachNotice (λ t b executing k line a t'.
      records_at t' (place_of t (entry_of b)) (slots_of t (entry_of b)) ≡ records_moved executing line (body_records b t) (judge_notice executing k line (body_records b t)))
  -- "An order is accepted exactly when no listed refusal applies." (What each says: rules/specs/Listed.) Its code is another exactly when that refusal
  -- is the first that does
  pub exactly : EachOrder (λ t b year o. Exactly (order_code (comes_to t b year o) ≡ 0) (NoneListed (Applies (slots_of t (entry_of b)) year o (body_records b t))))
  pub answer : EachOrder (λ t b year o. (c : ℕ) → (c ≡ 0 → ⊥)
      → Exactly (order_code (comes_to t b year o) ≡ c) (FirstListed (Applies (slots_of t (entry_of b)) year o (body_records b t)) c))
  -- and so is a notice
  pub notice_exactly : EachNotice (λ t b executing k line a t'. Exactly (notice_code_of a ≡ 0) (None (NoticeApplies executing k line (body_records b t))))
  pub notice_answer : EachNotice (λ t b executing k line a t'. (c : ℕ) → (c ≡ 0 → ⊥)
      → Exactly (notice_code_of a ≡ c) (InTurn notice_turn (NoticeApplies executing k line (body_records b t)) c))
  -- "1 the table isn't valid; .. 7 no body has this code", of a notice and of totals: "A refusal gives zeros"
  pub notice_refused : (t : List ℕ) (executing : Bool) (code : List ℕ) (k : Key) (line : ℕ) (d : Date) (a : Result ℕ NoticeRefusal) (t' : List ℕ)
      → NoticePromise t executing code k line d a t'
      → (table_ok t ≡ false → a ≡ Err InvalidTable)
      × (table_ok t ≡ true → target_code d ≡ 0 → body_of t code ≡ Nothing → a ≡ Err UnknownBody)
      -- "27 no date or outside the years, 28 closing day, both after 1 and before 7"
      × (table_ok t ≡ true → (target_code d ≡ 0 → ⊥) → a ≡ Err (WrongDay (target_code d)))
  pub totals_refused : (t code : List ℕ) (a : TotalsAnswer) → TotalsPromise t code a
      → (table_ok t ≡ false → a ≡ zero_totals 1) × (table_ok t ≡ true → body_of t code ≡ Nothing → a ≡ zero_totals 7)
  -- "9 opening: ABI digits, length, count, .. is wrong; 10 opening: the buffer hasn't the needed length"
  pub opening : (q t : List ℕ) (a : Result Unit OpenRefusal) (t' : List ℕ) → OpenPromise q t a t' → open_code a ≡ cond (request_ok q) (cond (eqb (length t) (needed q)) 0 10) 9
  -- "a kind other than 1 and 2, or a number 0, gets 16"
  pub no_such_order : EachNotice (λ t b executing k line a t'. Strange k → (a ≡ Err (Declined 16)) × (t' ≡ t))
  -- "a body's totals are those of its records"
  pub totals : (t : List ℕ) → table_ok t ≡ true → (code : List ℕ) (b : ℕ) → body_of t code ≡ Some b → (a : TotalsAnswer) → TotalsPromise t code a
      → (a.code ≡ 0) × (a.used ≡ length (body_records b t)) × (a.paid ≡ cents_of mandato_kind (body_records b t)) × (a.collected ≡ cents_of reversale_kind (body_records b t))
      × (a.balance ≡ pos a.collected -ℤ pos a.paid)
