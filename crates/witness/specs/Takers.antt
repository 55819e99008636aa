-- WHAT TAKES CALLS, right or wrong: functions from what a call is lent to an answer and the buffers afterwards. What is proved impossible of those that
-- keep the promises are document 01's five programs ("How tight the promises are") and its "Errors we have seen made", each said by what it does at
-- every input, or, where it says `somewhere`, at one input at least.
use Rattle.std.specs.Prelude.{ℕ, ◌+◌, ◌*◌, ◌<◌, ◌≤◌, ◌≡◌, Bool, true, List, [], ◌∷◌, ◌++◌, length, get_or, Result, Some, Ok, Err}
use Rattle.std.proofs.Math.Option.{some}
use Rattle.digits.specs.Digits.{digits}
use Rattle.codes.specs.declared.Operation.TheVariants.{Annullo}
use Rattle.calendar.specs.declared.Date.{Date}
use Rattle.record.specs.declared.Key.{Key}
use Rattle.record.specs.declared.Record.{Record}
use Rattle.entries.specs.Entry.{request_size, slots_of, codes_from}
use Rattle.table.specs.Table.{table_ok, bodies, body_of, entry_of}
use Rattle.request.specs.Request.{first_body, asked}
use Rattle.opening.specs.declared.OpenRefusal.{OpenRefusal}
use Rattle.opening.specs.declared.OpenRefusal.TheVariants.{WrongRequest}
use Rattle.opening.specs.Opening.{OpenPromise}
use Rattle.order.specs.Ordinativo.{Ordinativo}
use Rattle.fields.specs.declared.Cause.{Cause}
use Rattle.editions.specs.declared.Edition.{Edition}
use Rattle.editions.specs.Editions.{edition_of}
use Rattle.flow.specs.declared.Breakage.TheVariants.{FieldBreaks}
use Rattle.flow.specs.Flow.{verdict_of, header_of, flow_orders}
use Rattle.slots.specs.Slots.{nth}
use Rattle.rules.specs.Rules.{key_for}
use Rattle.rules.specs.Effects.{all_records}
use Rattle.rules.specs.Listed.{Has, Differs}
use Rattle.service.specs.Service.{outcome_size, order_leaves}
use Rattle.notices.specs.declared.NoticeRefusal.{NoticeRefusal}
use Rattle.notices.specs.declared.TotalsAnswer.{TotalsAnswer}
use Rattle.notices.specs.Notices.{NoticePromise, TotalsPromise}
use Rattle.desk.specs.declared.FlowRefusal.{FlowRefusal}
use Rattle.desk.specs.declared.FlowReply.{FlowReply}
use Rattle.desk.specs.Desk.{served, flow_reads, FlowPromise, flow_reply}
use Rattle.theorems.specs.Engine.{flow as a_flow, who, body_records, owned}
use Rattle.theorems.specs.Codes.{outcome_codes, zero_codes}

-- FLOWS: from a table, an edition's number, a flow and a lent outcome buffer
pub record Taker : Type 0 where
  pub answer : List ℕ → ℕ → List ℕ → List ℕ → Result (ℕ × ℕ × ℕ) FlowRefusal
  pub table : List ℕ → ℕ → List ℕ → List ℕ → List ℕ
  pub outcomes : List ℕ → ℕ → List ℕ → List ℕ → List ℕ

-- it keeps the promise that `desk::take_flow` is proved to keep
abbrev pub Keeps : Taker → Type 0
Keeps T = (t : List ℕ) (ed : ℕ) (f out : List ℕ) → FlowPromise t ed f out (T.answer t ed f out) (T.table t ed f out) (T.outcomes t ed f out)

module _ (T : Taker) where
  -- document 01's numbers of its answer
  abbrev reply : List ℕ → ℕ → List ℕ → List ℕ → FlowReply
  reply t ed f out = flow_reply (T.answer t ed f out)

  -- "a reader that refuses every flow"
  abbrev pub RefusesAll : Type 0
  RefusesAll = (t : List ℕ) (ed : ℕ) (f out : List ℕ) → (reply t ed f out).code ≡ 0 → ⊥

  -- "one that gives one outcome to every order". (Byte 2 of an outcome's 16 is its code)
  abbrev pub OneOutcome : Type 0
  OneOutcome = (t : List ℕ) (ed : ℕ) (f out : List ℕ) (i j : ℕ) → i < (reply t ed f out).orders → j < (reply t ed f out).orders
      → get_or (T.outcomes t ed f out) (16 * i + 2) 0 ≡ get_or (T.outcomes t ed f out) (16 * j + 2) 0

  -- "one that answers 0 and stores nothing"
  abbrev pub StoresNothing : Type 0
  StoresNothing = (t : List ℕ) (ed : ℕ) (f out : List ℕ) → (reply t ed f out).code ≡ 0 → T.table t ed f out ≡ t

  -- "one that serves a flow's first order and only writes outcomes for the others"
  abbrev pub FirstOnly : Type 0
  FirstOnly = (t : List ℕ) (ed : ℕ) (f out : List ℕ) (base n year : ℕ) (o : Ordinativo) (os : List Ordinativo) → flow_reads t ed f (length out) ≡ served base n year (o ∷ os)
      → T.table t ed f out ≡ order_leaves t base n year o

  -- "one that invents `accepted`": answers 0 and somewhere an `accepted` that isn't how many of the outcomes it wrote have code 0
  pub record InventsAccepted : Type 0 where
    pub table : List ℕ
    pub number : ℕ
    pub flow : List ℕ
    pub lent : List ℕ
    pub taken : (reply table number flow lent).code ≡ 0
    pub other : (reply table number flow lent).accepted ≡ zero_codes (outcome_codes (reply table number flow lent).orders (T.outcomes table number flow lent)) → ⊥

  -- or tells it from the number of orders alone
  abbrev pub CountsOrders : Type 0
  CountsOrders = (g : ℕ → ℕ) × ((t : List ℕ) (ed : ℕ) (f out : List ℕ) → (reply t ed f out).accepted ≡ g (reply t ed f out).orders)

  -- "A changed order keeping old amounts in lines it no longer has": somewhere a valid table has, after a flow, a record with an amount in a line that
  -- the record hasn't
  pub record KeepsAmounts : Type 0 where
    pub table : List ℕ
    pub number : ℕ
    pub flow : List ℕ
    pub lent : List ℕ
    pub valid : table_ok table ≡ true
    pub body : ℕ
    pub there : body < bodies (T.table table number flow lent)
    pub slot : ℕ
    pub used : slot < length (body_records body (T.table table number flow lent))
    pub line : ℕ
    pub gone : (nth (body_records body (T.table table number flow lent)) slot).lines ≤ line
    pub kept : get_or (nth (body_records body (T.table table number flow lent)) slot).amounts line 0 ≡ 0 → ⊥

  -- somewhere: a flow that it takes, and the body that the flow names
  pub record Somewhere : Type 0 where
    pub table : List ℕ
    pub number : ℕ
    pub flow : List ℕ
    pub lent : List ℕ
    pub taken : (reply table number flow lent).code ≡ 0
    pub at : ℕ
    pub edition : Edition
    pub numbered : edition_of number ≡ Some edition
    pub stands : verdict_of edition flow ≡ Ok at
    pub body : ℕ
    pub named : body_of table (header_of edition flow at).ente ≡ Some body

  -- the flow's esercizio, the body's slots, and its records after the first orders of the flow
  abbrev year : Somewhere → ℕ
  year w = (header_of w.edition w.flow w.at).esercizio

  abbrev slots : Somewhere → ℕ
  slots w = slots_of w.table (entry_of w.body)

  abbrev after : Somewhere → List Ordinativo → List Record
  after w os = all_records (slots w) (year w) os (body_records w.body w.table)

  -- "ANNULLO by number alone, where the school meant another order": somewhere an ANNULLO gets 0 though total, number of lines or a line amount differs
  -- from the record of its key, on what the orders before it left
  pub record AnnulsByNumber : Type 0 where
    pub here : Somewhere
    pub before : List Ordinativo
    pub order : Ordinativo
    pub others : List Ordinativo
    pub orders : flow_orders here.edition here.flow here.at ≡ before ++ (order ∷ others)
    pub annuls : order.operation ≡ Annullo
    pub old : Record
    pub has : Has (after here before) (key_for (year here) order) old
    pub meant : Differs order old
    pub answered : get_or (T.outcomes here.table here.number here.flow here.lent) (outcome_size * length before + 2) 0 ≡ 0

  -- "'No slot' answered because another body filled its own", or for whatever reason: somewhere the first order of a flow gets 15, though its body has
  -- an empty slot
  pub record NoSlotForOthers : Type 0 where
    pub here : Somewhere
    pub empty : length (body_records here.body here.table) < slots here
    pub order : Ordinativo
    pub others : List Ordinativo
    pub first : flow_orders here.edition here.flow here.at ≡ order ∷ others
    pub answered : get_or (T.outcomes here.table here.number here.flow here.lent) 2 0 ≡ 15

  -- "A flow half applied before a late field broke": somewhere a field breaks, and the table is another
  pub record HalfApplied : Type 0 where
    pub table : List ℕ
    pub number : ℕ
    pub flow : List ℕ
    pub lent : List ℕ
    pub place : ℕ
    pub cause : Cause
    pub edition : Edition
    pub numbered : edition_of number ≡ Some edition
    pub late : verdict_of edition flow ≡ Err (FieldBreaks place cause)
    pub changed : T.table table number flow lent ≡ table → ⊥

  -- a body served on another body's slots: somewhere a flow that names one body of a valid table changes what another body owns
  pub record ServesElsewhere : Type 0 where
    pub table : List ℕ
    pub number : ℕ
    pub flow : List ℕ
    pub lent : List ℕ
    pub valid : table_ok table ≡ true
    pub body : ℕ
    pub named : who table (a_flow number flow lent) ≡ some body
    pub other : ℕ
    pub there : other < bodies table
    pub apart : other ≡ body → ⊥
    pub changed : owned table other (T.table table number flow lent) ≡ owned table other table → ⊥

-- NOTICES, TOTALS AND OPENING
pub record Notifier : Type 0 where
  pub answer : List ℕ → Bool → List ℕ → Key → ℕ → Date → Result ℕ NoticeRefusal
  pub table : List ℕ → Bool → List ℕ → Key → ℕ → Date → List ℕ

abbrev pub KeepsNotice : Notifier → Type 0
KeepsNotice N = (t : List ℕ) (executing : Bool) (code : List ℕ) (k : Key) (line : ℕ) (d : Date)
    → NoticePromise t executing code k line d (N.answer t executing code k line d) (N.table t executing code k line d)

abbrev pub Teller : Type 0
Teller = List ℕ → List ℕ → TotalsAnswer

abbrev pub KeepsTotals : Teller → Type 0
KeepsTotals S = (t code : List ℕ) → TotalsPromise t code (S t code)

pub record Opener : Type 0 where
  pub answer : List ℕ → List ℕ → Result Unit OpenRefusal
  pub table : List ℕ → List ℕ → List ℕ

abbrev pub KeepsOpen : Opener → Type 0
KeepsOpen O = (q t : List ℕ) → OpenPromise q t (O.answer q t) (O.table q t)

-- "or `used`": somewhere a `used` that isn't how many records the body has
pub record InventsUsed (S : Teller) : Type 0 where
  pub table : List ℕ
  pub code : List ℕ
  pub body : ℕ
  pub valid : table_ok table ≡ true
  pub named : body_of table code ≡ Some body
  pub other : (S table code).used ≡ length (body_records body table) → ⊥

-- or one told without a look at the table
abbrev pub UsedUnseen : Teller → Type 0
UsedUnseen S = (g : List ℕ → ℕ) × ((t code : List ℕ) → (S t code).used ≡ g code)

-- "ANY CODE TURNED INTO AN INTEGER AND BACK": two codes that are numbers of one value are taken for one. Codes that are no numbers, and codes of no
-- body, it may well keep apart
pub record SameValue (a b : List ℕ) : Type 0 where
  pub value : ℕ
  pub left : digits 1 16 a ≡ Some value
  pub right : digits 1 16 b ≡ Some value

-- such codes of two bodies of a table
pub record Mixed (t a b : List ℕ) : Type 0 where
  pub one : ℕ
  pub other : ℕ
  pub left : body_of t a ≡ Some one
  pub right : body_of t b ≡ Some other
  pub value : SameValue a b

-- flows that stand and differ in nothing but codice_ente_BT are answered alike
abbrev pub ByNumber : Taker → Type 0
ByNumber T = (t : List ℕ) (ed : ℕ) (e : Edition) → edition_of ed ≡ Some e → (f g out : List ℕ) (i j : ℕ) → verdict_of e f ≡ Ok i → verdict_of e g ≡ Ok j
    → (header_of e f i).abi ≡ (header_of e g j).abi → (header_of e f i).esercizio ≡ (header_of e g j).esercizio → flow_orders e f i ≡ flow_orders e g j
    → Mixed t (header_of e f i).ente (header_of e g j).ente → T.answer t ed f out ≡ T.answer t ed g out

abbrev pub NoticeByNumber : Notifier → Type 0
NoticeByNumber N = (t a b : List ℕ) → Mixed t a b → (executing : Bool) (k : Key) (line : ℕ) (d : Date)
    → N.answer t executing a k line d ≡ N.answer t executing b k line d

abbrev pub TotalsByNumber : Teller → Type 0
TotalsByNumber S = (t a b : List ℕ) → Mixed t a b → S t a ≡ S t b

-- the code of the body asked for at place i of a request
abbrev pub code_asked : List ℕ → ℕ → List ℕ
code_asked q i = get_or (codes_from request_size q first_body (asked q)) i []

-- a request for two such bodies is held to repeat a code
abbrev pub OpenByNumber : Opener → Type 0
OpenByNumber O = (q t : List ℕ) (i j : ℕ) → i < j → j < asked q → SameValue (code_asked q i) (code_asked q j) → O.answer q t ≡ Err WrongRequest
