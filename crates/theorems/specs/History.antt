-- CASH BY HISTORY (document 02, Req 11): "Treasurers ask where a balance came from." What the lines of a body's log, its calls with the answers it was given,
-- tell of its records. Since Req 14 a close removes a year's records: what is said of them is said of the years that no close in the log has closed.
use Rattle.std.specs.Prelude.{ℕ, ◌+◌, ◌≤◌, ◌<◌, ◌≡◌, true, not, cond, ◌⊎◌, List, [], ◌∷◌, ◌++◌, length, eqb, ltb, Option, Result, Some, None, Ok, Err}
use Rattle.std.proofs.Math.Option.{some}
use Rattle.scan.specs.Bytes.{all}
use Rattle.record.specs.declared.Key.{Key}
use Rattle.record.specs.declared.Record.{Record}
use Rattle.record.specs.Slot.{mandato_kind, reversale_kind, replaced_line}
use Rattle.body.specs.Body.{cents_of}
use Rattle.table.specs.Table.{bodies, table_ok}
use Rattle.editions.specs.declared.Edition.{Edition}
use Rattle.editions.specs.Editions.{edition_of}
use Rattle.flow.specs.declared.Breakage.{Breakage}
use Rattle.flow.specs.declared.Breakage.TheVariants.{MarkupBreaks, StructureBreaks, FieldBreaks}
use Rattle.flow.specs.Flow.{verdict_of, header_of, flow_orders}
use Rattle.order.specs.Ordinativo.{Ordinativo}
use Rattle.notices.specs.declared.NoticeRefusal.{NoticeRefusal}
use Rattle.notices.specs.declared.NoticeRefusal.TheVariants.{InvalidTable, WrongDay, UnknownBody, Declined}
use Rattle.notices.specs.declared.TotalsAnswer.{TotalsAnswer}
use Rattle.notices.specs.Notices.{TotalsPromise}
use Rattle.opening.specs.Opening.{OpenReplies}
use Rattle.desk.specs.Desk.{flow_code}
use Rattle.rules.specs.Worth.{Which, States, Value, Years, worth_of, worth, are_held, of_kind, of_kind_in, its_cents, with_key, on_line, brought_by, given_by, come_by, gone_by}
use Rattle.isolation.specs.Order.{mine}
use Rattle.isolation.specs.Machine.{whose, log}
use Rattle.isolation.specs.Tally.{tally}
use Rattle.theorems.specs.Engine.{Call, flow, execute, reverse, totals, journal, close, Answer, of_flow, of_notice, of_totals, of_journal, of_close, Engine, answer_code, position, machine, table_after, body_records}
use Rattle.theorems.specs.Codes.{outcome_codes}

-- NOTICES
-- what an answer to a notice for line n of the order with this key weighs
abbrev pub Weight : Type 0
Weight = Key → ℕ → Result ℕ NoticeRefusal → ℕ

abbrev pub weighed : Weight → Key → ℕ → Answer → ℕ
weighed w k n (of_notice a) = w k n a
weighed w k n (of_flow a out) = 0
weighed w k n (of_totals a) = 0
weighed w k n (of_journal c) = 0
weighed w k n (of_close a) = 0

-- of a line of the log: the weight of an execution, or of a reversal; other calls weigh nothing
abbrev pub of_execution : Weight → Call → Answer → ℕ
of_execution w (execute code k n d) a = weighed w k n a
of_execution w (reverse code k n d) a = 0
of_execution w (flow ed f out) a = 0
of_execution w (totals code) a = 0
of_execution w (journal code s) a = 0
of_execution w (close code year) a = 0

abbrev pub of_reversal : Weight → Call → Answer → ℕ
of_reversal w (reverse code k n d) a = weighed w k n a
of_reversal w (execute code k n d) a = 0
of_reversal w (flow ed f out) a = 0
of_reversal w (totals code) a = 0
of_reversal w (journal code s) a = 0
of_reversal w (close code year) a = 0

-- of all lines
abbrev pub executions : Weight → List (Call × Answer) → ℕ
executions w ls = tally (of_execution w) ls

abbrev pub reversals : Weight → List (Call × Answer) → ℕ
reversals w ls = tally (of_reversal w) ls

-- an accepted notice for such an order weighs what the line is worth, by the cents in its answer; a refused one weighs nothing
abbrev pub weight : Which → Value → Weight
weight p v k n (Ok cents) = cond (p k) (v n cents) 0
weight p v k n (Err (Declined c)) = 0
weight p v k n (Err InvalidTable) = 0
weight p v k n (Err (WrongDay c)) = 0
weight p v k n (Err UnknownBody) = 0

-- cash: the orders of a kind, a line worth its cents; and of a kind in some years
abbrev pub cash : ℕ → Weight
cash kind = weight (of_kind kind) its_cents

abbrev pub cash_in : ℕ → Years → Weight
cash_in kind years = weight (of_kind_in kind years) its_cents

-- one line: the order with a key, its line of that number worth one
abbrev pub per_time : Key → ℕ → Weight
per_time key line = weight (with_key key) (on_line line)

-- ORDERS
-- what an accepted order of a flow for this esercizio weighs
abbrev pub OrderWeight : Type 0
OrderWeight = ℕ → Ordinativo → ℕ

-- of a flow's orders, with the codes of their outcomes: an order weighs where its code is 0
abbrev pub of_orders : OrderWeight → ℕ → List Ordinativo → List ℕ → ℕ
of_orders w year [] codes = 0
of_orders w year (o ∷ os) [] = 0
of_orders w year (o ∷ os) (c ∷ codes) = cond (eqb c 0) (w year o) 0 + of_orders w year os codes

-- the orders and the esercizio are those that the flow's bytes say in its edition; the codes are those in the outcome bytes of its answer
abbrev pub of_verdict : OrderWeight → Edition → List ℕ → List ℕ → Result ℕ Breakage → ℕ
of_verdict w e f out (Ok at) = of_orders w (header_of e f at).esercizio (flow_orders e f at) (outcome_codes (length (flow_orders e f at)) out)
of_verdict w e f out (Err (MarkupBreaks p)) = 0
of_verdict w e f out (Err StructureBreaks) = 0
of_verdict w e f out (Err (FieldBreaks p c)) = 0

abbrev pub of_edited : OrderWeight → List ℕ → List ℕ → Option Edition → ℕ
of_edited w f out (Some e) = of_verdict w e f out (verdict_of e f)
of_edited w f out None = 0

-- a flow answered 0; a refused one weighs nothing
abbrev pub of_taken : OrderWeight → ℕ → List ℕ → Answer → ℕ
of_taken w ed f (of_flow a out) = cond (eqb (flow_code a) 0) (of_edited w f out (edition_of ed)) 0
of_taken w ed f (of_notice a) = 0
of_taken w ed f (of_totals a) = 0
of_taken w ed f (of_journal c) = 0
of_taken w ed f (of_close a) = 0

abbrev pub of_flowed : OrderWeight → Call → Answer → ℕ
of_flowed w (flow ed f out) a = of_taken w ed f a
of_flowed w (execute code k n d) a = 0
of_flowed w (reverse code k n d) a = 0
of_flowed w (totals code) a = 0
of_flowed w (journal code s) a = 0
of_flowed w (close code year) a = 0

-- of all lines
abbrev pub accepted : OrderWeight → List (Call × Answer) → ℕ
accepted w ls = tally (of_flowed w) ls

-- what accepted replacement orders brought in of such orders' lines, and what they gave up of them by naming them (rules/specs/Worth); orders that replace
-- nothing weigh nothing
abbrev pub brought : Which → Value → List (Call × Answer) → ℕ
brought p v ls = accepted (brought_by p v) ls

abbrev pub given : Which → Value → List (Call × Answer) → ℕ
given p v ls = accepted (given_by p v) ls

-- cents that replacements brought into these years from others, and that they took from these years into others
abbrev pub come : ℕ → Years → List (Call × Answer) → ℕ
come kind years ls = accepted (come_by kind years) ls

abbrev pub gone : ℕ → Years → List (Call × Answer) → ℕ
gone kind years ls = accepted (gone_by kind years) ls

-- how many accepted replacement orders brought this line in: those of that key with so many lines
abbrev pub brought_times : Key → ℕ → List (Call × Answer) → ℕ
brought_times key line ls = brought (with_key key) (on_line line) ls

-- CLOSES
-- the year of an accepted close
abbrev pub of_closing : Call → Answer → List ℕ
of_closing (close code year) a = cond (eqb (answer_code a) 0) (year ∷ []) []
of_closing (flow ed f out) a = []
of_closing (execute code k n d) a = []
of_closing (reverse code k n d) a = []
of_closing (totals code) a = []
of_closing (journal code s) a = []

-- of all lines
abbrev pub closed_in : List (Call × Answer) → List ℕ
closed_in [] = []
closed_in (l ∷ ls) = of_closing l.0 l.1 ++ closed_in ls

-- "years not closed": later than every year that was. "The years are looked at when the sum is made", after all these lines
abbrev pub open_in : List (Call × Answer) → Years
open_in ls y = all (λ c. ltb c y) (closed_in ls)

-- the orders of which p tells are of such years
abbrev pub OpenKeys : Which → List (Call × Answer) → Type 0
OpenKeys p ls = (k : Key) → p k ≡ true → open_in ls k.esercizio ≡ true

-- THE RECORDS
-- cents of a kind in some years
abbrev pub cents_in : ℕ → Years → List Record → ℕ
cents_in kind years rs = worth (of_kind_in kind years) its_cents rs

-- which, in all years, are those that totals speak of. Proved: `all-years : AllYears`
abbrev pub AllYears : Type 0
AllYears = (kind : ℕ) (rs : List Record) → cents_in kind (λ y. true) rs ≡ cents_of kind rs

-- and so are those in some years with those in the others. Proved: `other-years : OtherYears`
abbrev pub OtherYears : Type 0
OtherYears = (kind : ℕ) (years : Years) (rs : List Record) → cents_in kind years rs + cents_in kind (λ y. not (years y)) rs ≡ cents_of kind rs

-- 1 where the line is held, executed or replaced since; else 0
abbrev pub held_times : Key → ℕ → List Record → ℕ
held_times key line rs = worth_of are_held (with_key key) (on_line line) rs

-- 1 where the line is replaced: "it becomes replaced (line state 3)"; else 0
abbrev pub are_replaced : States
are_replaced s = eqb s replaced_line

abbrev pub replaced_times : Key → ℕ → List Record → ℕ
replaced_times key line rs = worth_of are_replaced (with_key key) (on_line line) rs

-- A BODY'S LINES of the log of an engine's calls cs that start from t₀
abbrev pub log_of : Engine → List ℕ → ℕ → List Call → List (Call × Answer)
log_of E t₀ b cs = mine (whose (machine E t₀)) b (log (machine E t₀) cs t₀)

-- BODY b of the table t₀, after the calls cs of an engine. Proved: `history : HistoryValid`, `history-opened : HistoryOpened`.
module _ (E : Engine) (t₀ : List ℕ) (b : ℕ) (cs : List Call) where
  abbrev L : List (Call × Answer)
  L = log_of E t₀ b cs

  abbrev now : List ℕ
  now = table_after E t₀ cs

  -- from the records that it started with
  pub record History (start : List Record) : Type 0 where
    -- "Req 11 then counts only notices for years not closed, plus the cents of each accepted replacement line of an open year whose named line is of a closed
    -- one, less those of a closed year whose named line is of an open one": the cents of all its records of a kind, with those of its accepted reversals for open
    -- years and what went from these to closed ones, are those of the start in open years, with those of its accepted executions and what came to them
    pub cash_history : (kind : ℕ)
        → cents_of kind (body_records b now) + reversals (cash_in kind (open_in L)) L + gone kind (open_in L) L
        ≡ cents_in kind (open_in L) start + executions (cash_in kind (open_in L)) L + come kind (open_in L) L
    -- and where no year was closed: "a replacement adds nothing to either"
    pub cash_unclosed : closed_in L ≡ [] → (kind : ℕ) → cents_of kind (body_records b now) + reversals (cash kind) L ≡ cents_of kind start + executions (cash kind) L
    -- of a kind in some open years, one (`eqb y`) or more: a replacement moves cents between years alone
    pub years_history : (kind : ℕ) (years : Years) → ((y : ℕ) → years y ≡ true → open_in L y ≡ true)
        → cents_in kind years (body_records b now) + reversals (cash_in kind years) L + gone kind years L ≡ cents_in kind years start + executions (cash_in kind years) L + come kind years L
    -- of the orders of any keys of open years, and whatever a line is held to be worth: a replacement brings its own lines in, and gives up those that they name
    pub worth_history : (p : Which) (v : Value) → OpenKeys p L
        → worth p v (body_records b now) + reversals (weight p v) L + given p v L ≡ worth p v start + executions (weight p v) L + brought p v L
    -- of one line of an open year: it is held as often as it was at the start, executed and brought in, less its reversals
    pub line_history : (key : Key) (line : ℕ) → open_in L key.esercizio ≡ true
        → held_times key line (body_records b now) + reversals (per_time key line) L ≡ held_times key line start + executions (per_time key line) L + brought_times key line L
    -- at any moment it is held at most once, and at most one replacement brought it in
    pub line_most : (key : Key) (line : ℕ) → held_times key line (body_records b now) ≤ 1
    pub brought_most : (key : Key) (line : ℕ) → open_in L key.esercizio ≡ true → brought_times key line L ≤ 1
    -- it is replaced as often as it was at the start and as accepted replacements gave it up: a replaced line stays replaced ..
    pub replaced_history : (key : Key) (line : ℕ) → open_in L key.esercizio ≡ true → replaced_times key line (body_records b now) ≡ replaced_times key line start + given (with_key key) (on_line line) L
    -- .. and none is replaced twice: "25 .. already replaced"
    pub replaced_most : (key : Key) (line : ℕ) → open_in L key.esercizio ≡ true → replaced_times key line start + given (with_key key) (on_line line) L ≤ 1
    -- what totals answer at that moment are the cents of those records
    pub totals_are : (code : List ℕ) → position t₀ (some code) ≡ some b → (a : TotalsAnswer) → TotalsPromise now code a
        → (a.paid ≡ cents_of mandato_kind (body_records b now)) × (a.collected ≡ cents_of reversale_kind (body_records b now))

  -- from a fresh table
  pub record Fresh : Type 0 where
    -- the cents are those executed less those reversed, of open years, with what came to these, less what went from them
    pub cash_opened : (kind : ℕ)
        → cents_of kind (body_records b now) + reversals (cash_in kind (open_in L)) L + gone kind (open_in L) L ≡ executions (cash_in kind (open_in L)) L + come kind (open_in L) L
    -- and so are those that totals answer
    pub totals_opened : (code : List ℕ) → position t₀ (some code) ≡ some b → (a : TotalsAnswer) → TotalsPromise now code a
        → (a.paid + reversals (cash_in mandato_kind (open_in L)) L + gone mandato_kind (open_in L) L ≡ executions (cash_in mandato_kind (open_in L)) L + come mandato_kind (open_in L) L)
        × (a.collected + reversals (cash_in reversale_kind (open_in L)) L + gone reversale_kind (open_in L) L ≡ executions (cash_in reversale_kind (open_in L)) L + come reversale_kind (open_in L) L)
    -- where no year was closed, they are those executed less those reversed (Req 11's own words)
    pub cash_never_closed : closed_in L ≡ [] → (kind : ℕ) → cents_of kind (body_records b now) + reversals (cash kind) L ≡ executions (cash kind) L
    pub totals_never_closed : closed_in L ≡ [] → (code : List ℕ) → position t₀ (some code) ≡ some b → (a : TotalsAnswer) → TotalsPromise now code a
        → (a.paid + reversals (cash mandato_kind) L ≡ executions (cash mandato_kind) L)
        × (a.collected + reversals (cash reversale_kind) L ≡ executions (cash reversale_kind) L)
    -- of a kind in some open years: with what came from other years, less what went to them
    pub years_opened : (kind : ℕ) (years : Years) → ((y : ℕ) → years y ≡ true → open_in L y ≡ true)
        → cents_in kind years (body_records b now) + reversals (cash_in kind years) L + gone kind years L ≡ executions (cash_in kind years) L + come kind years L
    -- of one line of an open year: executions less reversals, and one where a replacement brought it in, is whether it is held
    pub line_held : (key : Key) (line : ℕ) → open_in L key.esercizio ≡ true
        → held_times key line (body_records b now) + reversals (per_time key line) L ≡ executions (per_time key line) L + brought_times key line L
    -- "for each line (key and line number) that no replacement brought in, executions less reversals is 0 or 1"
    pub line_opened : (key : Key) (line : ℕ) → open_in L key.esercizio ≡ true → brought_times key line L ≡ 0
        → (executions (per_time key line) L ≡ reversals (per_time key line) L) ⊎ (executions (per_time key line) L ≡ reversals (per_time key line) L + 1)
    -- and for one that a replacement brought in, 0 or -1
    pub line_brought : (key : Key) (line : ℕ) → open_in L key.esercizio ≡ true → brought_times key line L ≡ 1
        → (executions (per_time key line) L ≡ reversals (per_time key line) L) ⊎ (executions (per_time key line) L + 1 ≡ reversals (per_time key line) L)

-- from any valid table: one opened, converted or in use
abbrev pub HistoryValid : Type 0
HistoryValid = (E : Engine) (t₀ : List ℕ) → table_ok t₀ ≡ true → (b : ℕ) → b < bodies t₀ → (cs : List Call) → History E t₀ b cs (body_records b t₀)

-- from any buffer that opening answered 0 for
abbrev pub HistoryOpened : Type 0
HistoryOpened = (E : Engine) (q t t₀ : List ℕ) → OpenReplies q t 0 t₀ → (b : ℕ) → b < bodies t₀ → (cs : List Call) → Fresh E t₀ b cs
