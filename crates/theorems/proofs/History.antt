-- CASH BY HISTORY (request 11), proved. `balances` is the argument itself, for any number that a body's records tell.
use Rattle.std.specs.Prelude.{Result, Ok, Err}
use Prim.Native.Nat.{ℕ, zero, suc, ◌+◌, ◌-◌, ◌*◌, ◌≤◌, ◌<◌}
use mathlib.Core.Path.{◌≡◌, refl, sym, ap, ◌∙◌, subst}
use mathlib.Core.Bool.{Bool, true, false, ◌&&◌, cond}
use mathlib.Core.Logic.{◌⊎◌, inl, inr}
use mathlib.Core.Option.{Option, none, some}
use mathlib.Core.List.{List, []}
use native.Mathlib.Omega.{arith}
use lib.ListN.{length}
use lib.Dec.{eqb, leb}
use borrow.Author.Tests.{eqb-true}
use Rattle.scan.proofs.Laws.{both}
use Rattle.ranges.proofs.Laws.{get_zeros}
use Rattle.calendar.specs.declared.Date.{Date}
use Rattle.target_days.specs.Target.{target_code}
use Rattle.record.specs.declared.Key.{Key}
use Rattle.record.specs.declared.Record.{Record}
use Rattle.record.specs.Slot.{slot_size}
use Rattle.slots.specs.Slots.{records_at, distinct}
use Rattle.body.specs.Body.{body_ok, cents_of, all_later}
use Rattle.body.proofs.Same.{records_agree}
use Rattle.body.proofs.Slots.{parts, empty_records}
use Rattle.entries.specs.Entry.{slots_of, place_of, closed_of}
use Rattle.table.specs.Table.{bodies, table_ok, body_of, entry_of}
use Rattle.order.specs.Ordinativo.{Ordinativo}
use Rattle.rules.specs.Rules.{judge_order, judge_notice}
use Rattle.rules.proofs.Judging.{moved}
use Rattle.rules.proofs.Kept.{Writable}
use Rattle.service.specs.Service.{notice_comes}
use Rattle.rules.specs.Effects.{records_by, records_moved}
use Rattle.service.proofs.Kept.{all_records_lem}
use Rattle.service.proofs.Moved.{notice_records}
use Rattle.service.proofs.Brought.{kind_even, years_even, new_with, brought_new}
use Rattle.service.proofs.Worth.{full_at, Counts, executed_count, held_count, weighs, execute_worth, reverse_worth, order_worth, cents_worth}
use Rattle.service.proofs.There.{there, order_there, notice_there, there_once, one_most}
use Rattle.notices.specs.Notices.{noticed, notice_by, notice_table_by}
use Rattle.address.specs.Address.{addressed}
use Rattle.request.specs.Request.{request_ok}
use Rattle.desk.specs.Desk.{flow_reads, flow_answer, flow_table, flow_outcomes}
use Rattle.opening.specs.Opening.{opened}
use Rattle.opening.proofs.Valid.{opened_valid, opened_bodies, past}
use Rattle.isolation.proofs.Runs.{good_run}
use Rattle.isolation.proofs.History.{EachLine, balance, shown}
use Rattle.year_end.specs.declared.CloseRefusal.{CloseRefusal}
use Rattle.year_end.specs.declared.CloseRefusal.TheVariants.{InvalidTable, UnknownBody, NotAYear, AlreadyClosed, EarlierRemains, LineWaits}
use Rattle.year_end.specs.YearEnd.{close_of, close_stored, close_by, close_table_by, close_code}
use Rattle.year_end.proofs.Laws.{closed_when}
use Rattle.year_end.proofs.Closed.{closed_records}
use Rattle.theorems.specs.Engine.{Call, flow, execute, reverse, totals, journal, close, Answer, Engine, who, machine, table_after, names_on, position, body_records}
use Rattle.theorems.specs.History.{Weight, of_execution, of_reversal, executions, reversals, weight, cash, cash_in, per_time, OrderWeight, of_orders, of_flowed, accepted, brought, given, come, gone, closed_in, open_in, OpenKeys, cents_in, held_times, are_replaced, replaced_times, brought_times, log_of, History, HistoryValid, HistoryOpened}
use Rattle.rules.specs.Worth.{Which, States, Value, Years, worth_of, are_executed, worth, are_held, of_kind, of_kind_in, its_cents, with_key, on_line, brought_by, given_by, come_by, gone_by}
use Rattle.theorems.proofs.Steps.{answer, after, one_step}
use Rattle.theorems.proofs.Good.{Good, fresh, base, size, inside, find_is, place_is, slots_is, ready, served, owned_alike, closed_alike, open_is}
use Rattle.theorems.proofs.Closed.{fits, closed_is}
use Rattle.theorems.proofs.Calls.{Serves, every}
use Rattle.theorems.specs.Codes.{stray_codes, body_codes}
use Rattle.theorems.proofs.Named.{Names, stray, body, names, Reads, refuses, serves, for_year, reads}
use Rattle.theorems.proofs.Accepted.{orders_in_turn}
use Rattle.theorems.proofs.Taken.{codes_over}
use Rattle.theorems.proofs.Weighing.{tally_adds, accepted_adds, nothing, accepted_none, no_notice, reversals_none, Beyond, Weighs, orders_balance, served_weighs}
use Rattle.theorems.proofs.Staying.{worth_staying, there_staying, cents_years, Fair, Shuts, fair_log, shut_open, none_closed, shuts_more}
use Rattle.theorems.proofs.Split.{held_parts}
use Rattle.theorems.proofs.Condition2.{condition2}
use Rattle.theorems.proofs.Exactly.{found_valid}
use Rattle.theorems.proofs.Condition3.{laws, found_at, OpenedBy, answered_0, open_valid}
use Rattle.rules.specs.declared.Change.{Change}

-- THE TABLE AFTER THE CALLS
module _ (E : Engine) (t₀ : List ℕ) (r : table_ok t₀ ≡ true) (cs : List Call) where
  abbrev now : List ℕ
  now = table_after E t₀ cs

  pub good : Good t₀ now
  good = good_run (machine E t₀) (Good t₀) (laws E t₀ r) cs t₀ (fresh t₀ r)

  records_now : (b : ℕ) → b < bodies t₀ → body_records b now ≡ records_at now (base t₀ b) (size t₀ b)
  records_now b l = λ i. records_at now (place_is t₀ r now good b l i) (slots_is t₀ r now good b l i)

module _ (t₀ : List ℕ) (r : table_ok t₀ ≡ true) (p : Which) (w : Weight) (gain loss : OrderWeight) (h : List Record → ℕ) (W : Weighs p w gain loss h) where
  abbrev held : ℕ → List ℕ → ℕ
  held a t = h (records_at t (base t₀ a) (size t₀ a))

  -- what a line of the log gains and loses
  abbrev gains : Call → Answer → ℕ
  gains c a = of_execution w c a + of_flowed gain c a

  abbrev losses : Call → Answer → ℕ
  losses c a = of_reversal w c a + of_flowed loss c a

  -- WHAT A CALL MOVES
  abbrev Moves : Call → List ℕ → Option ℕ → Type 0
  Moves c t none = Unit {0}
  Moves c t (some a) = Fair p c (answer c t) → held a (after c t) + losses c (answer c t) ≡ held a t + gains c (answer c t)

  module _ (t : List ℕ) (g : Good t₀ t) where
    flow_moves : (ed : ℕ) (f out : List ℕ) {o : Option ℕ} → Reads t₀ ed f out o → Moves (flow ed f out) t o
    flow_moves ed f out (refuses a n e) = tt
    flow_moves ed f out (serves a l year os ws y room e) = λ fair. go room (leb year (closed_of t (entry_of a))) (e t g)
      where
        go : (u c : Bool) → flow_reads t ed f (length out) ≡ for_year (base t₀ a) (size t₀ a) year os u c
            → held a (after (flow ed f out) t) + losses (flow ed f out) (answer (flow ed f out) t) ≡ held a t + gains (flow ed f out) (answer (flow ed f out) t)
        go u true e = rw e refl
        go false false e = rw e refl
        go true false e =
            let z = ready t₀ r t g a l in
            let b = base t₀ a in
            let n = size t₀ a in
            let out' = flow_outcomes t out (flow_reads t ed f (length out)) in
            let c = (orders_in_turn t ed f out (flow_answer t (flow_reads t ed f (length out))) (flow_table t (flow_reads t ed f (length out))) out' (refl, refl, refl) b n year os e).1
            ∙ codes_over b n year y t os z.0 z.1 ws in
            let u = served_weighs loss t f out' b n year (length out) os ed e ∙ ap (of_orders loss year os) c in
            let v = served_weighs gain t f out' b n year (length out) os ed e ∙ ap (of_orders gain year os) c in
            let u' = rw e at u in
            let v' = rw e at v in
            let x = ap h (all_records_lem t b n year os z.0 z.1 ws y) in
            let q = orders_balance p w gain loss h W b n year y t os z.0 z.1 ws in
            rw e (omega (arith, u', v', x, q))

    execute_moves : (code : List ℕ) (k : Key) (line : ℕ) (d : Date) → target_code d ≡ 0 → {o : Option ℕ} → Names t₀ code o → Moves (execute code k line d) t o
    unfolding notice_by notice_table_by notice_comes
    execute_moves code k line d q (stray n) = tt
    execute_moves code k line d q (body a l n) = λ fair.
        let z = ready t₀ r t g a l in
        let m = judge_notice true k line (records_at t (base t₀ a) (size t₀ a)) in
        let x = ap h (notice_records t (entry_of a) (base t₀ a) (size t₀ a) true k line (served t₀ r t g a l)) in
        let y = W.executes t (base t₀ a) (size t₀ a) z.1 k line m refl in
        rw (q, n t g) (omega arith)

    reverse_moves : (code : List ℕ) (k : Key) (line : ℕ) (d : Date) → target_code d ≡ 0 → {o : Option ℕ} → Names t₀ code o → Moves (reverse code k line d) t o
    unfolding notice_by notice_table_by notice_comes
    reverse_moves code k line d q (stray n) = tt
    reverse_moves code k line d q (body a l n) = λ fair.
        let z = ready t₀ r t g a l in
        let m = judge_notice false k line (records_at t (base t₀ a) (size t₀ a)) in
        let x = ap h (notice_records t (entry_of a) (base t₀ a) (size t₀ a) false k line (served t₀ r t g a l)) in
        let y = W.reverses t (base t₀ a) (size t₀ a) z.1 k line m refl in
        rw (q, n t g) (omega arith)

    totals_moves : (code : List ℕ) {o : Option ℕ} → Names t₀ code o → Moves (totals code) t o
    totals_moves code (stray n) = tt
    totals_moves code (body a l n) = λ fair. refl

    journal_moves : (code s : List ℕ) {o : Option ℕ} → Names t₀ code o → Moves (journal code s) t o
    journal_moves code s (stray n) = tt
    journal_moves code s (body a l n) = λ fair. refl

    -- a close takes away records of its year alone
    close_moves : (code : List ℕ) (year : ℕ) {o : Option ℕ} → Names t₀ code o → Moves (close code year) t o
    unfolding close_by close_table_by
    close_moves code year (stray n) = tt
    close_moves code year (body a l n) = λ fair.
        rw (n t g) (go (close_of (closed_of t (entry_of a)) year (records_at t (base t₀ a) (size t₀ a))) refl (rw (n t g) at fair))
      where
        go : (x : Result ℕ CloseRefusal) → close_of (closed_of t (entry_of a)) year (records_at t (base t₀ a) (size t₀ a)) ≡ x
            → (close_code (close_of (closed_of t (entry_of a)) year (records_at t (base t₀ a) (size t₀ a))) ≡ 0 → Beyond p year)
            → held a (close_stored t (entry_of a) (base t₀ a) (size t₀ a) year (close_of (closed_of t (entry_of a)) year (records_at t (base t₀ a) (size t₀ a)))) + (0 + 0) ≡ held a t + (0 + 0)
        go (Ok k) q b =
            let x = ap h (closed_records t (entry_of a) (base t₀ a) (size t₀ a) year (fits t₀ r t g a l)) in
            let y = W.removes year (b (ap close_code q)) (records_at t (base t₀ a) (size t₀ a)) in
            rw q (omega arith)
        go (Err InvalidTable) q b = rw q refl
        go (Err UnknownBody) q b = rw q refl
        go (Err NotAYear) q b = rw q refl
        go (Err AlreadyClosed) q b = rw q refl
        go (Err EarlierRemains) q b = rw q refl
        go (Err LineWaits) q b = rw q refl

    -- a call with a date that has the code n: on no TARGET day it is no body's
    on_date : (c : Call) (code : List ℕ) (d : Date) (n : ℕ) → target_code d ≡ n → (target_code d ≡ 0 → Moves c t (position t₀ (some code)))
        → Moves c t (position t₀ (names_on n code))
    on_date c code d zero q f = f q
    on_date c code d (suc n) q f = tt

    moves : (c : Call) → Moves c t (who t₀ c)
    moves (flow ed f out) = flow_moves ed f out (reads t₀ r ed f out)
    moves (execute code k line d) = on_date (execute code k line d) code d (target_code d) refl (λ q. execute_moves code k line d q (names t₀ r code))
    moves (reverse code k line d) = on_date (reverse code k line d) code d (target_code d) refl (λ q. reverse_moves code k line d q (names t₀ r code))
    moves (totals code) = totals_moves code (names t₀ r code)
    moves (journal code s) = journal_moves code s (names t₀ r code)
    moves (close code year) = close_moves code year (names t₀ r code)

  module _ (E : Engine) (b : ℕ) (l : b < bodies t₀) (cs : List Call) where
    -- the same of the engine's answer and table
    engine_moves : (c : Call) (t : List ℕ) → Good t₀ t → who t₀ c ≡ some b → Fair p c (E.answer c t) → held b (E.next c t) + losses c (E.answer c t) ≡ held b t + gains c (E.answer c t)
    engine_moves c t g e =
        let d = one_step c t (E.answer c t) (E.next c t) (E.keeps c t) in
        subst (λ (x : Answer × List ℕ). Fair p c x.0 → held b x.1 + losses c x.0 ≡ held b t + gains c x.0)
        (λ i. (sym d.0 i, sym d.1 i)) (subst (Moves c t) e (moves t g c))

    -- THE ARGUMENT
    balances : OpenKeys p (log_of E t₀ b cs) → h (body_records b (table_after E t₀ cs)) + (reversals w (log_of E t₀ b cs) + accepted loss (log_of E t₀ b cs))
        ≡ h (body_records b t₀) + (executions w (log_of E t₀ b cs) + accepted gain (log_of E t₀ b cs))
    balances o =
        let e = ap h (records_now E t₀ r cs b l) in
        let x = balance (machine E t₀) (Good t₀) (laws E t₀ r) b l (held b)
        (λ s t g g' q. ap h (records_agree (size t₀ b) (owned_alike t₀ r s t g g' b l q).slots))
        gains losses (Fair p) engine_moves
        cs t₀ (fresh t₀ r) (fair_log p (log_of E t₀ b cs) o) in
        omega (arith, tally_adds (of_execution w) (of_flowed gain) (log_of E t₀ b cs), tally_adds (of_reversal w) (of_flowed loss) (log_of E t₀ b cs))

-- THE YEAR CLOSED LAST: no call of the body takes it back, and an accepted close leaves at least its own year
module _ (E : Engine) (t₀ : List ℕ) (r : table_ok t₀ ≡ true) (b : ℕ) (l : b < bodies t₀) where
  abbrev Grown : Call → List ℕ → Answer → List ℕ → Type 0
  Grown c t a u = (closed_of t (entry_of b) ≤ closed_of u (entry_of b)) × Shuts (closed_of u (entry_of b)) c a

  close_shuts : (code : List ℕ) (year : ℕ) (t : List ℕ) → Good t₀ t → {o : Option ℕ} → Names t₀ code o → o ≡ some b
      → close_code (close_by t year (addressed t code)) ≡ 0 → year ≤ closed_of (close_table_by t year (addressed t code)) (entry_of b)
  unfolding close_by close_table_by
  close_shuts code year t g (stray n) q = absurd (let z : ◌≡◌ {A = ℕ} 0 1 = cc in omega arith)
  close_shuts code year t g (body a m n) q =
      let e : a ≡ b = cc in
      rw (n t g, e) (go (close_of (closed_of t (entry_of b)) year (records_at t (base t₀ b) (size t₀ b))) refl)
    where
      go : (x : Result ℕ CloseRefusal) → close_of (closed_of t (entry_of b)) year (records_at t (base t₀ b) (size t₀ b)) ≡ x
          → close_code (close_of (closed_of t (entry_of b)) year (records_at t (base t₀ b) (size t₀ b))) ≡ 0
          → year ≤ closed_of (close_stored t (entry_of b) (base t₀ b) (size t₀ b) year (close_of (closed_of t (entry_of b)) year (records_at t (base t₀ b) (size t₀ b)))) (entry_of b)
      go (Ok k) q z =
          let m = closed_when (closed_of t (entry_of b)) year (records_at t (base t₀ b) (size t₀ b)) k q in
          let y = closed_is t₀ r t g b l year k m in
          rw q (omega arith)
      go (Err InvalidTable) q z = absurd (let y = sym (ap close_code q) ∙ z in omega arith)
      go (Err UnknownBody) q z = absurd (let y = sym (ap close_code q) ∙ z in omega arith)
      go (Err NotAYear) q z = absurd (let y = sym (ap close_code q) ∙ z in omega arith)
      go (Err AlreadyClosed) q z = absurd (let y = sym (ap close_code q) ∙ z in omega arith)
      go (Err EarlierRemains) q z = absurd (let y = sym (ap close_code q) ∙ z in omega arith)
      go (Err LineWaits) q z = absurd (let y = sym (ap close_code q) ∙ z in omega arith)

  its_shuts : (c : Call) (t : List ℕ) → Good t₀ t → who t₀ c ≡ some b → Shuts (closed_of (after c t) (entry_of b)) c (answer c t)
  its_shuts (close code year) t g e = close_shuts code year t g (names t₀ r code) e
  its_shuts (flow ed f out) t g e = tt
  its_shuts (execute code k n d) t g e = tt
  its_shuts (reverse code k n d) t g e = tt
  its_shuts (totals code) t g e = tt
  its_shuts (journal code s) t g e = tt

  its_rises : (c : Call) (t : List ℕ) → Good t₀ t → who t₀ c ≡ some b → closed_of t (entry_of b) ≤ closed_of (after c t) (entry_of b)
  its_rises c t g e = (subst (λ (o : Option ℕ). Serves t₀ (stray_codes c) (body_codes c) (answer c) (after c) o) e (every t₀ r c)).rises t g

  pub engine_shuts : (c : Call) (t : List ℕ) → Good t₀ t → who t₀ c ≡ some b → (closed_of t (entry_of b) ≤ closed_of (E.next c t) (entry_of b)) × Shuts (closed_of (E.next c t) (entry_of b)) c (E.answer c t)
  engine_shuts c t g e =
      let d = one_step c t (E.answer c t) (E.next c t) (E.keeps c t) in
      subst (λ (x : Answer × List ℕ). Grown c t x.0 x.1) (λ i. (sym d.0 i, sym d.1 i)) (its_rises c t g e, its_shuts c t g e)

-- WHAT RECORDS ARE WORTH is such a number, whichever lines count
module _ (c : States) (C : Counts c) (p : Which) (v : Value) where
  -- a replaced line takes its worth with it unless it still counts
  abbrev loses : OrderWeight
  loses year o = cond (c 3) 0 (given_by p v year o)

  lines_weigh : Weighs p (weight p v) (brought_by p v) loses (worth_of c p v)
  lines_weigh = record { removes = λ year o. worth_staying p year o c v; order = order; executes = executes; reverses = reverses }
    where
      order : (t : List ℕ) (at n year : ℕ) (o : Ordinativo) → Writable o → (j : Result (Change × ℕ) ℕ) → judge_order n year o (records_at t at n) ≡ j
          → worth_of c p v (records_by year o (records_at t at n) j) + weighs j (loses year o) ≡ worth_of c p v (records_at t at n) + weighs j (brought_by p v year o)
      order t at n year o wr (Ok (d, i)) e = order_worth c C p v n year o (records_at t at n) (full_at t at n) wr.count.1 (Ok (d, i)) e
      order t at n year o wr (Err code) e = refl

      executes : (t : List ℕ) (at n : ℕ) → body_ok t at n ≡ true → (k : Key) (line : ℕ) (m : Result (ℕ × ℕ) ℕ) → judge_notice true k line (records_at t at n) ≡ m
          → worth_of c p v (records_moved true line (records_at t at n) m) ≡ worth_of c p v (records_at t at n) + weight p v k line (noticed m)
      executes t at n ok k line (Ok (i, cents)) e =
          execute_worth c C p v k line (records_at t at n) i cents e (found_valid t at n ok k i (moved true k line (records_at t at n) i cents e).0)
      executes t at n ok k line (Err d) e = omega arith

      reverses : (t : List ℕ) (at n : ℕ) → body_ok t at n ≡ true → (k : Key) (line : ℕ) (m : Result (ℕ × ℕ) ℕ) → judge_notice false k line (records_at t at n) ≡ m
          → worth_of c p v (records_moved false line (records_at t at n) m) + weight p v k line (noticed m) ≡ worth_of c p v (records_at t at n)
      reverses t at n ok k line (Ok (i, cents)) e =
          reverse_worth c C p v k line (records_at t at n) i cents e (found_valid t at n ok k i (moved false k line (records_at t at n) i cents e).0)
      reverses t at n ok k line (Err d) e = omega arith

-- the executed lines; the held ones; and how many records have a key
pub worth_weighs : (p : Which) (v : Value) → Weighs p (weight p v) (brought_by p v) (given_by p v) (worth p v)
worth_weighs p v = lines_weigh are_executed executed_count p v

held_weighs : (p : Which) (v : Value) → Weighs p (weight p v) (brought_by p v) nothing (worth_of are_held p v)
held_weighs p v = lines_weigh are_held held_count p v

there_weighs : (key : Key) → Weighs (with_key key) no_notice (new_with key) nothing (there key)
there_weighs key = record {
  removes = there_staying key;
  order = λ t at n year o wr j e. omega (arith, order_there key n year o (records_at t at n) j e, none_weighs j);
  executes = λ t at n ok k line m e. omega (arith, notice_there key true line (records_at t at n) m);
  reverses = λ t at n ok k line m e. omega (arith, notice_there key false line (records_at t at n) m);
}
  where
    none_weighs : (j : Result (Change × ℕ) ℕ) → weighs j 0 ≡ 0
    none_weighs (Ok (c, i)) = refl
    none_weighs (Err code) = refl

pub history : HistoryValid
history E t₀ r b l cs = record {
  cash_history = λ kind. ap (λ (n : ℕ). n + reversals (cash_in kind (open_in L)) L + gone kind (open_in L) L) (sym (all_open kind)) ∙ in_years kind (open_in L) (λ y e. e);
  cash_unclosed = λ e kind.
      let x = cents_worth kind (body_records b (table_after E t₀ cs)) in
      let y = cents_worth kind (body_records b t₀) in
      let z : brought (of_kind kind) its_cents L ≡ given (of_kind kind) its_cents L = λ i. accepted (λ year o. kind_even kind year o i) L in
      omega (arith, worths (of_kind kind) its_cents (λ k q. none_closed L e k.esercizio));
  years_history = in_years;
  worth_history = worths;
  line_history = helds;
  line_most = λ key line. one_most key are_held line (body_records b (table_after E t₀ cs)) apart;
  brought_most = λ key line e.
      let k = new_with key in
      let u = brought_by (with_key key) (on_line line) in
      let z : accepted k L ≡ accepted (λ year o. u year o + (k year o - u year o)) L =
      λ i. accepted (λ year o. split (u year o) (k year o) (brought_new line key year o) i) L in
      let y : accepted k L ≡ brought_times key line L + accepted (λ year o. k year o - u year o) L = z ∙ accepted_adds u (λ year o. k year o - u year o) L in
      omega (
        arith,
        balances t₀ r (with_key key) no_notice k nothing (there key) (there_weighs key) E b l cs (its_key key e),
        there_once key (body_records b (table_after E t₀ cs)) apart,
        accepted_none L,
        reversals_none L,
      );
  replaced_history = replaced;
  replaced_most = λ key line e. omega (arith, replaced key line e, one_most key are_replaced line (body_records b (table_after E t₀ cs)) apart);
  totals_are = λ code e a p.
      let g = good E t₀ r cs in
      let x = condition2.totals (table_after E t₀ cs) g.ok code b (find_is t₀ r (table_after E t₀ cs) g code ∙ found_at (body_of t₀ code) b e) a p in
      (x.2, x.3);
}
  where
    L : List (Call × Answer)
    L = log_of E t₀ b cs

    apart : distinct (body_records b (table_after E t₀ cs)) ≡ true
    apart =
        let w = parts (table_after E t₀ cs) (base t₀ b) (size t₀ b) (ready t₀ r (table_after E t₀ cs) (good E t₀ r cs) b l).1 in
        ap distinct (records_now E t₀ r cs b l) ∙ w.keys

    split : (m n : ℕ) → m ≤ n → n ≡ m + (n - m)
    split m n h = omega arith

    -- its records in the end are all of open years: none is of the year that it closed last or an earlier one, and no close in the log is of a later one
    closed_now : ℕ
    closed_now = closed_of (table_after E t₀ cs) (entry_of b)

    shut : EachLine (Shuts closed_now) L
    shut =
        shown (machine E t₀) (Good t₀) (laws E t₀ r) b l (λ t. closed_of t (entry_of b))
        (λ s t g h q. closed_alike b (owned_alike t₀ r s t g h b l q))
        Shuts shuts_more (engine_shuts E t₀ r b l) cs t₀ (fresh t₀ r)

    all_open : (kind : ℕ) → cents_in kind (open_in L) (body_records b (table_after E t₀ cs)) ≡ cents_of kind (body_records b (table_after E t₀ cs))
    all_open kind =
        cents_years kind (open_in L) closed_now (λ y h. shut_open closed_now y h L shut) (body_records b (table_after E t₀ cs))
        (ap (all_later closed_now) (records_now E t₀ r cs b l) ∙ open_is t₀ r (table_after E t₀ cs) (good E t₀ r cs) b l)

    its_key : (key : Key) → open_in L key.esercizio ≡ true → OpenKeys (with_key key) L
    its_key key e k q =
        let w = both (eqb k.kind key.kind) (eqb k.esercizio key.esercizio && eqb k.number key.number) q in
        let y = eqb-true k.esercizio key.esercizio (both (eqb k.esercizio key.esercizio) (eqb k.number key.number) w.1).0 in
        ap (open_in L) y ∙ e

    worths : (p : Which) (v : Value) → OpenKeys p L
        → worth p v (body_records b (table_after E t₀ cs)) + reversals (weight p v) L + given p v L ≡ worth p v (body_records b t₀) + executions (weight p v) L + brought p v L
    worths p v o = omega (arith, balances t₀ r p (weight p v) (brought_by p v) (given_by p v) (worth p v) (worth_weighs p v) E b l cs o)

    in_years : (kind : ℕ) (ys : Years) → ((y : ℕ) → ys y ≡ true → open_in L y ≡ true)
        → cents_in kind ys (body_records b (table_after E t₀ cs)) + reversals (cash_in kind ys) L + gone kind ys L ≡ cents_in kind ys (body_records b t₀) + executions (cash_in kind ys) L + come kind ys L
    in_years kind ys o =
        let p = of_kind_in kind ys in
        let x : accepted (λ year o. brought_by p its_cents year o + gone_by kind ys year o) L ≡ accepted (λ year o. given_by p its_cents year o + come_by kind ys year o) L =
        λ i. accepted (λ year o. years_even kind ys year o i) L in
        let y : brought p its_cents L + gone kind ys L ≡ given p its_cents L + come kind ys L =
        sym (accepted_adds (brought_by p its_cents) (gone_by kind ys) L) ∙ x ∙ accepted_adds (given_by p its_cents) (come_by kind ys) L in
        omega (arith, worths p its_cents (λ k q. o k.esercizio (both (eqb k.kind kind) (ys k.esercizio) q).1))

    helds : (key : Key) (line : ℕ) → open_in L key.esercizio ≡ true
        → held_times key line (body_records b (table_after E t₀ cs)) + reversals (per_time key line) L ≡ held_times key line (body_records b t₀) + executions (per_time key line) L + brought_times key line L
    helds key line e =
        omega (
          arith,
          balances t₀ r (with_key key) (per_time key line) (brought_by (with_key key) (on_line line)) nothing (held_times key line) (held_weighs (with_key key) (on_line line)) E b l cs (its_key key e),
          accepted_none L,
        )

    -- what is held and not executed
    replaced : (key : Key) (line : ℕ) → open_in L key.esercizio ≡ true
        → replaced_times key line (body_records b (table_after E t₀ cs)) ≡ replaced_times key line (body_records b t₀) + given (with_key key) (on_line line) L
    replaced key line e =
        let p = with_key key in
        let v = on_line line in
        omega (
          arith,
          worths p v (its_key key e),
          helds key line e,
          held_parts v p (body_records b (table_after E t₀ cs)),
          held_parts v p (body_records b t₀),
        )

-- FROM OPENING ON
empty : (q : List ℕ) → request_ok q ≡ true → (b : ℕ) → b < bodies (opened q) → body_records b (opened q) ≡ []
empty q ok b l =
    let i = (inside (opened q) (opened_valid q ok) b l).0 in
    let n = opened_bodies q ok in
    let at = place_of (opened q) (entry_of b) in
    let m = slots_of (opened q) (entry_of b) in
    empty_records (opened q) at m (get_zeros (opened q) at (at + slot_size * m) (λ j x y. past q ok j (omega arith)))

none_yet : (q t₀ : List ℕ) → OpenedBy q t₀ → (b : ℕ) → b < bodies t₀ → body_records b t₀ ≡ []
none_yet q t₀ f b l = ap (body_records b) f.filled ∙ empty q f.right b (subst (λ (x : List ℕ). b < bodies x) f.filled l)

-- a number that ends at 0 or 1
nought_or_one : (n gains losses : ℕ) → n ≤ 1 → n + losses ≡ gains → (gains ≡ losses) ⊎ (gains ≡ losses + 1)
nought_or_one zero gains losses h e = inl (omega arith)
nought_or_one (suc n) gains losses h e = inr (omega arith)

nought_or_less : (n gains losses : ℕ) → n ≤ 1 → n + losses ≡ gains + 1 → (gains ≡ losses) ⊎ (gains + 1 ≡ losses)
nought_or_less zero gains losses h e = inr (omega arith)
nought_or_less (suc n) gains losses h e = inl (omega arith)

pub history_opened : HistoryOpened
unfolding cents_of worth_of
history_opened E q t t₀ p b l cs = record {
  cash_opened = cash_opened;
  totals_opened = λ code e a k.
      let x = H.totals_are code e a k in (
        ap (λ (n : ℕ). n + reversals (cash_in 1 (open_in L)) L + gone 1 (open_in L) L) x.0 ∙ cash_opened 1,
        ap (λ (n : ℕ). n + reversals (cash_in 2 (open_in L)) L + gone 2 (open_in L) L) x.1 ∙ cash_opened 2,
      );
  cash_never_closed = never_closed;
  totals_never_closed = λ c code e a k.
      let x = H.totals_are code e a k in (
        ap (λ (n : ℕ). n + reversals (cash 1) L) x.0 ∙ never_closed c 1,
        ap (λ (n : ℕ). n + reversals (cash 2) L) x.1 ∙ never_closed c 2,
      );
  years_opened = λ kind years o.
      let z : cents_in kind years (body_records b t₀) ≡ 0 = ap (cents_in kind years) none in
      omega (arith, H.years_history kind years o);
  line_held = line_held;
  line_opened = λ key line o e. nought_or_one (held_times key line now) (executions (per_time key line) L) (reversals (per_time key line) L) (H.line_most key line) (omega (arith, e, line_held key line o));
  line_brought = λ key line o e. nought_or_less (held_times key line now) (executions (per_time key line) L) (reversals (per_time key line) L) (H.line_most key line) (omega (arith, e, line_held key line o));
}
  where
    H : History E t₀ b cs (body_records b t₀)
    H = history E t₀ (open_valid q t₀ (answered_0 q t t₀ p)) b l cs

    L : List (Call × Answer)
    L = log_of E t₀ b cs

    now : List Record
    now = body_records b (table_after E t₀ cs)

    none : body_records b t₀ ≡ []
    none = none_yet q t₀ (answered_0 q t t₀ p) b l

    cash_opened : (kind : ℕ) → cents_of kind now + reversals (cash_in kind (open_in L)) L + gone kind (open_in L) L ≡ executions (cash_in kind (open_in L)) L + come kind (open_in L) L
    cash_opened kind =
        let z : cents_in kind (open_in L) (body_records b t₀) ≡ 0 = ap (cents_in kind (open_in L)) none in
        omega (arith, H.cash_history kind)

    never_closed : closed_in L ≡ [] → (kind : ℕ) → cents_of kind now + reversals (cash kind) L ≡ executions (cash kind) L
    never_closed c kind =
        let z : cents_of kind (body_records b t₀) ≡ 0 = ap (cents_of kind) none in
        omega (arith, H.cash_unclosed c kind)

    line_held : (key : Key) (line : ℕ) → open_in L key.esercizio ≡ true → held_times key line now + reversals (per_time key line) L ≡ executions (per_time key line) L + brought_times key line L
    line_held key line o =
        let z : held_times key line (body_records b t₀) ≡ 0 = ap (held_times key line) none in
        omega (arith, H.line_history key line o)
