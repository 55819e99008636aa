-- WHAT THE PROMISES RULE OUT, each on a flow or a call for document 01's table; and that such flows are taken.
use Rattle.std.specs.Prelude.{Option, Result, Some, Ok, Err}
use Prim.Native.Nat.{ℕ, zero, suc, ◌+◌, ◌*◌, ◌≤◌, ◌<◌}
use mathlib.Core.Path.{◌≡◌, refl, sym, ap, ◌∙◌, subst}
use mathlib.Core.Bool.{Bool, true, false}
use mathlib.Core.List.{List, [], ◌∷◌, ◌++◌}
use native.Mathlib.Omega.{arith}
use lib.ListN.{length, get_or, drop, replicate, length-append, get_or-eq_default}
use lib.Seq.{get_or-drop}
use lib.Dec.{eqb, ltb}
use borrow.Author.Tests.{eqb-true, ltb-true, ltb-false, le-ltb}
use Rattle.scan.specs.Bytes.{bytes}
use Rattle.scan.proofs.Laws.{both}
use Rattle.valid.specs.Valid.{line_absent, line_ok}
use Rattle.valid.proofs.Valid.{Valid, ok_line}
use Rattle.slots.specs.Slots.{records_at, nth}
use Rattle.body.proofs.Slots.{valid_at}
use Rattle.entries.specs.Entry.{slots_of, place_of}
use Rattle.table.specs.Table.{table_ok, body_of, entry_of}
use Rattle.editions.specs.declared.Edition.{Edition}
use Rattle.editions.specs.declared.Edition.TheVariants.{Oil}
use Rattle.header.specs.Header.{Header}
use Rattle.opening.specs.Opening.{open_code}
use Rattle.notices.specs.declared.TotalsAnswer.{TotalsAnswer}
use Rattle.notices.specs.Notices.{notice_code_of}
use Rattle.desk.specs.declared.FlowRefusal.{FlowRefusal}
use Rattle.desk.specs.declared.FlowReply.{FlowReply}
use Rattle.desk.specs.Desk.{Reading, flow_reads, flow_answer, flow_table, flow_outcomes, Gives, FlowPromise, flow_reply, FlowReplies}
use Rattle.record.specs.declared.Record.{Record}
use Rattle.table.proofs.Bodies.{body_at_lem, found_body}
use Rattle.order.specs.Ordinativo.{Ordinativo}
use Rattle.flow.specs.declared.Breakage.{Breakage}
use Rattle.fields.specs.declared.Cause.{Cause}
use Rattle.flow.specs.declared.Breakage.TheVariants.{FieldBreaks}
use Rattle.flow.specs.Flow.{header_of, flow_orders}
use Rattle.rules.specs.Listed.{Has, last_turn, Applies, no_order, line_zero, line_past, not_executed, named_before, other_amount, misnumbered, missummed, present, full, absent, annulled, executed, differs}
use Rattle.rules.specs.Rules.{key_for, judge_order, order_code}
use Rattle.rules.specs.Effects.{records_by, all_records}
use Rattle.service.specs.Service.{outcome_size, order_comes}
use Rattle.slots.proofs.Held.{held}
use Rattle.theorems.specs.Engine.{flow as a_flow, body_records, owned}
use Rattle.theorems.specs.Codes.{outcome_codes}
use Rattle.theorems.specs.Condition2.{codes_in_turn}
use Rattle.theorems.specs.Condition2 as Rules
use Rattle.theorems.proofs.Steps.{ours}
use Rattle.theorems.proofs.Condition1.{condition1}
use Rattle.theorems.proofs.Condition2.{condition2}
use Rattle.theorems.proofs.Condition3.{condition3}
use Rattle.marked.specs.Flows.{request_of, sample_table, single, room}
use Rattle.witness.specs.Flows.{two, order, first, second}
use Rattle.witness.specs.Takers.{Taker, Keeps, RefusesAll, OneOutcome, StoresNothing, FirstOnly, InventsAccepted, CountsOrders, KeepsAmounts, Somewhere, AnnulsByNumber, NoSlotForOthers, HalfApplied, ServesElsewhere, Notifier, KeepsNotice, Teller, KeepsTotals, Opener, KeepsOpen, InventsUsed, UsedUnseen, Mixed, ByNumber, NoticeByNumber, TotalsByNumber, OpenByNumber}
use Rattle.witness.proofs.Computed.{flows}
use Rattle.witness.proofs.Facts.{key, facts, own_reads, again_reads, more_reads, other_first_reads, own_first_reads, wednesday}

-- a result that keeps the promise is that of the reading
by_reading : (t : List ℕ) (ed : ℕ) (f out : List ℕ) {t' out' : List ℕ} {a : Result (ℕ × ℕ × ℕ) FlowRefusal} {g : Reading} → flow_reads t ed f (length out) ≡ g → FlowPromise t ed f out a t' out' → Gives t out g a t' out'
by_reading t ed f out e p = rw e at p

-- a verdict has one place, a search one answer
one_place : {v : Result ℕ Breakage} {i j : ℕ} → v ≡ Ok i → v ≡ Ok j → i ≡ j
one_place e d = cc

one_edition : {x : Option Edition} {d e : Edition} → x ≡ Some d → x ≡ Some e → d ≡ e
one_edition e d = cc

one_body : {v : Option ℕ} {i j : ℕ} → v ≡ Some i → v ≡ Some j → i ≡ j
one_body e d = cc

breaks_stands : {v : Result ℕ Breakage} {p i : ℕ} {c : Cause} → v ≡ Err (FieldBreaks p c) → v ≡ Ok i → ⊥
breaks_stands e d = let z : ◌≡◌ {A = ℕ} 0 1 = cc in omega arith

-- "15 (INSERIMENTO: the body has no empty slot)"
full_body : {slots year : ℕ} {o : Ordinativo} {rs : List Record} {t c : ℕ} → Applies slots year o rs t c → c ≡ 15 → slots ≤ length rs
full_body (full p l) e = l
full_body (no_order p j l h) e = absurd (omega arith)
full_body (line_zero p j l h) e = absurd (omega arith)
full_body (line_past p j l r h k) e = absurd (omega arith)
full_body (not_executed p j l r h n) e = absurd (omega arith)
full_body (named_before p j l i k q) e = absurd (omega arith)
full_body (other_amount p j l r h n) e = absurd (omega arith)
full_body (misnumbered p) e = absurd (omega arith)
full_body (missummed p) e = absurd (omega arith)
full_body (present p r h) e = absurd (omega arith)
full_body (absent p h) e = absurd (omega arith)
full_body (annulled p r h a) e = absurd (omega arith)
full_body (executed p r h a k x) e = absurd (omega arith)
full_body (differs p r h d) e = absurd (omega arith)

-- an order's code among those of its flow
code_in_turn : (slots year : ℕ) (before : List Ordinativo) (o : Ordinativo) (after : List Ordinativo) (rs : List Record)
    → get_or (codes_in_turn slots year (before ++ (o ∷ after)) rs) (length before) 0 ≡ order_code (judge_order slots year o (all_records slots year before rs))
unfolding all_records
code_in_turn slots year [] o after rs = refl
code_in_turn slots year (x ∷ before) o after rs = code_in_turn slots year before o after (records_by year x rs (judge_order slots year x rs))

outcome_byte : (n k : ℕ) (out : List ℕ) → k < n → get_or (outcome_codes n out) k 0 ≡ get_or out (outcome_size * k + 2) 0
outcome_byte zero k out h = absurd (omega arith)
outcome_byte (suc n) zero out h = refl
outcome_byte (suc n) (suc k) out h =
    let e : outcome_size + (outcome_size * k + 2) ≡ outcome_size * suc k + 2 = omega arith in
    outcome_byte n k (drop outcome_size out) (omega arith) ∙ get_or-drop outcome_size out (outcome_size * k + 2) 0 ∙ ap (λ (i : ℕ). get_or out i 0) e

-- a line past those of a valid record has no amount
past_lines : (r : Record) → Valid r → (k : ℕ) → r.lines ≤ k → get_or r.amounts k 0 ≡ 0
unfolding line_ok line_absent
past_lines r v k h = go (ltb k 8) refl
  where
    go : (b : Bool) → ltb k 8 ≡ b → get_or r.amounts k 0 ≡ 0
    go false e = get_or-eq_default r.amounts 0 (omega (arith, v.amounts, ltb-false k 8 e))
    go true e =
        let a = rw (le-ltb k r.lines h) at (ok_line r v.ok k (ltb-true k 8 e)) in
        eqb-true _ _ (both (eqb (get_or r.states k 0) 0) (eqb (get_or r.amounts k 0) 0) a).1

-- an order's record, said of the same body and place
has_there : (t f : List ℕ) (before : List Ordinativo) (o : Ordinativo) (r : Record) {a b i j : ℕ} {d e : Edition} → a ≡ b → i ≡ j → d ≡ e
    → Has (all_records (slots_of t (entry_of a)) (header_of d f i).esercizio before (body_records a t)) (key_for (header_of d f i).esercizio o) r
    → Has (all_records (slots_of t (entry_of b)) (header_of e f j).esercizio before (body_records b t)) (key_for (header_of e f j).esercizio o) r
has_there t f before o r p q u h = rw (← p, ← q, ← u) h

-- a byte of buffers that are one
byte : (i : ℕ) {x y : List ℕ} → x ≡ y → get_or x i 0 ≡ get_or y i 0
byte i e = ap (λ (x : List ℕ). get_or x i 0) e

-- TAKEN: the flow of one order for 471, its order accepted, whatever keeps the promise
module _ (a : Result (ℕ × ℕ × ℕ) FlowRefusal) (t' out' : List ℕ) (p : FlowPromise sample_table 1 (single "471") (room 1) a t' out') where
  pub taken : a ≡ Ok (1, 1, 0)
  taken = (by_reading sample_table 1 (single "471") (room 1) own_reads p).0 ∙ facts.answer

  pub stored : get_or t' 496 0 ≡ 1
  stored = byte 496 (by_reading sample_table 1 (single "471") (room 1) own_reads p).1 ∙ facts.slot

-- the same of the exported function, in document 01's numbers
pub taken_reply : (n : FlowReply) (t' out' : List ℕ) → FlowReplies sample_table 1 (single "471") (room 1) n t' out'
    → (n.code ≡ 0) × (n.place ≡ 0) × (n.orders ≡ 1) × (n.accepted ≡ 1) × (n.cause ≡ 0) × (n.steps ≡ 0)
taken_reply n t' out' p =
    let e = ap flow_reply (taken p.0 t' out' p.1) in (
      p.2.0 ∙ ap (λ (x : FlowReply). x.code) e,
      p.2.1 ∙ ap (λ (x : FlowReply). x.place) e,
      p.2.2 ∙ ap (λ (x : FlowReply). x.orders) e,
      p.2.3 ∙ ap (λ (x : FlowReply). x.accepted) e,
      p.2.4 ∙ ap (λ (x : FlowReply). x.cause) e,
      p.2.5 ∙ ap (λ (x : FlowReply). x.steps) e,
    )

-- taken again on the table that it left: its order is refused (14)
pub taken_again : (a : Result (ℕ × ℕ × ℕ) FlowRefusal) (t' out' : List ℕ) → FlowPromise second 1 (single "471") (room 1) a t' out' → a ≡ Ok (1, 0, 1)
taken_again a t' out' p = (by_reading second 1 (single "471") (room 1) again_reads p).0 ∙ facts.answer_again

-- two orders there: 14, accepted; the second is in the second slot
module _ (a : Result (ℕ × ℕ × ℕ) FlowRefusal) (t' out' : List ℕ) (p : FlowPromise second 1 two (room 2) a t' out') where
  pub more_taken : a ≡ Ok (2, 1, 2)
  more_taken = (by_reading second 1 two (room 2) more_reads p).0 ∙ facts.answer_more

  pub more_codes : (get_or out' 2 0 ≡ 14) × (get_or out' 18 0 ≡ 0)
  more_codes =
      let e = (by_reading second 1 two (room 2) more_reads p).2 in
      (byte 2 e ∙ facts.code_0, byte 18 e ∙ facts.code_1)

  pub more_stored : get_or t' 592 0 ≡ 1
  more_stored = byte 592 (by_reading second 1 two (room 2) more_reads p).1 ∙ facts.next

-- THE RIGHT ONE: something keeps the promise
abbrev pub right : Taker
right = record {
  answer = λ t ed f out. flow_answer t (flow_reads t ed f (length out));
  table = λ t ed f out. flow_table t (flow_reads t ed f (length out));
  outcomes = λ t ed f out. flow_outcomes t out (flow_reads t ed f (length out));
}

pub right_keeps : Keeps right
right_keeps t ed f out = (refl, refl, refl)

-- THE WRONG ONES
abbrev code : Result (ℕ × ℕ × ℕ) FlowRefusal → ℕ
code a = (flow_reply a).code

abbrev accepted : Result (ℕ × ℕ × ℕ) FlowRefusal → ℕ
accepted a = (flow_reply a).accepted

module _ (T : Taker) (keeps : Keeps T) where
  pub refuses_all : RefusesAll T → ⊥
  refuses_all r = r sample_table 1 (single "471") (room 1) (ap code (taken _ _ _ (keeps sample_table 1 (single "471") (room 1))))

  pub one_outcome : OneOutcome T → ⊥
  one_outcome r =
      let k = keeps second 1 two (room 2) in
      let n = ap (λ (a : Result (ℕ × ℕ × ℕ) FlowRefusal). (flow_reply a).orders) (more_taken _ _ _ k) in
      omega (arith, more_codes _ _ _ k, r second 1 two (room 2) 0 1 (omega arith) (omega arith))

  pub stores_nothing : StoresNothing T → ⊥
  stores_nothing r =
      let k = keeps sample_table 1 (single "471") (room 1) in
      omega (arith, stored _ _ _ k, facts.slot_empty, byte 496 (r sample_table 1 (single "471") (room 1) (ap code (taken _ _ _ k))))

  pub first_only : FirstOnly T → ⊥
  first_only r =
      let z = r second 1 two (room 2) 496 4 2021 (order 1) (order 2 ∷ []) more_reads in
      omega (arith, more_stored _ _ _ (keeps second 1 two (room 2)), facts.next_empty, byte 592 z)

  pub invents_accepted : InventsAccepted T → ⊥
  invents_accepted r = r.other (condition2.accepted r.table r.number r.flow r.lent _ _ _ (keeps r.table r.number r.flow r.lent) r.taken)

  pub counts_orders : CountsOrders T → ⊥
  counts_orders r =
      let d = taken _ _ _ (keeps sample_table 1 (single "471") (room 1)) in
      let e = taken_again _ _ _ (keeps second 1 (single "471") (room 1)) in
      let x : 1 ≡ r.0 1 = sym (ap accepted d) ∙ r.1 sample_table 1 (single "471") (room 1) ∙ ap (λ (a : Result (ℕ × ℕ × ℕ) FlowRefusal). r.0 (flow_reply a).orders) d in
      let y : 0 ≡ r.0 1 = sym (ap accepted e) ∙ r.1 second 1 (single "471") (room 1) ∙ ap (λ (a : Result (ℕ × ℕ × ℕ) FlowRefusal). r.0 (flow_reply a).orders) e in
      omega arith

  -- it leaves the table that the engine of condition 3 leaves
  as_ours : (t : List ℕ) (ed : ℕ) (f out : List ℕ) → T.table t ed f out ≡ ours.next (a_flow ed f out) t
  as_ours t ed f out = (keeps t ed f out).1 ∙ sym (ours.keeps (a_flow ed f out) t).2.1

  -- the table stays valid: "lines that aren't there have state and amount zero"
  pub keeps_amounts : KeepsAmounts T → ⊥
  keeps_amounts r =
      let u = T.table r.table r.number r.flow r.lent in
      let e = as_ours r.table r.number r.flow r.lent in
      let ok : table_ok u ≡ true = ap table_ok e ∙ (condition3 ours r.table r.valid).valid (a_flow r.number r.flow r.lent ∷ []) in
      let base = place_of u (entry_of r.body) in
      let n = slots_of u (entry_of r.body) in
      let h = held u base n r.slot r.used in
      let v = valid_at u base n r.slot (body_at_lem u ok r.body r.there).holds.body h.used in
      r.kept (past_lines (nth (records_at u base n) r.slot) (subst Valid (sym h.same) v) r.line r.gone)

  -- a flow that is taken is for the body that it names
  module _ (w : Somewhere T) where
    here_taken : Rules.Taken w.table w.number w.flow (T.answer w.table w.number w.flow w.lent) (T.table w.table w.number w.flow w.lent) (T.outcomes w.table w.number w.flow w.lent)
    here_taken = condition2.taken w.table w.number w.flow w.lent _ _ _ (keeps w.table w.number w.flow w.lent) w.taken

    here_edition : w.edition ≡ here_taken.edition
    here_edition = one_edition w.numbered here_taken.numbered

    here_place : w.at ≡ here_taken.at
    here_place = one_place (rw here_edition at w.stands) here_taken.stands

    here_body : w.body ≡ here_taken.body
    here_body = one_body (sym (λ i. body_of w.table (header_of (here_edition i) w.flow (here_place i)).ente) ∙ w.named) here_taken.named

    here_orders : flow_orders w.edition w.flow w.at ≡ flow_orders here_taken.edition w.flow here_taken.at
    here_orders i = flow_orders (here_edition i) w.flow (here_place i)

  -- 19 applies, so that the order isn't accepted
  pub annuls_by_number : AnnulsByNumber T → ⊥
  annuls_by_number r =
      let w = r.here in
      let k = here_taken w in
      let i = here_place w in
      let os = sym (here_orders w) ∙ r.orders in
      let has = has_there w.table w.flow r.before r.order r.old (here_body w) i (here_edition w) r.has in
      let d = code_in_turn (slots_of w.table (entry_of k.body)) (header_of k.edition w.flow k.at).esercizio r.before r.order r.others (body_records k.body w.table) in
      let c = ap (λ (l : List ℕ). get_or l (length r.before) 0) (rw os at k.codes) in
      let x = outcome_byte (length (r.before ++ (r.order ∷ r.others))) (length r.before) (T.outcomes w.table w.number w.flow w.lent) (omega (arith, length-append r.before (r.order ∷ r.others))) in
      let z = sym (sym x ∙ c ∙ d) ∙ r.answered in
      (k.exactly r.before r.order r.others os).0 z (last_turn r.order) 19 (differs r.annuls r.old has r.meant)

  -- 15 is given exactly where the body is full
  pub no_slot_for_others : NoSlotForOthers T → ⊥
  unfolding order_comes
  no_slot_for_others r =
      let w = r.here in
      let t = w.table in
      let k = here_taken w in
      let i = here_place w in
      let b = here_body w in
      let c = ap (λ (l : List ℕ). get_or l 0 0) (rw (sym (here_orders w) ∙ r.first) at k.codes) in
      let v = (condition2.answer t k.valid k.body (found_body t k.valid (header_of k.edition w.flow k.at).ente k.body k.named) (header_of k.edition w.flow k.at).esercizio r.order 15 (λ q. omega arith)).0 (sym c ∙ r.answered) in
      let l = full_body v.1 refl in
      let m = rw b at r.empty in
      omega arith

  -- a field that breaks refuses the flow, and a refused flow leaves the table
  pub half_applied : HalfApplied T → ⊥
  half_applied r =
      let k = keeps r.table r.number r.flow r.lent in
      r.changed (condition1.refused_flow r.table r.number r.flow r.lent _ _ _ k (λ z.
      let g = condition2.taken r.table r.number r.flow r.lent _ _ _ k z in
      breaks_stands (rw (one_edition r.numbered g.numbered) at r.late) g.stands)).0

  -- a call of one body leaves every other body's part
  pub serves_elsewhere : ServesElsewhere T → ⊥
  serves_elsewhere r =
      let e = as_ours r.table r.number r.flow r.lent in
      r.changed (ap (owned r.table r.other) e ∙ (condition3 ours r.table r.valid).isolated.step [] (a_flow r.number r.flow r.lent) r.other r.body r.there r.named r.apart)

  -- on the table that mandato 1 of 000471 left: refused (14) for 000471, accepted for 471
  pub by_number : ByNumber T → ⊥
  by_number r =
      let x = flows.other in
      let y = flows.own in
      let abi : Header → List ℕ = λ h. h.abi in
      let year : Header → ℕ = λ h. h.esercizio in
      let same = r first 1 Oil refl (single "000471") (single "471") (room 1) x.at y.at x.stands y.stands
      (ap abi x.header ∙ sym (ap abi y.header)) (ap year x.header ∙ sym (ap year y.header)) (x.orders ∙ sym y.orders)
      (subst (λ (c : List ℕ × List ℕ). Mixed first c.0 c.1) (λ i. ((sym x.header i).ente, (sym y.header i).ente)) facts.mixed) in
      let d = (by_reading first 1 (single "000471") (room 1) other_first_reads (keeps first 1 (single "000471") (room 1))).0 ∙ facts.answer_other in
      let e = (by_reading first 1 (single "471") (room 1) own_first_reads (keeps first 1 (single "471") (room 1))).0 ∙ facts.answer_first in
      let z : ◌≡◌ {A = ℕ} 0 1 = ap accepted (sym d ∙ same ∙ e) in
      omega arith

-- on the same table: 000471's mandato 1 is executed for 000471, and unknown (16) for 471
pub notice_by_number : (N : Notifier) → KeepsNotice N → NoticeByNumber N → ⊥
notice_by_number N keeps r =
    let d = (keeps first true (bytes "000471") key 1 wednesday).0 ∙ facts.notice_other in
    let e = (keeps first true (bytes "471") key 1 wednesday).0 ∙ facts.notice_own in
    let z : ◌≡◌ {A = ℕ} 0 16 = ap notice_code_of (sym d ∙ r first (bytes "000471") (bytes "471") facts.mixed true key 1 wednesday ∙ e) in
    omega arith

module _ (S : Teller) (keeps : KeepsTotals S) where
  abbrev used : TotalsAnswer → ℕ
  used a = a.used

  -- there 000471 uses one slot, 471 none
  pub totals_by_number : TotalsByNumber S → ⊥
  totals_by_number r =
      let d = ap used (keeps first (bytes "000471")) ∙ facts.used_other in
      let e = ap used (keeps first (bytes "471")) ∙ facts.used_own in
      omega (arith, ap used (r first (bytes "000471") (bytes "471") facts.mixed))

  pub invents_used : InventsUsed S → ⊥
  invents_used r = r.other (condition2.totals r.table r.valid r.code r.body r.named _ (keeps r.table r.code)).1

  -- and before mandato 1 000471 used none
  pub used_unseen : UsedUnseen S → ⊥
  used_unseen r =
      let d = ap used (keeps first (bytes "000471")) ∙ facts.used_other in
      let e = ap used (keeps sample_table (bytes "000471")) ∙ facts.used_before in
      omega (arith, r.1 first (bytes "000471"), r.1 sample_table (bytes "000471"))

-- document 01's own table is opened
pub open_by_number : (O : Opener) → KeepsOpen O → OpenByNumber O → ⊥
open_by_number O keeps r =
    let z = r (request_of 4) (replicate 880 0) 0 1 (omega arith) (omega (arith, facts.asked_two)) facts.value_asked in
    let y : ◌≡◌ {A = ℕ} 9 0 = ap open_code (sym z ∙ (keeps (request_of 4) (replicate 880 0)).0 ∙ facts.opens) in
    omega arith
