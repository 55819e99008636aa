-- WHAT A LOG WEIGHS: weights add up, and a flow that is served weighs what the rules' codes let its orders weigh. For cash by history (History).
use Rattle.std.specs.Prelude.{Option, Result, Some, None, Ok, Err}
use Prim.Native.Nat.{ℕ, ◌+◌, ◌*◌, ◌≤◌, ◌<◌}
use mathlib.Core.Path.{◌≡◌, refl, ◌∙◌, subst}
use mathlib.Core.Bool.{Bool, true, false, cond}
use mathlib.Core.List.{List, [], ◌∷◌}
use native.Mathlib.Omega.{arith}
use lib.ListN.{length}
use lib.Dec.{eqb, leb}
use borrow.Author.Tests.{eqb-true}
use Rattle.bounds.specs.Bounds.{max_flow}
use Rattle.scan.specs.Bytes.{text_is}
use Rattle.record.specs.declared.Key.{Key}
use Rattle.record.specs.declared.Record.{Record}
use Rattle.record.specs.Slot.{slot_size}
use Rattle.slots.specs.Slots.{records_at}
use Rattle.body.specs.Body.{body_ok}
use Rattle.entries.specs.Entry.{closed_of}
use Rattle.table.specs.Table.{table_ok, abi_of}
use Rattle.editions.specs.declared.Edition.{Edition}
use Rattle.editions.specs.Editions.{edition_of}
use Rattle.flow.specs.declared.Breakage.{Breakage}
use Rattle.flow.specs.declared.Breakage.TheVariants.{MarkupBreaks, StructureBreaks, FieldBreaks}
use Rattle.flow.specs.Flow.{verdict_of, header_of, flow_orders}
use Rattle.order.specs.Ordinativo.{Ordinativo}
use Rattle.rules.specs.Rules.{order_code, judge_order, judge_notice}
use Rattle.rules.specs.Worth.{Which}
use Rattle.rules.specs.Effects.{records_by, all_records, records_moved}
use Rattle.closing.specs.Closing.{staying}
use Rattle.rules.proofs.Kept.{Writable, Writables, none, more}
use Rattle.service.specs.Service.{order_leaves}
use Rattle.service.proofs.Kept.{order_kept, order_records}
use Rattle.service.proofs.Worth.{weighs}
use Rattle.notices.specs.Notices.{noticed}
use Rattle.address.specs.declared.NoBody.{NoBody}
use Rattle.address.specs.declared.NoBody.TheVariants.{Invalid, Unknown}
use Rattle.address.specs.Address.{body_named}
use Rattle.desk.specs.declared.FlowRefusal.{FlowRefusal}
use Rattle.desk.specs.declared.FlowRefusal.TheVariants.{InvalidTable, TooLong, OtherBank, ClosedYear, NoRoom}
use Rattle.desk.specs.Desk.{refused, served, for_body, for_flow, by_edition, flow_reads, flow_code}
use Rattle.isolation.specs.Tally.{tally}
use Rattle.theorems.specs.Engine.{Call, flow, execute, reverse, totals, journal, close, Answer, of_flow, of_notice, of_totals, of_journal, of_close}
use Rattle.theorems.specs.Codes.{outcome_codes}
use Rattle.theorems.specs.Condition2.{codes_in_turn}
use Rattle.theorems.specs.History.{Weight, weighed, of_reversal, reversals, OrderWeight, of_orders, of_verdict, of_edited, of_flowed, accepted}
use Rattle.theorems.proofs.Codes.{Coded, order_coded, never_zero}
use Rattle.rules.specs.declared.Change.{Change}

-- WEIGHTS ADD UP, of orders, flows and logs
abbrev plus : OrderWeight → OrderWeight → OrderWeight
plus u w year o = u year o + w year o

orders_add : (u w : OrderWeight) (year : ℕ) (os : List Ordinativo) (codes : List ℕ)
    → of_orders (plus u w) year os codes ≡ of_orders u year os codes + of_orders w year os codes
orders_add u w year [] codes = refl
orders_add u w year (o ∷ os) [] = refl
orders_add u w year (o ∷ os) (c ∷ codes) = go (eqb c 0) (orders_add u w year os codes)
  where
    go : (x : Bool) → of_orders (plus u w) year os codes ≡ of_orders u year os codes + of_orders w year os codes
        → cond x (u year o + w year o) 0 + of_orders (plus u w) year os codes
        ≡ cond x (u year o) 0 + of_orders u year os codes + (cond x (w year o) 0 + of_orders w year os codes)
    go true e = omega arith
    go false e = omega arith

module _ (u w : OrderWeight) (f out : List ℕ) where
  verdict_adds : (e : Edition) (v : Result ℕ Breakage) → of_verdict (plus u w) e f out v ≡ of_verdict u e f out v + of_verdict w e f out v
  verdict_adds e (Ok at) = orders_add u w (header_of e f at).esercizio (flow_orders e f at) (outcome_codes (length (flow_orders e f at)) out)
  verdict_adds e (Err (MarkupBreaks p)) = refl
  verdict_adds e (Err StructureBreaks) = refl
  verdict_adds e (Err (FieldBreaks p c)) = refl

  edited_adds : (x : Option Edition) → of_edited (plus u w) f out x ≡ of_edited u f out x + of_edited w f out x
  edited_adds (Some e) = verdict_adds e (verdict_of e f)
  edited_adds None = refl

  cond_adds : (x : Bool) (y : Option Edition) → cond x (of_edited (plus u w) f out y) 0 ≡ cond x (of_edited u f out y) 0 + cond x (of_edited w f out y) 0
  cond_adds true y = edited_adds y
  cond_adds false y = refl

flowed_adds : (u w : OrderWeight) (c : Call) (a : Answer) → of_flowed (plus u w) c a ≡ of_flowed u c a + of_flowed w c a
flowed_adds u w (flow ed f lent) (of_flow a out) = cond_adds u w f out (eqb (flow_code a) 0) (edition_of ed)
flowed_adds u w (flow ed f lent) (of_notice a) = refl
flowed_adds u w (flow ed f lent) (of_totals a) = refl
flowed_adds u w (flow ed f lent) (of_journal c) = refl
flowed_adds u w (flow ed f lent) (of_close a) = refl
flowed_adds u w (execute code k n d) a = refl
flowed_adds u w (reverse code k n d) a = refl
flowed_adds u w (totals code) a = refl
flowed_adds u w (journal code s) a = refl
flowed_adds u w (close code year) a = refl

pub tally_adds : (f g : Call → Answer → ℕ) (ls : List (Call × Answer)) → tally (λ c a. f c a + g c a) ls ≡ tally f ls + tally g ls
tally_adds f g [] = refl
tally_adds f g (l ∷ ls) = omega (arith, tally_adds f g ls)

pub accepted_adds : (u w : OrderWeight) (ls : List (Call × Answer)) → accepted (plus u w) ls ≡ accepted u ls + accepted w ls
accepted_adds u w ls = (λ i. tally (λ c a. flowed_adds u w c a i) ls) ∙ tally_adds (of_flowed u) (of_flowed w) ls

-- what weighs nothing adds up to nothing
abbrev pub nothing : OrderWeight
nothing year o = 0

pub accepted_none : (ls : List (Call × Answer)) → accepted nothing ls ≡ 0
accepted_none ls = omega (arith, accepted_adds nothing nothing ls)

abbrev pub no_notice : Weight
no_notice k n a = 0

weighed_none : (k : Key) (n : ℕ) (a : Answer) → weighed no_notice k n a ≡ 0
weighed_none k n (of_notice a) = refl
weighed_none k n (of_flow a out) = refl
weighed_none k n (of_totals a) = refl
weighed_none k n (of_journal c) = refl
weighed_none k n (of_close a) = refl

reversal_none : (c : Call) (a : Answer) → of_reversal no_notice c a ≡ 0
reversal_none (reverse code k n d) a = weighed_none k n a
reversal_none (execute code k n d) a = refl
reversal_none (flow ed f out) a = refl
reversal_none (totals code) a = refl
reversal_none (journal code s) a = refl
reversal_none (close code year) a = refl

pub reversals_none : (ls : List (Call × Answer)) → reversals no_notice ls ≡ 0
reversals_none [] = refl
reversals_none (l ∷ ls) = omega (arith, reversal_none l.0 l.1, reversals_none ls)

-- the orders of which p tells are of years later than this one
abbrev pub Beyond : Which → ℕ → Type 0
Beyond p year = (k : Key) → p k ≡ true → year < k.esercizio

-- a number that a body's records tell: an accepted order moves it by what it gains and loses, a notice by what its answer weighs, and a close, where it
-- tells of later years alone, by nothing
pub record Weighs (p : Which) (w : Weight) (gain loss : OrderWeight) (h : List Record → ℕ) : Type 0 where
  pub removes : (year : ℕ) → Beyond p year → (rs : List Record) → h (staying year rs) ≡ h rs
  pub order : (t : List ℕ) (at n year : ℕ) (o : Ordinativo) → Writable o → (j : Result (Change × ℕ) ℕ) → judge_order n year o (records_at t at n) ≡ j
      → h (records_by year o (records_at t at n) j) + weighs j (loss year o) ≡ h (records_at t at n) + weighs j (gain year o)
  pub executes : (t : List ℕ) (at n : ℕ) → body_ok t at n ≡ true → (k : Key) (line : ℕ) (m : Result (ℕ × ℕ) ℕ) → judge_notice true k line (records_at t at n) ≡ m
      → h (records_moved true line (records_at t at n) m) ≡ h (records_at t at n) + w k line (noticed m)
  pub reverses : (t : List ℕ) (at n : ℕ) → body_ok t at n ≡ true → (k : Key) (line : ℕ) (m : Result (ℕ × ℕ) ℕ) → judge_notice false k line (records_at t at n) ≡ m
      → h (records_moved false line (records_at t at n) m) + w k line (noticed m) ≡ h (records_at t at n)

-- A FLOW'S ORDERS, by the codes in their outcomes
code_weighs : (j : Result (Change × ℕ) ℕ) → Coded j → (n : ℕ) → cond (eqb (order_code j) 0) n 0 ≡ weighs j n
code_weighs (Ok (c, i)) h n = refl
code_weighs (Err c) h n = go (eqb c 0) refl
  where
    go : (u : Bool) → eqb c 0 ≡ u → cond u n 0 ≡ 0
    go true q =
        let x = never_zero (Err c) h (eqb-true c 0 q) in
        let y : ◌≡◌ {A = Result (Change × ℕ) ℕ} (Err c) (Ok (x.0, x.1)) = x.2 in
        let z : ◌≡◌ {A = ℕ} 0 1 = cc in
        absurd (omega arith)
    go false q = refl

module _ (p : Which) (w : Weight) (gain loss : OrderWeight) (h : List Record → ℕ) (W : Weighs p w gain loss h) (base n year : ℕ) (y : (2000 ≤ year) × (year ≤ 2099)) where
  abbrev Balanced : List Ordinativo → List Record → Type 0
  Balanced os rs = h (all_records n year os rs) + of_orders loss year os (codes_in_turn n year os rs) ≡ h rs + of_orders gain year os (codes_in_turn n year os rs)

  pub orders_balance : (t : List ℕ) (os : List Ordinativo) → base + slot_size * n ≤ length t → body_ok t base n ≡ true → Writables os → Balanced os (records_at t base n)
  unfolding all_records
  orders_balance t [] fits ok none = refl
  orders_balance t (o ∷ os) fits ok (more wr ws) =
      let k = order_kept t base n year o fits ok wr y in
      let rs = records_at t base n in
      let j = judge_order n year o rs in
      let c = order_coded n year o rs in
      let r = subst (Balanced os) (order_records t base n year o fits ok wr y) (orders_balance (order_leaves t base n year o) os (omega (arith, k.long)) k.ok ws) in
      omega (arith, r, W.order t base n year o wr j refl, code_weighs j c (loss year o), code_weighs j c (gain year o))

-- a flow that is served weighs what its orders weigh
module _ (w : OrderWeight) (t f out' : List ℕ) (base n year room : ℕ) (os : List Ordinativo) where
  abbrev Its : ℕ → Type 0
  Its x = x ≡ of_orders w year os (outcome_codes (length os) out')

  no_clash : {A : Type 0} {a : Result (ℕ × ℕ × ℕ) FlowRefusal} → refused a ≡ served base n year os → A
  no_clash e = let z : ◌≡◌ {A = ℕ} 0 1 = cc in absurd (omega arith)

  by_room : (b m year' : ℕ) (os' : List Ordinativo) (u : Bool) → cond u (served b m year' os') (refused (Err NoRoom)) ≡ served base n year os
      → Its (of_orders w year' os' (outcome_codes (length os') out'))
  by_room b m year' os' true e =
      let p : year' ≡ year = cc in
      let q : os' ≡ os = cc in
      λ i. of_orders w (p i) (q i) (outcome_codes (length (q i)) out')
  by_room b m year' os' false e = no_clash e

  by_year : (b m year' : ℕ) (os' : List Ordinativo) (c u : Bool) → cond c (refused (Err ClosedYear)) (cond u (served b m year' os') (refused (Err NoRoom))) ≡ served base n year os
      → Its (of_orders w year' os' (outcome_codes (length os') out'))
  by_year b m year' os' true u e = no_clash e
  by_year b m year' os' false u e = by_room b m year' os' u e

  by_body : (year' : ℕ) (os' : List Ordinativo) (a : Result (ℕ × ℕ × ℕ) NoBody) → for_body t room year' os' a ≡ served base n year os → Its (of_orders w year' os' (outcome_codes (length os') out'))
  by_body year' os' (Ok (e, b, m)) q = by_year b m year' os' (leb year' (closed_of t e)) (leb (16 * length os') room) q
  by_body year' os' (Err Unknown) q = no_clash q
  by_body year' os' (Err Invalid) q = no_clash q

  by_bank : (year' : ℕ) (os' : List Ordinativo) (a : Result (ℕ × ℕ × ℕ) NoBody) (u : Bool) → cond u (for_body t room year' os' a) (refused (Err OtherBank)) ≡ served base n year os
      → Its (of_orders w year' os' (outcome_codes (length os') out'))
  by_bank year' os' a true q = by_body year' os' a q
  by_bank year' os' a false q = no_clash q

  by_verdict : (e : Edition) (v : Result ℕ Breakage) → for_flow e t f room v ≡ served base n year os → Its (of_verdict w e f out' v)
  by_verdict e (Err (MarkupBreaks p)) q = no_clash q
  by_verdict e (Err StructureBreaks) q = no_clash q
  by_verdict e (Err (FieldBreaks p c)) q = no_clash q
  by_verdict e (Ok at) q =
      by_bank (header_of e f at).esercizio (flow_orders e f at) (body_named t (header_of e f at).ente) (text_is (abi_of t) (header_of e f at).abi) q

  by_length : (e : Edition) (u : Bool) → cond u (for_flow e t f room (verdict_of e f)) (refused (Err TooLong)) ≡ served base n year os → Its (of_verdict w e f out' (verdict_of e f))
  by_length e true q = by_verdict e (verdict_of e f) q
  by_length e false q = no_clash q

  by_edition_lem : (x : Option Edition) → by_edition t f room x ≡ served base n year os → Its (of_edited w f out' x)
  by_edition_lem (Some e) q = by_length e (leb (length f) max_flow) q
  by_edition_lem None q = no_clash q

  by_table : (x : Option Edition) (u : Bool) → cond u (by_edition t f room x) (refused (Err InvalidTable)) ≡ served base n year os → Its (of_edited w f out' x)
  by_table x true q = by_edition_lem x q
  by_table x false q = no_clash q

  pub served_weighs : (ed : ℕ) → flow_reads t ed f room ≡ served base n year os → Its (of_edited w f out' (edition_of ed))
  unfolding flow_reads
  served_weighs ed q = by_table (edition_of ed) (table_ok t) q
