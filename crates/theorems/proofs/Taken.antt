-- A FLOW THAT IS TAKEN: it is for the body that its header names, and its orders are answered and stored as the rules say.
use Rattle.std.specs.Prelude.{Option, Result, Some, None, Ok, Err}
use Prim.Native.Nat.{ℕ, ◌+◌, ◌*◌, ◌≤◌}
use mathlib.Core.Path.{◌≡◌, refl, sym, ap, ◌∙◌}
use mathlib.Core.Bool.{Bool, true, false}
use mathlib.Core.Logic.{◌⊎◌, inl, inr}
use mathlib.Core.List.Memᴰ
use mathlib.Core.List.{List, [], ◌∷◌, ◌++◌, Memᴰ}
use native.Mathlib.Omega.{arith}
use lib.ListN.{length}
use lib.Dec.{leb}
use Rattle.journal.specs.Told.{Exactly}
use Rattle.bounds.specs.Bounds.{max_flow}
use Rattle.scan.specs.Bytes.{text_is}
use Rattle.record.specs.Slot.{slot_size}
use Rattle.slots.specs.Slots.{records_at}
use Rattle.body.specs.Body.{body_ok}
use Rattle.entries.specs.Entry.{slots_of, place_of, closed_of}
use Rattle.table.specs.Table.{table_ok, abi_of, body_of, entry_of}
use Rattle.table.proofs.Bodies.{body_at_lem, found_body}
use Rattle.order.specs.Ordinativo.{Ordinativo}
use Rattle.editions.specs.declared.Edition.{Edition}
use Rattle.editions.specs.Editions.{edition_of}
use Rattle.flow.specs.declared.Breakage.{Breakage}
use Rattle.flow.specs.declared.Breakage.TheVariants.{MarkupBreaks, StructureBreaks, FieldBreaks}
use Rattle.flow.specs.Flow.{verdict_of, header_of, flow_orders}
use Rattle.flow.proofs.Laws.{flow_stood}
use Rattle.flow.proofs.Values.{orders_ok, header_ok}
use Rattle.rules.specs.Rules.{judge_order, order_code}
use Rattle.rules.specs.Effects.{all_records}
use Rattle.rules.specs.Listed.{Applies}
use Rattle.rules.specs.Searches.{steps_of}
use Rattle.service.specs.Service.{order_comes, order_leaves, outcome_size, all_leave, all_steps}
use Rattle.service.proofs.Searches.{all_most}
use Rattle.rules.proofs.Kept.{Writables, none, more}
use Rattle.service.proofs.Kept.{order_kept, order_records, all_kept, all_records_lem}
use Rattle.desk.specs.declared.FlowRefusal.{FlowRefusal}
use Rattle.desk.specs.declared.FlowRefusal.TheVariants.{InvalidTable, UnknownEdition, TooLong, BrokenMarkup, BrokenStructure, BrokenField, OtherBank, UnknownBody, ClosedYear, NoRoom}
use Rattle.desk.specs.Desk.{refused, served, flow_reads, flow_answer, FlowPromise, flow_code, flow_reply}
use Rattle.theorems.specs.Condition2.{codes_in_turn, steps_in_turn, NoneListed, Taken}
use Rattle.theorems.proofs.Accepted.{codes_on, orders_in_turn}
use Rattle.theorems.proofs.Exactly.{order_exactly}
use Rattle.desk.proofs.Written.{writables}

front_writable : (xs zs : List Ordinativo) → Writables (xs ++ zs) → Writables xs
front_writable [] zs w = none
front_writable (x ∷ xs) zs (more w ws) = more w (front_writable xs zs ws)

lines_few : (os : List Ordinativo) → Writables os → (o : Ordinativo) → Memᴰ o os → (1 ≤ length o.lines) × (length o.lines ≤ 8)
lines_few [] none o m = absurd (Memᴰ.not-nil m)
lines_few (x ∷ xs) (more w ws) o m = go (Memᴰ.cases_cons m) (lines_few xs ws o)
  where
    go : (o ≡ x) ⊎ Memᴰ o xs → (Memᴰ o xs → (1 ≤ length o.lines) × (length o.lines ≤ 8)) → (1 ≤ length o.lines) × (length o.lines ≤ 8)
    go (inl q) next = rw q w.count
    go (inr v) next = next v

-- THE ORDERS on a valid body: over its table is over its records
module _ (base n year : ℕ) (y : (2000 ≤ year) × (year ≤ 2099)) where
  pub codes_over : (t : List ℕ) (os : List Ordinativo) → base + slot_size * n ≤ length t → body_ok t base n ≡ true → Writables os
      → codes_on t base n year os ≡ codes_in_turn n year os (records_at t base n)
  codes_over t [] fits ok none = refl
  codes_over t (o ∷ os) fits ok (more w ws) =
      let k = order_kept t base n year o fits ok w y in
      ap (λ (cs : List ℕ). order_code (judge_order n year o (records_at t base n)) ∷ cs)
      (codes_over (order_leaves t base n year o) os (omega (arith, k.long)) k.ok ws ∙ ap (codes_in_turn n year os) (order_records t base n year o fits ok w y))

  steps_over : (t : List ℕ) (os : List Ordinativo) → base + slot_size * n ≤ length t → body_ok t base n ≡ true → Writables os
      → all_steps t base n year os ≡ steps_in_turn n year os (records_at t base n)
  unfolding all_steps
  steps_over t [] fits ok none = refl
  steps_over t (o ∷ os) fits ok (more w ws) =
      let k = order_kept t base n year o fits ok w y in
      ap (λ (m : ℕ). steps_of year o (records_at t base n) + m)
      (steps_over (order_leaves t base n year o) os (omega (arith, k.long)) k.ok ws ∙ ap (steps_in_turn n year os) (order_records t base n year o fits ok w y))

  exactly_then : (t : List ℕ) (before : List Ordinativo) (o : Ordinativo) → base + slot_size * n ≤ length t → body_ok t base n ≡ true → Writables before
      → Exactly (order_code (judge_order n year o (all_records n year before (records_at t base n))) ≡ 0) (NoneListed (Applies n year o (all_records n year before (records_at t base n))))
  unfolding order_comes
  exactly_then t before o fits ok ws =
      let k = all_kept t base n year before fits ok ws y in
      rw (← all_records_lem t base n year before fits ok ws y) (order_exactly (all_leave t base n year before) base n k.ok year o)

module _ (t : List ℕ) (ed : ℕ) (f out : List ℕ) (a : Result (ℕ × ℕ × ℕ) FlowRefusal) (t' out' : List ℕ) (p : FlowPromise t ed f out a t' out') (z : flow_code a ≡ 0) where
  not_refused : {A : Type 0} (x : Result (ℕ × ℕ × ℕ) FlowRefusal) → (flow_code x ≡ 0 → ⊥) → flow_reads t ed f (length out) ≡ refused x → A
  not_refused x n e = absurd (n (sym (ap flow_code (p.0 ∙ ap (flow_answer t) e)) ∙ z))

  module _ (y : Edition) (num : edition_of ed ≡ Some y) where
    is_taken : (at b : ℕ) → table_ok t ≡ true → verdict_of y f ≡ Ok at → text_is (abi_of t) (header_of y f at).abi ≡ true → body_of t (header_of y f at).ente ≡ Some b
        → flow_reads t ed f (length out) ≡ served (place_of t (entry_of b)) (slots_of t (entry_of b)) (header_of y f at).esercizio (flow_orders y f at) → Taken t ed f a t' out'
    is_taken at b ok s k e d =
        let v = body_at_lem t ok b (found_body t ok (header_of y f at).ente b e) in
        let h = flow_stood y f at s in
        let g = (header_ok y f at h).0.esercizio in
        let os = flow_orders y f at in
        let ws = writables os (orders_ok y f at h) in
        let base = place_of t (entry_of b) in
        let n = slots_of t (entry_of b) in
        let year = (header_of y f at).esercizio in
        let x = orders_in_turn t ed f out a t' out' p base n year os d in
        let q = ap (λ (r : Result (ℕ × ℕ × ℕ) FlowRefusal). (flow_reply r).steps) (rw d at p).0 in
        let m = all_most t base n year os in
        record {
          valid = ok;
          edition = y;
          numbered = num;
          at = at;
          stands = s;
          bank = k;
          body = b;
          named = e;
          lines = lines_few os ws;
          orders = x.0;
          codes = x.1 ∙ codes_over base n year g t os v.inside v.holds.body ws;
          records = ap (λ (u : List ℕ). records_at u base n) (rw d at p).1 ∙ all_records_lem t base n year os v.inside v.holds.body ws g;
          steps = q ∙ steps_over base n year g t os v.inside v.holds.body ws;
          steps_bound = rw (q, x.0) m;
          exactly = λ before o after q. exactly_then base n year g t before o v.inside v.holds.body (front_writable before (o ∷ after) (rw q at ws));
        }

    by_room : (at b : ℕ) → table_ok t ≡ true → leb (length f) max_flow ≡ true → verdict_of y f ≡ Ok at → text_is (abi_of t) (header_of y f at).abi ≡ true
        → body_of t (header_of y f at).ente ≡ Some b → (c : Bool) → leb (header_of y f at).esercizio (closed_of t (entry_of b)) ≡ c
        → (u : Bool) → leb (outcome_size * length (flow_orders y f at)) (length out) ≡ u → Taken t ed f a t' out'
    unfolding flow_reads
    by_room at b ok l s k e true x u d = not_refused (Err ClosedYear) (λ q. omega arith) (rw (ok, num, l, s, k, e, x))
    by_room at b ok l s k e false x true d = is_taken at b ok s k e (rw (ok, num, l, s, k, e, x, d))
    by_room at b ok l s k e false x false d = not_refused (Err NoRoom) (λ q. omega arith) (rw (ok, num, l, s, k, e, x, d))

    by_body : (at : ℕ) → table_ok t ≡ true → leb (length f) max_flow ≡ true → verdict_of y f ≡ Ok at → text_is (abi_of t) (header_of y f at).abi ≡ true
        → (x : Option ℕ) → body_of t (header_of y f at).ente ≡ x → Taken t ed f a t' out'
    unfolding flow_reads
    by_body at ok l s k (Some b) e = by_room at b ok l s k e (leb (header_of y f at).esercizio (closed_of t (entry_of b))) refl (leb (outcome_size * length (flow_orders y f at)) (length out)) refl
    by_body at ok l s k None e = not_refused (Err UnknownBody) (λ q. omega arith) (rw (ok, num, l, s, k, e))

    by_bank : (at : ℕ) → table_ok t ≡ true → leb (length f) max_flow ≡ true → verdict_of y f ≡ Ok at → (u : Bool) → text_is (abi_of t) (header_of y f at).abi ≡ u → Taken t ed f a t' out'
    unfolding flow_reads
    by_bank at ok l s true k = by_body at ok l s k (body_of t (header_of y f at).ente) refl
    by_bank at ok l s false k = not_refused (Err OtherBank) (λ q. omega arith) (rw (ok, num, l, s, k))

    by_verdict : table_ok t ≡ true → leb (length f) max_flow ≡ true → (v : Result ℕ Breakage) → verdict_of y f ≡ v → Taken t ed f a t' out'
    unfolding flow_reads
    by_verdict ok l (Err (MarkupBreaks q)) s = not_refused (Err BrokenMarkup) (λ q. omega arith) (rw (ok, num, l, s))
    by_verdict ok l (Err StructureBreaks) s = not_refused (Err BrokenStructure) (λ q. omega arith) (rw (ok, num, l, s))
    by_verdict ok l (Err (FieldBreaks q c)) s = not_refused (Err (BrokenField q c)) (λ q. omega arith) (rw (ok, num, l, s))
    by_verdict ok l (Ok at) s = by_bank at ok l s (text_is (abi_of t) (header_of y f at).abi) refl

    by_length : table_ok t ≡ true → (u : Bool) → leb (length f) max_flow ≡ u → Taken t ed f a t' out'
    unfolding flow_reads
    by_length ok true l = by_verdict ok l (verdict_of y f) refl
    by_length ok false l = not_refused (Err TooLong) (λ q. omega arith) (rw (ok, num, l))

  by_edition_lem : table_ok t ≡ true → (x : Option Edition) → edition_of ed ≡ x → Taken t ed f a t' out'
  unfolding flow_reads
  by_edition_lem ok (Some y) n = by_length y n ok (leb (length f) max_flow) refl
  by_edition_lem ok None n = not_refused (Err UnknownEdition) (λ q. omega arith) (rw (ok, n))

  by_table : (u : Bool) → table_ok t ≡ u → Taken t ed f a t' out'
  unfolding flow_reads
  by_table true ok = by_edition_lem ok (edition_of ed) refl
  by_table false ok = not_refused (Err InvalidTable) (λ q. omega arith) (rw ok)

  pub flow_taken : Taken t ed f a t' out'
  flow_taken = by_table (table_ok t) refl
