-- The tests of code 41, a way out of the code at a time.
use Rattle.std.specs.Prelude.{Some, None}
use mathlib.Core.Path.{◌≡◌, refl, sym, ap, ◌∙◌}
use mathlib.Core.Logic.{◌⊎◌, inl, inr}
use mathlib.Core.List.{List, [], ◌∷◌}
use mathlib.Core.Bool.{Bool, true, false, ◌&&◌}
use Prim.Native.Nat.{ℕ, ◌+◌, ◌-◌, ◌≤◌, ◌<◌}
use native.Mathlib.Nat.{add-zero}
use native.Mathlib.Omega.{arith}
use lib.ListN.{length, take, drop, length-drop}
use Rattle.std.proofs.lemmas.List.{take_all}
use lib.Seq.{get_or-drop, drop-drop}
use lib.Dec.{leb}
use borrow.Author.Tests.{le-leb, lt-leb}
use Rattle.scan.specs.Bytes.{byte_at, between}
use Rattle.scan.proofs.Laws.{both}
use Rattle.codes.specs.Codes.{length_in}
use Rattle.dates.specs.Dates.{data_ora_zona}
use Rattle.fields.specs.declared.Form.TheVariants.{DataOraZona, Testo}
use Rattle.fields.specs.declared.Judged.TheVariants.{Stands}
use Rattle.fields.specs.Fields.{judged, field_stands}
use Rattle.schema.specs.declared.Parent.{Parent}
use Rattle.rows.specs.declared.Kept.{Kept}
use Rattle.rows.specs.Kept.{kept_from, next_of}
use Rattle.order.specs.declared.Order.{Order}
use Rattle.order.specs.Ordinativo.{Ordinativo, ordinativo}
use Rattle.orders.specs.Orders.{those, is_order, order_of}
use Rattle.orders.proofs.Laws.{OrderAt, order_at, orders_end}
use Rattle.texts.specs.Texts.{whole_text, caller_text, istat_text, caller_time}
use Rattle.texts.proofs.Laws.{istat_some, text_told}
use Rattle.message.specs.Message.{TextOk}
use Rattle.message.specs.From.{outcome_fits, outcomes_fit}
use Rattle.message_fit.specs.Fit.{caller_ok, CallerTold}
use Rattle.message_fit.specs.Walk.{orders_from, Rooted}

-- BYTES FROM A PLACE ON
module _ (s : List ℕ) (at : ℕ) where
  pub drop_byte : (k : ℕ) → byte_at (drop at s) k ≡ byte_at s (at + k)
  drop_byte k = get_or-drop at s k 0

  pub drop_first : byte_at (drop at s) 0 ≡ byte_at s at
  drop_first = drop_byte 0 ∙ ap (byte_at s) (add-zero at)

-- the test of what stands there, lent as a slice
pub whole_rest : (s : List ℕ) (at : ℕ) (q : Ordinativo) {g : Bool} → g ≡ outcome_fits q (take (length s - at) (drop at s)) → g ≡ outcome_fits q (drop at s)
whole_rest s at q e = e ∙ ap (outcome_fits q) (take_all (length s - at) (drop at s) (let d = length-drop at s in omega arith))

-- ALL ORDERS, while they are walked: those from i on are to come, their bytes from `at` on
pub record Fitting (root : Parent) (f past out : List ℕ) (from i at : ℕ) : Type 0 where
  pub rooted : Rooted root f past i
  pub within : at ≤ length out
  pub same : outcomes_fit (orders_from root f i) (drop at out) ≡ outcomes_fit (orders_from root f from) out

pub fitting_start : {root : Parent} {f past : List ℕ} {from : ℕ} (out : List ℕ) → Rooted root f past from → Fitting root f past out from from 0
fitting_start out r = record { rooted = r; within = omega arith; same = refl }

module _ {root : Parent} {f past out : List ℕ} {from i at : ℕ} (s : Fitting root f past out from i at) where
  pub fitting_end : next_of (those is_order (kept_from root f i)) ≡ None → true ≡ outcomes_fit (orders_from root f from) out
  unfolding outcomes_fit
  fitting_end e = rw (orders_end root f i e) at s.same

  module _ (k : Kept) (e : next_of (those is_order (kept_from root f i)) ≡ Some k) where
    pub fitting_order : OrderAt root f i k
    fitting_order = order_at root f i k s.rooted.holds e

    -- the test of the order at hand, and of the others
    first : outcomes_fit (orders_from root f from) out ≡ ((leb 16 (length (drop at out)) && outcome_fits (ordinativo (order_of f k)) (drop at out)) && outcomes_fit (orders_from root f k.child.after) (drop (at + 16) out))
    unfolding outcomes_fit
    first = sym s.same ∙ rw (fitting_order.rest, drop-drop 16 at out)

    pub fitting_short : length out - at < 16 → false ≡ outcomes_fit (orders_from root f from) out
    fitting_short l = let d = length-drop at out in let z : length (drop at out) < 16 = omega arith in sym (first ∙ rw (lt-leb 16 (length (drop at out)) z))

    module _ (l : 16 ≤ length out - at) where
      long : leb 16 (length (drop at out)) ≡ true
      long = let d = length-drop at out in le-leb 16 (length (drop at out)) (omega arith)

      module _ {o : Order} {g : Bool} (eo : o ≡ order_of f k) (eg : g ≡ outcome_fits (ordinativo o) (drop at out)) where
        fits_is : outcome_fits (ordinativo (order_of f k)) (drop at out) ≡ g
        fits_is = sym (eg ∙ ap (λ (x : Order). outcome_fits (ordinativo x) (drop at out)) eo)

        pub fitting_not : g ≡ false → false ≡ outcomes_fit (orders_from root f from) out
        fitting_not n = sym (first ∙ rw (long, fits_is, n))

        pub fitting_step : g ≡ true → Fitting root f past out from k.child.after (at + 16)
        fitting_step n =
            let q = fitting_order in
            record {
              rooted = record { within = q.lies.within; holds = q.on; noted = s.rooted.noted };
              within = let w = s.within in omega arith;
              same = sym (first ∙ rw (long, fits_is, n));
            }

-- WHAT THE TESTS OF THE CALLER'S VALUES TELL
judged_true : (b : Bool) → judged b ≡ Stands → b ≡ true
judged_true true e = refl
judged_true false e = let z : ◌≡◌ {A = ℕ} 0 1 = cc in absurd (omega arith)

time_sound : (t : List ℕ) → caller_time t ≡ true → TextOk DataOraZona t
unfolding caller_time field_stands
time_sound t e = let a = both (data_ora_zona t) (whole_text t) e in let d = a.0 in record { form = rw d; text = (text_told t).sound a.1 }

time_complete : (t : List ℕ) → TextOk DataOraZona t → caller_time t ≡ true
unfolding caller_time field_stands
time_complete t x = rw (judged_true (data_ora_zona t) x.form) ((text_told t).complete x.text)

text_sound : (t : List ℕ) → caller_text t ≡ true → TextOk Testo t
unfolding caller_text field_stands length_in
text_sound t e = let a = both (between 1 140 (length t)) (whole_text t) e in let d = a.0 in record { form = rw d; text = (text_told t).sound a.1 }

text_complete : (t : List ℕ) → TextOk Testo t → caller_text t ≡ true
unfolding caller_text field_stands length_in
text_complete t x = rw (judged_true (between 1 140 (length t)) x.form) ((text_told t).complete x.text)

istat_sound : (t : List ℕ) → istat_text t ≡ true → (t ≡ []) ⊎ TextOk Testo t
unfolding istat_text
istat_sound [] e = inl refl
istat_sound (b ∷ t) e = inr (text_sound (b ∷ t) (sym (istat_some (b ∷ t) (λ z. omega arith)) ∙ e))

istat_complete : (t : List ℕ) → (t ≡ []) ⊎ TextOk Testo t → istat_text t ≡ true
unfolding istat_text
istat_complete [] x = refl
istat_complete (b ∷ t) (inl e) = let z : ◌≡◌ {A = ℕ} 0 1 = cc in absurd (omega arith)
istat_complete (b ∷ t) (inr x) = istat_some (b ∷ t) (λ z. omega arith) ∙ text_complete (b ∷ t) x

pub caller_told : CallerTold
unfolding caller_ok
caller_told c = record {
  sound = λ e.
      let a0 = both (caller_time c.created) (caller_time c.outcome && (caller_text c.ente && (caller_text c.described && (istat_text c.istat && (caller_text c.fiscal && (caller_text c.tramite_ente && (caller_text c.tramite_bt && (caller_text c.flow_bt)))))))) e in
      let a1 = both (caller_time c.outcome) (caller_text c.ente && (caller_text c.described && (istat_text c.istat && (caller_text c.fiscal && (caller_text c.tramite_ente && (caller_text c.tramite_bt && (caller_text c.flow_bt))))))) a0.1 in
      let a2 = both (caller_text c.ente) (caller_text c.described && (istat_text c.istat && (caller_text c.fiscal && (caller_text c.tramite_ente && (caller_text c.tramite_bt && (caller_text c.flow_bt)))))) a1.1 in
      let a3 = both (caller_text c.described) (istat_text c.istat && (caller_text c.fiscal && (caller_text c.tramite_ente && (caller_text c.tramite_bt && (caller_text c.flow_bt))))) a2.1 in
      let a4 = both (istat_text c.istat) (caller_text c.fiscal && (caller_text c.tramite_ente && (caller_text c.tramite_bt && (caller_text c.flow_bt)))) a3.1 in
      let a5 = both (caller_text c.fiscal) (caller_text c.tramite_ente && (caller_text c.tramite_bt && (caller_text c.flow_bt))) a4.1 in
      let a6 = both (caller_text c.tramite_ente) (caller_text c.tramite_bt && (caller_text c.flow_bt)) a5.1 in
      let a7 = both (caller_text c.tramite_bt) (caller_text c.flow_bt) a6.1 in
      record {
        created = time_sound c.created a0.0;
        outcome = time_sound c.outcome a1.0;
        ente = text_sound c.ente a2.0;
        described = text_sound c.described a3.0;
        istat = istat_sound c.istat a4.0;
        fiscal = text_sound c.fiscal a5.0;
        tramite_ente = text_sound c.tramite_ente a6.0;
        tramite_bt = text_sound c.tramite_bt a7.0;
        flow_bt = text_sound c.flow_bt a7.1;
      };
  complete = λ x. rw (time_complete c.created x.created, time_complete c.outcome x.outcome, text_complete c.ente x.ente, text_complete c.described x.described, istat_complete c.istat x.istat, text_complete c.fiscal x.fiscal, text_complete c.tramite_ente x.tramite_ente, text_complete c.tramite_bt x.tramite_bt) (text_complete c.flow_bt x.flow_bt);
}
