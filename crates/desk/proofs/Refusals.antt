-- What a flow's call promises, by name: a refused flow changes nothing, and a call has one result.
use Rattle.std.specs.Prelude.{Result, Ok, Err}
use mathlib.Core.Path.{◌≡◌, refl, sym, ap, ◌∙◌}
use mathlib.Core.List.{List, [], ◌∷◌}
use Prim.Native.Nat.{ℕ, ◌*◌, ◌≤◌}
use native.Mathlib.Omega.{arith}
use lib.ListN.{length, get_or, length-append}
use Rattle.words.proofs.Laws.{get_after}
use Rattle.order.specs.Ordinativo.{Ordinativo}
use Rattle.rules.specs.Rules.{order_code}
use Rattle.service.specs.Service.{order_comes, order_leaves, outcome_bytes, all_outcomes}
use Rattle.desk.specs.declared.FlowRefusal.{FlowRefusal}
use Rattle.desk.specs.declared.FlowRefusal.TheVariants.{InvalidTable, UnknownEdition, TooLong, BrokenMarkup, BrokenStructure, BrokenField, OtherBank, UnknownBody, ClosedYear, NoRoom}
use Rattle.desk.specs.Desk.{Reading, refused, served, flow_reads, flow_answer, flow_table, flow_outcomes, FlowPromise, flow_reply, flow_code}
use Rattle.serving.proofs.Laws.{outcome_length}

-- "Codes 1 to 10 change no buffer"
pub refused_keeps : (t : List ℕ) (ed : ℕ) (f out : List ℕ) {a r : Result (ℕ × ℕ × ℕ) FlowRefusal} {t' out' : List ℕ} → flow_reads t ed f (length out) ≡ refused a → FlowPromise t ed f out r t' out' → (r ≡ a) × (t' ≡ t) × (out' ≡ out)
refused_keeps t ed f out e p = rw e at p

coded : (t out : List ℕ) (g : Reading) → (flow_code (flow_answer t g) ≡ 0 → ⊥) → (flow_table t g ≡ t) × (flow_outcomes t out g ≡ out)
coded t out (refused a) h = (refl, refl)
coded t out (served base n year os) h = absurd (h refl)

pub code_keeps : (t : List ℕ) (ed : ℕ) (f out : List ℕ) {r : Result (ℕ × ℕ × ℕ) FlowRefusal} {t' out' : List ℕ} → (flow_code r ≡ 0 → ⊥) → FlowPromise t ed f out r t' out' → (t' ≡ t) × (out' ≡ out)
code_keeps t ed f out h p =
    let k = coded t out (flow_reads t ed f (length out)) (λ z. h (ap flow_code p.0 ∙ z)) in
    (p.1 ∙ k.0, p.2 ∙ k.1)

-- "A refusal gives orders and accepted 0"; "refused flows count 0" (document 02, Req 09)
pub code_zeros : (r : Result (ℕ × ℕ × ℕ) FlowRefusal) → (flow_code r ≡ 0 → ⊥) → ((flow_reply r).orders ≡ 0) × ((flow_reply r).accepted ≡ 0) × ((flow_reply r).steps ≡ 0)
code_zeros (Err InvalidTable) h = (refl, refl, refl)
code_zeros (Err UnknownEdition) h = (refl, refl, refl)
code_zeros (Err TooLong) h = (refl, refl, refl)
code_zeros (Err BrokenMarkup) h = (refl, refl, refl)
code_zeros (Err BrokenStructure) h = (refl, refl, refl)
code_zeros (Err (BrokenField p c)) h = (refl, refl, refl)
code_zeros (Err OtherBank) h = (refl, refl, refl)
code_zeros (Err UnknownBody) h = (refl, refl, refl)
code_zeros (Err ClosedYear) h = (refl, refl, refl)
code_zeros (Err NoRoom) h = (refl, refl, refl)
code_zeros (Ok (orders, accepted, steps)) h = absurd (h refl)

-- there is no second result
pub one_result : (t : List ℕ) (ed : ℕ) (f out : List ℕ) {r r' : Result (ℕ × ℕ × ℕ) FlowRefusal} {u u' o o' : List ℕ} → FlowPromise t ed f out r u o → FlowPromise t ed f out r' u' o' → (r ≡ r') × (u ≡ u') × (o ≡ o')
one_result t ed f out p q = (p.0 ∙ sym q.0, p.1 ∙ sym q.1, p.2 ∙ sym q.2)

-- "Each writes 16 outcome bytes"; "Outcome bytes past the last order stay"
pub outcomes_length : (t : List ℕ) (base n year : ℕ) (os : List Ordinativo) → length (all_outcomes t base n year os) ≡ 16 * length os
unfolding all_outcomes
outcomes_length t base n year [] = refl
outcomes_length t base n year (o ∷ os) =
    let v = outcome_bytes o (order_code (order_comes t base n year o)) in
    let w = all_outcomes (order_leaves t base n year o) base n year os in
    let h = outcomes_length (order_leaves t base n year o) base n year os in
    let l = outcome_length o (order_code (order_comes t base n year o)) in
    let s = length-append v w in
    omega arith

pub outcomes_past : (t : List ℕ) (ed : ℕ) (f out : List ℕ) {base n year : ℕ} {os : List Ordinativo} {r : Result (ℕ × ℕ × ℕ) FlowRefusal} {t' out' : List ℕ} → flow_reads t ed f (length out) ≡ served base n year os → FlowPromise t ed f out r t' out'
    → (i : ℕ) → 16 * length os ≤ i → get_or out' i 0 ≡ get_or out i 0
outcomes_past t ed f out {base} {n} {year} {os} e p i h =
    let q = rw e at p in
    let l = outcomes_length t base n year os in
    ap (λ (x : List ℕ). get_or x i 0) q.2 ∙ get_after out 0 (all_outcomes t base n year os) i (omega arith) (omega arith)
