-- THE OUTCOME BYTES: each order's code there is a numbered one, and `accepted` is how many of them are 0 ("accepted (how many of them got outcome code
-- 0)"): a reader needs the outcome buffer alone to check it.
use Rattle.std.specs.Prelude.{Result}
use Prim.Native.Nat.{ℕ, ◌+◌}
use mathlib.Core.Path.{◌≡◌, refl, sym, ap, ◌∙◌}
use mathlib.Core.Bool.{true, cond, ◌&&◌}
use mathlib.Core.List.{List, [], ◌∷◌, ◌++◌}
use lib.Dec.{eqb}
use lib.ListN.{length, drop}
use Rattle.words.specs.Numbers.{put}
use Rattle.slots.specs.Slots.{records_at}
use Rattle.order.specs.Ordinativo.{Ordinativo}
use Rattle.rules.specs.Rules.{order_code, judge_order}
use Rattle.service.specs.Service.{order_comes, order_leaves, outcome_bytes, all_outcomes, all_accepted}
use Rattle.desk.specs.declared.FlowRefusal.{FlowRefusal}
use Rattle.desk.specs.Desk.{Reading, refused, served, flow_reads, flow_answer, FlowPromise, flow_reply, flow_code}
use Rattle.theorems.specs.Codes.{one_of, each_code, order_codes, outcome_codes, zero_codes}
use Rattle.theorems.proofs.Given.{Coding, read}
use Rattle.theorems.proofs.Codes.{order_coded, judged_codes}

-- THE COUNT
-- the rules' codes of a flow's orders, each on the table the one before left
abbrev pub codes_on : List ℕ → ℕ → ℕ → ℕ → List Ordinativo → List ℕ
codes_on t base n year [] = []
codes_on t base n year (o ∷ os) = order_code (judge_order n year o (records_at t base n)) ∷ codes_on (order_leaves t base n year o) base n year os

module _ (base n year : ℕ) where
  -- the outcome bytes have the rules' codes
  written : (t : List ℕ) (os : List Ordinativo) (rest : List ℕ) → outcome_codes (length os) (all_outcomes t base n year os ++ rest) ≡ codes_on t base n year os
  unfolding all_outcomes outcome_bytes order_comes
  written t [] rest = refl
  written t (o ∷ os) rest = ap (λ (cs : List ℕ). order_code (judge_order n year o (records_at t base n)) ∷ cs) (written (order_leaves t base n year o) os rest)

  -- which are numbered ones, and of which as many are 0 as orders are accepted
  numbered : (t : List ℕ) (os : List Ordinativo) → each_code (one_of order_codes) (codes_on t base n year os) ≡ true
  numbered t [] = refl
  numbered t (o ∷ os) =
      let rs = records_at t base n in
      let e = judged_codes (judge_order n year o rs) (order_coded n year o rs) in
      let d = numbered (order_leaves t base n year o) os in
      λ i. e i && d i

  counted : (t : List ℕ) (os : List Ordinativo) → all_accepted t base n year os ≡ zero_codes (codes_on t base n year os)
  unfolding all_accepted order_comes
  counted t [] = refl
  counted t (o ∷ os) =
      ap (λ (m : ℕ). cond (eqb (order_code (judge_order n year o (records_at t base n))) 0) 1 0 + m) (counted (order_leaves t base n year o) os)

-- THE THEOREMS, about what keeps the promise of a flow
module _ (t : List ℕ) (ed : ℕ) (f out : List ℕ) (a : Result (ℕ × ℕ × ℕ) FlowRefusal) (t' out' : List ℕ) (p : FlowPromise t ed f out a t' out') where
  pub orders_in_turn : (base n year : ℕ) (os : List Ordinativo) → flow_reads t ed f (length out) ≡ served base n year os
      → ((flow_reply a).orders ≡ length os) × (outcome_codes (length os) out' ≡ codes_on t base n year os)
  unfolding put
  orders_in_turn base n year os e =
      let q = rw e at p in (
        ap (λ (x : Result (ℕ × ℕ × ℕ) FlowRefusal). (flow_reply x).orders) q.0,
        ap (outcome_codes (length os)) q.2 ∙ written base n year t os (drop (0 + length (all_outcomes t base n year os)) out),
      )

  -- a flow taken was served
  pub taken : {P : Type 0} → flow_code a ≡ 0 → ((base n year : ℕ) (os : List Ordinativo) → flow_reads t ed f (length out) ≡ served base n year os → P) → P
  taken {P} z k = go (flow_reads t ed f (length out)) refl (read t f (length out) ed).coding p.0
    where
      go : (g : Reading) → flow_reads t ed f (length out) ≡ g → Coding g → a ≡ flow_answer t (flow_reads t ed f (length out)) → P
      go (refused b) e h q = absurd (h (sym (ap flow_code (q ∙ ap (flow_answer t) e)) ∙ z))
      go (served base n year os) e h q = k base n year os e

  pub outcomes_coded : flow_code a ≡ 0 → each_code (one_of order_codes) (outcome_codes (flow_reply a).orders out') ≡ true
  outcomes_coded z = taken z (λ base n year os e.
      let x = orders_in_turn base n year os e in
      ap (λ (k : ℕ). each_code (one_of order_codes) (outcome_codes k out')) x.0 ∙ ap (each_code (one_of order_codes)) x.1 ∙ numbered base n year t os)

  pub accepted_counts : flow_code a ≡ 0 → (flow_reply a).accepted ≡ zero_codes (outcome_codes (flow_reply a).orders out')
  accepted_counts z = taken z (λ base n year os e.
      let x = orders_in_turn base n year os e in
      ap (λ (y : Result (ℕ × ℕ × ℕ) FlowRefusal). (flow_reply y).accepted) (rw e at p).0 ∙ counted base n year t os
      ∙ sym (ap (λ (k : ℕ). zero_codes (outcome_codes k out')) x.0 ∙ ap zero_codes x.1))
