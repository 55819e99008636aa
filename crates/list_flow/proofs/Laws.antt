-- The orders of a flow taken on a list one after the other.
use Rattle.std.specs.Prelude.{Option, Result, Some, None}
use mathlib.Core.Path.{◌≡◌, refl, sym, ap, ◌∙◌}
use mathlib.Core.List.{List, [], ◌∷◌, ◌++◌}
use mathlib.Core.Bool.{cond}
use Prim.Native.Nat.{ℕ, zero, suc, ◌+◌, ◌*◌, ◌≤◌}
use native.Mathlib.Omega.{arith}
use lib.ListN.{length, take}
use lib.Dec.{eqb}
use Rattle.words.specs.Numbers.{put}
use Rattle.words.proofs.Laws.{put_nil, put_put}
use Rattle.bounds.specs.Bounds.{max_slots}
use Rattle.schema.specs.declared.Parent.{Parent}
use Rattle.rows.specs.declared.Kept.{Kept}
use Rattle.rows.specs.Kept.{kept_from, next_of}
use Rattle.record.specs.declared.Record.{Record}
use Rattle.order.specs.declared.Order.{Order}
use Rattle.order.specs.Ordinativo.{Ordinativo, ordinativo}
use Rattle.orders.specs.Orders.{those, order_of, is_order}
use Rattle.orders.proofs.Laws.{orders_end, OrderAt, order_at}
use Rattle.rules.specs.Rules.{judge_order, order_code}
use Rattle.rules.specs.Effects.{records_by, all_records}
use Rattle.rules.specs.Searches.{steps_of}
use Rattle.rules.proofs.Searches.{steps_most}
use Rattle.service.specs.Service.{outcome_bytes}
use Rattle.serving.specs.Served.{orders_from, Rooted, max_steps}
use Rattle.serving.proofs.Laws.{outcome_length}
use Rattle.one_list.specs.Lists.{list_outcomes, list_accepted, list_steps}
use Rattle.training.specs.Training.{places}
use Rattle.list_flow.specs.ListFlow.{ListTaken}
use Rattle.rules.specs.declared.Change.{Change}

-- an array's first elements are no more than it has
pub taken_most : (n : ℕ) (l : List Record) → length (take n l) ≤ length l
taken_most zero l = omega arith
taken_most (suc n) [] = omega arith
taken_most (suc n) (x ∷ l) = omega (arith, taken_most n l)

-- TAKING, while the orders are walked: those from i on are to come, their outcomes from `to` on
pub record Taking (root : Parent) (f past : List ℕ) (slots year : ℕ) (rs₀ : List Record) (out₀ : List ℕ) (from : ℕ) (rs : List Record) (out : List ℕ)
    (i to accepted steps : ℕ) : Type 0 where
  pub rooted : Rooted root f past i
  pub room : to + 16 * length (orders_from root f i) ≤ length out
  pub few : accepted ≤ to
  pub small : length rs ≤ places
  pub most : steps + max_slots * length (orders_from root f i) ≤ max_steps
  pub same_out : length out ≡ length out₀
  pub counted : accepted + list_accepted slots year (orders_from root f i) rs ≡ list_accepted slots year (orders_from root f from) rs₀
  pub stepped : steps + list_steps slots year (orders_from root f i) rs ≡ list_steps slots year (orders_from root f from) rs₀
  pub leaves : all_records slots year (orders_from root f i) rs ≡ all_records slots year (orders_from root f from) rs₀
  pub outcomes : put out to (list_outcomes slots year (orders_from root f i) rs) ≡ put out₀ 0 (list_outcomes slots year (orders_from root f from) rs₀)

module _ (root : Parent) (f past : List ℕ) (slots year : ℕ) (rs₀ : List Record) (out₀ : List ℕ) (from : ℕ) where
  pub taking_start : length rs₀ ≤ places → Rooted root f past from → 16 * length (orders_from root f from) ≤ length out₀ → max_slots * length (orders_from root f from) ≤ max_steps
      → Taking root f past slots year rs₀ out₀ from rs₀ out₀ from 0 0 0
  taking_start v r h m = record {
    rooted = r;
    room = omega arith;
    few = omega arith;
    small = v;
    most = omega arith;
    same_out = refl;
    counted = omega arith;
    stepped = omega arith;
    leaves = refl;
    outcomes = refl;
  }

  module _ (rs : List Record) (out : List ℕ) (i to accepted steps : ℕ) (s : Taking root f past slots year rs₀ out₀ from rs out i to accepted steps) where
    pub taking_end : {x : Option Kept} → x ≡ next_of (those is_order (kept_from root f i)) → x ≡ None → ListTaken slots year (orders_from root f from) rs₀ out₀ accepted steps rs out
    unfolding list_accepted list_steps all_records list_outcomes
    taking_end x e =
        let z = orders_end root f i (sym x ∙ e) in
        let a : accepted + 0 ≡ list_accepted slots year (orders_from root f from) rs₀ = rw z at s.counted in
        let p : steps + 0 ≡ list_steps slots year (orders_from root f from) rs₀ = rw z at s.stepped in
        let l : rs ≡ all_records slots year (orders_from root f from) rs₀ = rw z at s.leaves in
        let o : put out to [] ≡ put out₀ 0 (list_outcomes slots year (orders_from root f from) rs₀) = rw z at s.outcomes in
        (omega arith, omega arith, l, sym (put_nil out to) ∙ o)

    module _ {x : Option Kept} {k : Kept} (m : x ≡ next_of (those is_order (kept_from root f i))) (n : x ≡ Some k) where
      pub taking_order : OrderAt root f i k
      taking_order = order_at root f i k s.rooted.holds (sym m ∙ n)

      pub taking_room : to + 16 ≤ length out
      taking_room = let h : to + 16 * suc (length (orders_from root f k.child.after)) ≤ length out = rw taking_order.rest at s.room in omega arith

      -- an order's search looks at no more orders than there are
      pub taking_steps : (o : Ordinativo) {d : ℕ} → d ≡ steps_of year o rs
          → (steps + d) + max_slots * length (orders_from root f k.child.after) ≤ max_steps
      taking_steps o e =
          let h : steps + max_slots * suc (length (orders_from root f k.child.after)) ≤ max_steps = rw taking_order.rest at s.most in
          omega (arith, steps_most year o rs, s.small)

      pub taking_step : {o : Order} {j : Result (Change × ℕ) ℕ} {d code a : ℕ} {rs' : List Record} {out' : List ℕ} → length rs' ≤ places → o ≡ order_of f k
          → j ≡ judge_order slots year (ordinativo o) rs → d ≡ steps_of year (ordinativo o) rs → rs' ≡ records_by year (ordinativo o) rs j
          → code ≡ order_code j → out' ≡ put out to (outcome_bytes (ordinativo o) code) → length out' ≡ length out → a ≡ cond (eqb code 0) 1 0 → a ≤ 1
          → Taking root f past slots year rs₀ out₀ from rs' out' k.child.after (to + 16) (accepted + a) (steps + d)
      unfolding list_accepted list_steps all_records list_outcomes
      taking_step {o} {j} {d} {code} {a} {rs'} {out'} v eo ej ed er ec eu lu ea la =
          let q = taking_order in
          let os = orders_from root f k.child.after in
          let u = ordinativo (order_of f k) in
          let y = judge_order slots year u rs in
          let next = records_by year u rs y in
          let l = q.lies in
          let w = s.few in
          let h : to + 16 * suc (length os) ≤ length out = rw q.rest at s.room in
          let c : accepted + (cond (eqb (order_code y) 0) 1 0 + list_accepted slots year os next) ≡ list_accepted slots year (orders_from root f from) rs₀ = rw q.rest at s.counted in
          let g : steps + (steps_of year u rs + list_steps slots year os next) ≡ list_steps slots year (orders_from root f from) rs₀ = rw q.rest at s.stepped in
          let b : all_records slots year os next ≡ all_records slots year (orders_from root f from) rs₀ = rw q.rest at s.leaves in
          let p : put out to (outcome_bytes u (order_code y) ++ list_outcomes slots year os next) ≡ put out₀ 0 (list_outcomes slots year (orders_from root f from) rs₀) = rw q.rest at s.outcomes in
          let jj : j ≡ y = ej ∙ ap (λ (z : Order). judge_order slots year (ordinativo z) rs) eo in
          let rr : rs' ≡ next = er ∙ (λ z. records_by year (ordinativo (eo z)) rs (jj z)) in
          let dd : d ≡ steps_of year u rs = ed ∙ ap (λ (z : Order). steps_of year (ordinativo z) rs) eo in
          let aa : a ≡ cond (eqb (order_code y) 0) 1 0 = ea ∙ ap (λ (z : ℕ). cond (eqb z 0) 1 0) (ec ∙ ap order_code jj) in
          let uu : out' ≡ put out to (outcome_bytes u (order_code y)) = rw (← eo, ← ej, ← ec) eu in
          record {
            rooted = record { within = l.within; holds = q.on; noted = s.rooted.noted };
            room = omega arith;
            few = omega arith;
            small = v;
            most = taking_steps (ordinativo o) ed;
            same_out = lu ∙ s.same_out;
            counted = rw (rr, aa) (omega arith);
            stepped = rw (rr, dd) (omega arith);
            leaves = rw rr b;
            outcomes = rw (rr, uu) (put_put out to (outcome_bytes u (order_code y)) _ (to + 16) (omega arith) (ap (λ (z : ℕ). to + z) (outcome_length u _)) ∙ p);
          }
