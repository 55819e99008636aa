-- The orders of a flow served one after the other.
use Rattle.std.specs.Prelude.{Option, Result, Some, None}
use mathlib.Core.Path.{◌≡◌, refl, sym, ap, ◌∙◌}
use mathlib.Core.List.{List, [], ◌∷◌, ◌++◌}
use mathlib.Core.Bool.{cond}
use Prim.Native.Nat.{ℕ, zero, suc, ◌+◌, ◌*◌, ◌-◌, ◌≤◌, ◌<◌}
use native.Mathlib.Omega.{arith}
use lib.ListN.{length, set, length-map}
use lib.Dec.{eqb}
use Rattle.words.specs.Numbers.{put}
use Rattle.words.proofs.Laws.{put_nil, put_put}
use Rattle.bounds.specs.Bounds.{max_slots}
use Rattle.slots.specs.Slots.{records_at}
use Rattle.slots.specs.Inner.{mark_of, Filters}
use Rattle.schema.specs.declared.Parent.{Parent}
use Rattle.rows.specs.declared.Kept.{Kept}
use Rattle.rows.specs.Kept.{kept_from, next_of}
use Rattle.order.specs.declared.Order.{Order}
use Rattle.order.specs.Ordinativo.{Ordinativo, ordinativo}
use Rattle.orders.specs.Orders.{those, order_of, is_order, orders_in}
use Rattle.orders.proofs.Laws.{those_at, orders_one, orders_end, OrderAt, order_at}
use Rattle.rules.specs.Rules.{key_for, order_code}
use Rattle.rules.specs.Inner.{Writable, Writables, more}
use Rattle.service.specs.Service.{order_comes, order_steps, order_leaves, outcome_bytes, all_leave, all_outcomes, all_accepted, all_steps}
use Rattle.service.specs.Inner.{used_after}
use Rattle.service.proofs.Laws.{order_low}
use Rattle.service.proofs.Searches.{order_most}
use Rattle.service.proofs.Kept.{order_kept}
use Rattle.service.proofs.Filter.{order_filtered, used_low}
use Rattle.serving.specs.Served.{orders_from, Rooted, Servable, max_steps}
use Rattle.rules.specs.declared.Change.{Change}

-- HOW MANY: each order takes at least a byte of the flow
orders_by : (m : ℕ) (root : Parent) (f : List ℕ) (i : ℕ) → length f - i < m → i ≤ length f → length (orders_from root f i) ≤ length f - i
orders_by zero root f i h w = absurd (omega arith)
orders_by (suc m) root f i h w = go (next_of (those is_order (kept_from root f i))) refl (orders_by m root f)
  where
    go : (x : Option Kept) → next_of (those is_order (kept_from root f i)) ≡ x → ((j : ℕ) → length f - j < m → j ≤ length f → length (orders_from root f j) ≤ length f - j) → length (orders_from root f i) ≤ length f - i
    go None e ih = rw (orders_end root f i e) (omega arith)
    go (Some k) e ih =
        let l = (those_at is_order root f i k e).lies in
        let n = ih k.child.after (omega arith) (omega arith) in
        rw (orders_one root f i k e) (omega arith)

pub orders_few : (root : Parent) (f : List ℕ) (i : ℕ) → i ≤ length f → length (orders_from root f i) ≤ length f
orders_few root f i w = omega (arith, orders_by (suc (length f - i)) root f i (omega arith) w)

pub orders_count : (root : Parent) (f : List ℕ) (i : ℕ) {n : ℕ} → n ≡ length (orders_in f (kept_from root f i)) → n ≡ length (orders_from root f i)
orders_count root f i e = e ∙ sym (length-map (orders_in f (kept_from root f i)) ordinativo)

pub outcome_length : (o : Ordinativo) (code : ℕ) → length (outcome_bytes o code) ≡ 16
unfolding outcome_bytes
outcome_length o code = refl

-- the body stays one that the later orders can be served on
written_on : {o : Ordinativo} {os : List Ordinativo} → Writables (o ∷ os) → Writable o × Writables os
written_on (more w ws) = (w, ws)

servable_on : {t : List ℕ} {base n year : ℕ} {o : Ordinativo} {os : List Ordinativo} → Servable t base n year (o ∷ os) → Servable (order_leaves t base n year o) base n year os
servable_on {t} {base} {n} {year} {o} s =
    let v = s.inside in
    let w = written_on s.orders.written in
    let k = order_kept t base n year o v s.valid w.0 s.orders.dated in
    record { inside = omega (arith, k.long); few = s.few; valid = k.ok; orders = record { dated = s.orders.dated; written = w.1 } }

-- SERVING, while the orders are walked: those from i on are to come, their outcomes from `to` on, and the filter has the keys of the body's records
pub record Serving (root : Parent) (f past : List ℕ) (base n year : ℕ) (t₀ out₀ : List ℕ) (from : ℕ) (t out marks : List ℕ) (i to accepted steps used : ℕ) : Type 0 where
  pub rooted : Rooted root f past i
  pub body : Servable t base n year (orders_from root f i)
  pub room : to + 16 * length (orders_from root f i) ≤ length out
  pub few : accepted ≤ to
  pub most : steps + max_slots * length (orders_from root f i) ≤ max_steps
  pub same_table : length t ≡ length t₀
  pub same_out : length out ≡ length out₀
  pub counted : accepted + all_accepted t base n year (orders_from root f i) ≡ all_accepted t₀ base n year (orders_from root f from)
  pub stepped : steps + all_steps t base n year (orders_from root f i) ≡ all_steps t₀ base n year (orders_from root f from)
  pub leaves : all_leave t base n year (orders_from root f i) ≡ all_leave t₀ base n year (orders_from root f from)
  pub outcomes : put out to (all_outcomes t base n year (orders_from root f i)) ≡ put out₀ 0 (all_outcomes t₀ base n year (orders_from root f from))
  pub low : used ≤ n
  pub keys : Filters marks used (records_at t base n)

module _ (root : Parent) (f past : List ℕ) (base n year : ℕ) (t₀ out₀ : List ℕ) (from : ℕ) where
  pub serving_start : {marks : List ℕ} {used : ℕ} → Rooted root f past from → Servable t₀ base n year (orders_from root f from) → 16 * length (orders_from root f from) ≤ length out₀
      → max_slots * length (orders_from root f from) ≤ max_steps → used ≤ n → Filters marks used (records_at t₀ base n)
      → Serving root f past base n year t₀ out₀ from t₀ out₀ marks from 0 0 0 used
  serving_start r s h m l k = record {
    rooted = r;
    body = s;
    room = omega arith;
    few = omega arith;
    most = omega arith;
    same_table = refl;
    same_out = refl;
    counted = omega arith;
    stepped = omega arith;
    leaves = refl;
    outcomes = refl;
    low = l;
    keys = k;
  }

  module _ (t out marks : List ℕ) (i to accepted steps used : ℕ) (s : Serving root f past base n year t₀ out₀ from t out marks i to accepted steps used) where
    pub serving_end : next_of (those is_order (kept_from root f i)) ≡ None
        → (accepted ≡ all_accepted t₀ base n year (orders_from root f from)) × (steps ≡ all_steps t₀ base n year (orders_from root f from)) × (t ≡ all_leave t₀ base n year (orders_from root f from)) × (out ≡ put out₀ 0 (all_outcomes t₀ base n year (orders_from root f from)))
    unfolding all_accepted all_steps all_leave all_outcomes
    serving_end e =
        let z = orders_end root f i e in
        let a : accepted + 0 ≡ all_accepted t₀ base n year (orders_from root f from) = rw z at s.counted in
        let p : steps + 0 ≡ all_steps t₀ base n year (orders_from root f from) = rw z at s.stepped in
        let l : t ≡ all_leave t₀ base n year (orders_from root f from) = rw z at s.leaves in
        let o : put out to [] ≡ put out₀ 0 (all_outcomes t₀ base n year (orders_from root f from)) = rw z at s.outcomes in
        (omega arith, omega arith, l, sym (put_nil out to) ∙ o)

    module _ (k : Kept) (e : next_of (those is_order (kept_from root f i)) ≡ Some k) where
      pub serving_order : OrderAt root f i k
      serving_order = order_at root f i k s.rooted.holds e

      pub serving_room : to + 16 ≤ length out
      serving_room = let h : to + 16 * suc (length (orders_from root f k.child.after)) ≤ length out = rw serving_order.rest at s.room in omega arith

      -- an order's search looks at no more slots than the body has
      pub serving_steps : (o : Ordinativo) {d : ℕ} → d ≡ order_steps t base n year o → (steps + d) + max_slots * length (orders_from root f k.child.after) ≤ max_steps
      serving_steps o e =
          let h : steps + max_slots * suc (length (orders_from root f k.child.after)) ≤ max_steps = rw serving_order.rest at s.most in
          omega (arith, order_most t base n year o, s.body.few)

      pub serving_step : {o : Order} {j : Result (Change × ℕ) ℕ} {d code a used' : ℕ} {t' out' marks' : List ℕ} → o ≡ order_of f k → j ≡ order_comes t base n year (ordinativo o)
          → d ≡ order_steps t base n year (ordinativo o) → t' ≡ order_leaves t base n year (ordinativo o) → length t' ≡ length t
          → code ≡ order_code j → out' ≡ put out to (outcome_bytes (ordinativo o) code) → length out' ≡ length out → a ≡ cond (eqb code 0) 1 0 → a ≤ 1
          → used' ≡ used_after j used → marks' ≡ set marks (mark_of (key_for year (ordinativo o))) 1
          → Serving root f past base n year t₀ out₀ from t' out' marks' k.child.after (to + 16) (accepted + a) (steps + d) used'
      unfolding all_accepted all_steps all_leave all_outcomes
      serving_step {o} {j} {d} {code} {a} {used'} {t'} {out'} {marks'} eo ej ed et lt ec eu lu ea la en em =
          let q = serving_order in
          let os = orders_from root f k.child.after in
          let l = q.lies in
          let w = s.few in
          let b : Servable t base n year (ordinativo (order_of f k) ∷ os) = rw q.rest at s.body in
          let h : to + 16 * suc (length os) ≤ length out = rw q.rest at s.room in
          let c : accepted + (cond (eqb (order_code (order_comes t base n year (ordinativo (order_of f k)))) 0) 1 0 + all_accepted (order_leaves t base n year (ordinativo (order_of f k))) base n year os) ≡ all_accepted t₀ base n year (orders_from root f from) = rw q.rest at s.counted in
          let x : steps + (order_steps t base n year (ordinativo (order_of f k)) + all_steps (order_leaves t base n year (ordinativo (order_of f k))) base n year os) ≡ all_steps t₀ base n year (orders_from root f from) = rw q.rest at s.stepped in
          let m : all_leave (order_leaves t base n year (ordinativo (order_of f k))) base n year os ≡ all_leave t₀ base n year (orders_from root f from) = rw q.rest at s.leaves in
          let p : put out to (outcome_bytes (ordinativo (order_of f k)) (order_code (order_comes t base n year (ordinativo (order_of f k)))) ++ all_outcomes (order_leaves t base n year (ordinativo (order_of f k))) base n year os) ≡ put out₀ 0 (all_outcomes t₀ base n year (orders_from root f from)) = rw q.rest at s.outcomes in
          let tt : t' ≡ order_leaves t base n year (ordinativo (order_of f k)) = et ∙ ap (λ (x : Order). order_leaves t base n year (ordinativo x)) eo in
          let jj : j ≡ order_comes t base n year (ordinativo (order_of f k)) = ej ∙ ap (λ (x : Order). order_comes t base n year (ordinativo x)) eo in
          let dd : d ≡ order_steps t base n year (ordinativo (order_of f k)) = ed ∙ ap (λ (x : Order). order_steps t base n year (ordinativo x)) eo in
          let aa : a ≡ cond (eqb (order_code (order_comes t base n year (ordinativo (order_of f k)))) 0) 1 0 = ea ∙ ap (λ (x : ℕ). cond (eqb x 0) 1 0) (ec ∙ ap order_code jj) in
          let uu : out' ≡ put out to (outcome_bytes (ordinativo (order_of f k)) (order_code (order_comes t base n year (ordinativo (order_of f k))))) = rw (← eo, ← ej, ← ec) eu in
          record {
            rooted = record { within = l.within; holds = q.on; noted = s.rooted.noted };
            body = rw tt (servable_on b);
            room = omega arith;
            few = omega arith;
            most = serving_steps (ordinativo o) ed;
            same_table = lt ∙ s.same_table;
            same_out = lu ∙ s.same_out;
            counted = rw (tt, aa) (omega arith);
            stepped = rw (tt, dd) (omega arith);
            leaves = rw tt m;
            outcomes = rw (tt, uu) (put_put out to (outcome_bytes (ordinativo (order_of f k)) (order_code (order_comes t base n year (ordinativo (order_of f k))))) _ (to + 16) (omega arith) (ap (λ (x : ℕ). to + x) (outcome_length (ordinativo (order_of f k)) _)) ∙ p);
            low = rw en (used_low j s.low (λ c i e. order_low t base n year (ordinativo o) c i (sym ej ∙ e)));
            keys = rw (en, jj, em, eo, tt) (order_filtered t base n year (ordinativo (order_of f k)) b.inside b.valid (written_on b.orders.written).0 b.orders.dated s.keys);
          }
