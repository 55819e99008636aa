-- What the laws give of a run and its log. Assumes nothing.
use mathlib.Core.Path.{◌≡◌, refl, sym, ◌∙◌, ap, ap₂}
use mathlib.Core.Bool.{Bool, true, false, true≢false}
use mathlib.Core.Option.{Option, none, some}
use mathlib.Core.List.{List, [], ◌∷◌, ◌++◌}
use Prim.Native.Nat.{ℕ, zero, suc, ◌<◌, ◌≤◌}
use native.Mathlib.Omega.{arith}
use Rattle.isolation.specs.Order.{is, mine, strays, first_bodies, body_by_body}
use Rattle.isolation.proofs.OrderLaws.{is_some, is_same, mine_bodies_past}
use Rattle.isolation.specs.Machine.{Machine, Laws, Line, whose, state_after, log}

-- a sequence in two parts
module _ (M : Machine) where
  pub run_append : (xs ys : List M.Call) (s : M.State) → state_after M (xs ++ ys) s ≡ state_after M ys (state_after M xs s)
  run_append [] ys s = refl
  run_append (x ∷ xs) ys s = run_append xs ys (M.next x s)

  pub log_append : (xs ys : List M.Call) (s : M.State) → log M (xs ++ ys) s ≡ log M xs s ++ log M ys (state_after M xs s)
  log_append [] ys s = refl
  log_append (x ∷ xs) ys s = ap {B = List (Line M)} (λ l. (x, M.answer x s) ∷ l) (log_append xs ys (M.next x s))

-- what body b gets and holds: in the sequence from s, and in its own calls alone from t
abbrev pub Alone : (M : Machine) → List M.Call → ℕ → M.State → M.State → Type 0
Alone M cs b s t =
    (mine (whose M) b (log M cs s) ≡ log M (mine M.who b cs) t)
    × (M.part b (state_after M cs s) ≡ M.part b (state_after M (mine M.who b cs) t))

module _ (M : Machine) (Good : M.State → Type 0) (laws : Laws M Good) where
  pub good_run : (cs : List M.Call) (s : M.State) → Good s → Good (state_after M cs s)
  good_run [] s g = g
  good_run (c ∷ cs) s g = good_run cs (M.next c s) (laws.stays c s g)

  -- what no body owns
  pub rest_run : (cs : List M.Call) (s : M.State) → Good s → M.rest (state_after M cs s) ≡ M.rest s
  rest_run [] s g = refl
  rest_run (c ∷ cs) s g = rest_run cs (M.next c s) (laws.stays c s g) ∙ laws.frame c s g

  -- a call that is not b's leaves b's part
  pub not_mine : (c : M.Call) (b : ℕ) (s : M.State) → b < M.count → Good s → is b (M.who c) ≡ false → M.part b (M.next c s) ≡ M.part b s
  not_mine c b s l g n = go (M.who c) refl n
    where
      go : (o : Option ℕ) → M.who c ≡ o → is b o ≡ false → M.part b (M.next c s) ≡ M.part b s
      go none e n = ap (M.part b) (laws.stray_state c s g e)
      go (some a) e n = laws.other c s b a l g e (λ k. true≢false (sym (is_same a) ∙ rw k at n))

  -- THE HEART: where s and t agree on b's part, b gets and holds the same in both
  pub alone : (cs : List M.Call) (b : ℕ) → b < M.count → (s t : M.State) → Good s → Good t → M.part b s ≡ M.part b t → Alone M cs b s t
  alone [] b l s t g h e = (refl, e)
  alone (c ∷ cs) b l s t g h e = go (alone cs b l) (is b (M.who c)) refl
    where
      go : ((s t : M.State) → Good s → Good t → M.part b s ≡ M.part b t → Alone M cs b s t)
          → (u : Bool) → is b (M.who c) ≡ u → Alone M (c ∷ cs) b s t
      go ih true m =
          let o = laws.own c s t b g h (is_some b (M.who c) m) e in
          let r = ih (M.next c s) (M.next c t) (laws.stays c s g) (laws.stays c t h) o.1 in
          rw m (ap₂ {C = List (Line M)} (λ a l. (c, a) ∷ l) o.0 r.0, r.1)
      go ih false m = rw m (ih (M.next c s) t (laws.stays c s g) h (not_mine c b s l g m ∙ e))

  pub strays_log : (cs : List M.Call) (s t : M.State) → Good s → Good t → strays (whose M) (log M cs s) ≡ log M (strays M.who cs) t
  strays_log [] s t g h = refl
  strays_log (c ∷ cs) s t g h = go (strays_log cs) (M.who c) refl
    where
      go : ((s t : M.State) → Good s → Good t → strays (whose M) (log M cs s) ≡ log M (strays M.who cs) t)
          → (o : Option ℕ) → M.who c ≡ o → strays (whose M) (log M (c ∷ cs) s) ≡ log M (strays M.who (c ∷ cs)) t
      go ih none e = rw e (ap₂ {C = List (Line M)} (λ a l. (c, a) ∷ l) (laws.stray_answer c s t g h e) (ih (M.next c s) (M.next c t) (laws.stays c s g) (laws.stays c t h)))
      go ih (some b) e = rw e (ih (M.next c s) t (laws.stays c s g) h)

  bodies_log : (n : ℕ) → n ≤ M.count → (cs : List M.Call) (s : M.State) → Good s → log M (first_bodies M.who n cs) s ≡ first_bodies (whose M) n (log M cs s)
  bodies_log zero l cs s g = refl
  bodies_log (suc n) l cs s g =
      let t = state_after M (first_bodies M.who n cs) s in
      let h : Good t = good_run (first_bodies M.who n cs) s g in
      let e : M.part n s ≡ M.part n t = sym (rw (mine_bodies_past M.who n n (omega arith) cs) at (alone (first_bodies M.who n cs) n (omega arith) s s g g refl).1) in
      log_append M (first_bodies M.who n cs) (mine M.who n cs) s
      ∙ ap₂ {C = List (Line M)} ◌++◌ (bodies_log n (omega arith) cs s g) (sym (alone cs n (omega arith) s t g h e).0)

  -- the log of serving body after body is the log in the order called, sorted body by body
  pub sorted_log : (cs : List M.Call) (s : M.State) → Good s → log M (body_by_body M.who M.count cs) s ≡ body_by_body (whose M) M.count (log M cs s)
  sorted_log cs s g =
      let first = first_bodies M.who M.count cs in
      log_append M first (strays M.who cs) s
      ∙ ap₂ {C = List (Line M)} ◌++◌ (bodies_log M.count (omega arith) cs s g) (sym (strays_log cs s (state_after M first s) g (good_run first s g)))

  -- two sequences in which body b makes the same calls in the same order, whatever else they hold
  pub two_runs : (fresh : M.State) → Good fresh → (cs ds : List M.Call) (b : ℕ) → b < M.count → mine M.who b cs ≡ mine M.who b ds
      → (mine (whose M) b (log M cs fresh) ≡ mine (whose M) b (log M ds fresh)) × (M.part b (state_after M cs fresh) ≡ M.part b (state_after M ds fresh))
  two_runs s g cs ds b k e =
      let x = alone cs b k s s g g refl in
      let y = alone ds b k s s g g refl in
      (x.0 ∙ ap (λ l. log M l s) e ∙ sym y.0, x.1 ∙ ap (λ l. M.part b (state_after M l s)) e ∙ sym y.1)

  -- any two sequences in which each body makes the same calls in the same order, whatever else they hold
  pub any_order : (fresh : M.State) → Good fresh → (cs ds : List M.Call) → ((b : ℕ) → b < M.count → mine M.who b cs ≡ mine M.who b ds)
      → (state_after M cs fresh ≡ state_after M ds fresh) × ((b : ℕ) → b < M.count → mine (whose M) b (log M cs fresh) ≡ mine (whose M) b (log M ds fresh))
  any_order s g cs ds h = (
    laws.whole (state_after M cs s) (state_after M ds s) (good_run cs s g) (good_run ds s g) (rest_run cs s g ∙ sym (rest_run ds s g)) (λ b k. (two_runs s g cs ds b k (h b k)).1),
    λ b k. (two_runs s g cs ds b k (h b k)).0,
  )
