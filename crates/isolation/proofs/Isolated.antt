-- CONDITION 3, proved of every machine that keeps the laws. Assumes nothing.
use mathlib.Core.Path.{◌≡◌, refl, sym, ◌∙◌, ap, ap₂, subst}
use mathlib.Core.Bool.{Bool, true, false}
use mathlib.Core.Option.{Option, none, some}
use mathlib.Core.List.{List, [], ◌∷◌, ◌++◌, map}
use Prim.Native.Nat.{ℕ, zero, suc, ◌+◌, ◌<◌, ◌≤◌}
use native.Mathlib.Nat.{zero-add, add-zero}
use native.Mathlib.Omega.{arith}
use native.Mathlib.Decide.{ℕ_discrete}
use lib.Dec.{eqb}
use lib.ListN.{get_elem?}
use Rattle.isolation.specs.Order.{passing, is, nobody, mine, strays, first_bodies, body_by_body}
use Rattle.isolation.proofs.OrderLaws.{passing_append, is_same, is_other, mine_by_body}
use Rattle.isolation.specs.Machine.{Machine, Laws, Isolated, Line, whose, state_after, log, number, tickets, ticket}
use Rattle.isolation.proofs.Runs.{good_run, rest_run, alone, sorted_log, two_runs, any_order}

module _ {A : Type 0} where
  passing_comm : (p q : A → Bool) (xs : List A) → passing p (passing q xs) ≡ passing q (passing p xs)
  passing_comm p q [] = refl
  passing_comm p q (x ∷ xs) = go (p x) refl (q x) refl (passing_comm p q xs)
    where
      go : (t : Bool) → p x ≡ t → (u : Bool) → q x ≡ u → passing p (passing q xs) ≡ passing q (passing p xs) → passing p (passing q (x ∷ xs)) ≡ passing q (passing p (x ∷ xs))
      go true e true f ih = simp (e, f) (ap {B = List A} (λ l. x ∷ l) ih)
      go true e false f ih = simp (e, f) ih
      go false e true f ih = simp (e, f) ih
      go false e false f ih = simp (e, f) ih

  module _ (owner : A → Option ℕ) where
    passing_bodies : (p : A → Bool) (n : ℕ) (xs : List A) → passing p (first_bodies owner n xs) ≡ first_bodies owner n (passing p xs)
    passing_bodies p zero xs = refl
    passing_bodies p (suc n) xs =
        passing_append p (first_bodies owner n xs) (mine owner n xs)
        ∙ ap₂ {C = List A} ◌++◌ (passing_bodies p n xs) (passing_comm p (λ x. is n (owner x)) xs)

    passing_by_body : (p : A → Bool) (n : ℕ) (xs : List A) → passing p (body_by_body owner n xs) ≡ body_by_body owner n (passing p xs)
    passing_by_body p n xs =
        passing_append p (first_bodies owner n xs) (strays owner xs)
        ∙ ap₂ {C = List A} ◌++◌ (passing_bodies p n xs) (passing_comm p (λ x. nobody (owner x)) xs)

    bodies_none : (x : A) → owner x ≡ none → (n : ℕ) → first_bodies owner n (x ∷ []) ≡ []
    bodies_none x e zero = refl
    bodies_none x e (suc n) = rw (bodies_none x e n, e)

    bodies_past : (x : A) (b : ℕ) → owner x ≡ some b → (n : ℕ) → n ≤ b → first_bodies owner n (x ∷ []) ≡ []
    bodies_past x b e zero h = refl
    bodies_past x b e (suc n) h = rw (bodies_past x b e n (omega arith), e, is_other b n (omega arith))

    bodies_one : (x : A) (b : ℕ) → owner x ≡ some b → (n : ℕ) → b < n → first_bodies owner n (x ∷ []) ≡ x ∷ []
    bodies_one x b e zero h = absurd (omega arith)
    bodies_one x b e (suc n) h = go (λ k. bodies_one x b e n k) (ℕ_discrete b n)
      where
        go : (b < n → first_bodies owner n (x ∷ []) ≡ x ∷ []) → Dec (b ≡ n) → first_bodies owner n (x ∷ []) ++ mine owner n (x ∷ []) ≡ x ∷ []
        go ih (yes k) = rw (bodies_past x b e n (omega arith), e, ← k, is_same b)
        go ih (no k) = rw (ih (omega arith), e, is_other b n k)

    -- one thing alone stays, if its owner is among the first n
    by_body_one : (x : A) (n : ℕ) → ((b : ℕ) → owner x ≡ some b → b < n) → body_by_body owner n (x ∷ []) ≡ x ∷ []
    by_body_one x n h = go (owner x) refl
      where
        go : (o : Option ℕ) → owner x ≡ o → body_by_body owner n (x ∷ []) ≡ x ∷ []
        go none e = rw (bodies_none x e n, e)
        go (some b) e = rw (bodies_one x b e n (h b e), e)

    bodies_nil : (n : ℕ) → first_bodies owner n [] ≡ []
    bodies_nil zero = refl
    bodies_nil (suc n) = rw (bodies_nil n)

    by_body_nil : (n : ℕ) → body_by_body owner n [] ≡ []
    by_body_nil n = rw (bodies_nil n)

-- the machine whose calls carry a number, at which no rule looks
abbrev Numbered : Machine → Machine
Numbered M = record {
  State = M.State;
  Call = ℕ × M.Call;
  Answer = M.Answer;
  Part = M.Part;
  Rest = M.Rest;
  count = M.count;
  who = λ c. M.who c.1;
  answer = λ c s. M.answer c.1 s;
  next = λ c s. M.next c.1 s;
  part = M.part;
  rest = M.rest;
}

-- the laws do not look at the number
numbered_laws : (M : Machine) (Good : M.State → Type 0) → Laws M Good → Laws (Numbered M) Good
numbered_laws M Good laws = record {
  named = λ c. laws.named c.1;
  stays = λ c. laws.stays c.1;
  stray_state = λ c. laws.stray_state c.1;
  stray_answer = λ c. laws.stray_answer c.1;
  other = λ c. laws.other c.1;
  frame = λ c. laws.frame c.1;
  own = λ c. laws.own c.1;
  whole = laws.whole;
}

module _ (M : Machine) where
  at : ℕ → Line (Numbered M) → Bool
  at k l = eqb l.0.0 k

  first : List (Line (Numbered M)) → Option M.Answer
  first [] = none
  first (l ∷ ls) = some l.1

  -- a ticket is a line of the numbered machine's log without its call
  abbrev stub : Line (Numbered M) → ℕ × M.Answer
  stub l = (l.0.0, l.1)

  tickets_log : (cs : List (ℕ × M.Call)) (s : M.State) → tickets M cs s ≡ map stub (log (Numbered M) cs s)
  tickets_log [] s = refl
  tickets_log (c ∷ cs) s = ap {B = List (ℕ × M.Answer)} (λ l. (c.0, M.answer c.1 s) ∷ l) (tickets_log cs (M.next c.1 s))

  first_at : (k : ℕ) (ls : List (Line (Numbered M))) → ticket k (map stub ls) ≡ first (passing (at k) ls)
  unfolding at first
  first_at k [] = refl
  first_at k (l ∷ ls) = go (eqb l.0.0 k) refl (first_at k ls)
    where
      go : (t : Bool) → eqb l.0.0 k ≡ t → ticket k (map stub ls) ≡ first (passing (at k) ls) → ticket k (map stub (l ∷ ls)) ≡ first (passing (at k) (l ∷ ls))
      go true e ih = rw e
      go false e ih = rw e ih

  -- past its first place a number does not stand
  not_before : (k j : ℕ) → k < j → (cs : List M.Call) (s : M.State) → passing (at k) (log (Numbered M) (number j cs) s) ≡ []
  unfolding at
  not_before k j h [] s = refl
  not_before k j h (c ∷ cs) s = rw (is_other j k (omega arith)) (not_before k (suc j) (omega arith) cs (M.next c s))

  -- at most one line has place k, so to sort those that have it changes nothing
  sorted_at : (n : ℕ) → ((c : M.Call) (b : ℕ) → M.who c ≡ some b → b < n) → (k j : ℕ) (cs : List M.Call) (s : M.State)
      → body_by_body (whose (Numbered M)) n (passing (at k) (log (Numbered M) (number j cs) s)) ≡ passing (at k) (log (Numbered M) (number j cs) s)
  unfolding at
  sorted_at n named k j [] s = by_body_nil (whose (Numbered M)) n
  sorted_at n named k j (c ∷ cs) s = go (ℕ_discrete j k) (sorted_at n named k (suc j) cs (M.next c s))
    where
      go : Dec (j ≡ k)
          → body_by_body (whose (Numbered M)) n (passing (at k) (log (Numbered M) (number (suc j) cs) (M.next c s))) ≡ passing (at k) (log (Numbered M) (number (suc j) cs) (M.next c s))
          → body_by_body (whose (Numbered M)) n (passing (at k) (log (Numbered M) (number j (c ∷ cs)) s)) ≡ passing (at k) (log (Numbered M) (number j (c ∷ cs)) s)
      go (yes e) ih = rw (e, is_same k, not_before k (suc k) (omega arith) cs (M.next c s)) (by_body_one (whose (Numbered M)) ((k, c), M.answer c s) n (named c))
      go (no d) ih = rw (is_other j k d) ih

  -- as called, the answer of place j + i is the i-th
  answer_at : (i j : ℕ) (cs : List M.Call) (s : M.State) → ticket (j + i) (tickets M (number j cs) s) ≡ get_elem? (map (λ l. l.1) (log M cs s)) i
  answer_at i j [] s = refl
  answer_at zero j (c ∷ cs) s = rw (add-zero, is_same j)
  answer_at (suc i) j (c ∷ cs) s =
      let e : suc j + i ≡ j + suc i = omega arith in
      rw (is_other j (j + suc i) (omega arith)) (subst (λ (n : ℕ). ticket n (tickets M (number (suc j) cs) (M.next c s)) ≡ get_elem? (map (λ l. l.1) (log M cs (M.next c s))) i) e (answer_at i (suc j) cs (M.next c s)))

-- THE THEOREM
pub isolated : (M : Machine) (Good : M.State → Type 0) → Laws M Good → (fresh : M.State) → Good fresh → Isolated M fresh
isolated M Good laws s g = record {
  named = laws.named;
  answers = λ cs k.
      let L = log (Numbered M) (number 0 cs) s in
      ap (ticket k) (tickets_log M (body_by_body (λ c. M.who c.1) M.count (number 0 cs)) s
      ∙ ap (map (stub M)) (sorted_log (Numbered M) Good (numbered_laws M Good laws) (number 0 cs) s g))
      ∙ first_at M k (body_by_body (whose (Numbered M)) M.count L)
      ∙ ap (first M) (passing_by_body (whose (Numbered M)) (at M k) M.count L ∙ sorted_at M M.count laws.named k 0 cs s)
      ∙ sym (first_at M k L)
      ∙ ap (ticket k) (sym (tickets_log M (number 0 cs) s))
      ∙ (rw zero-add at (answer_at M k 0 cs s));
  final = λ cs. (any_order M Good laws s g (body_by_body M.who M.count cs) cs (λ b k. mine_by_body M.who b M.count k cs)).0;
  alone_answers = λ cs b k. (alone M Good laws cs b k s s g g refl).0;
  alone_records = λ cs b k. (alone M Good laws cs b k s s g g refl).1;
  stray_state = λ cs c e. laws.stray_state c (state_after M cs s) (good_run M Good laws cs s g) e;
  stray_answer = λ cs c e. laws.stray_answer c (state_after M cs s) s (good_run M Good laws cs s g) g e;
  step = λ cs c a b k e n. laws.other c (state_after M cs s) a b k (good_run M Good laws cs s g) e n;
  frame = λ cs. rest_run M Good laws cs s g;
  whole = λ cs ds f.
      laws.whole (state_after M cs s) (state_after M ds s) (good_run M Good laws cs s g) (good_run M Good laws ds s g) (rest_run M Good laws cs s g ∙ sym (rest_run M Good laws ds s g)) f;
  two_runs = two_runs M Good laws s g;
}
