-- What a journal's code says, without the walk.
use Prim.Native.Nat.{ℕ, ◌+◌}
use mathlib.Core.Bool.{Bool, true, false, ◌&&◌, ◌||◌, cond, and-true}
use mathlib.Core.Logic.{◌⊎◌, inl, inr}
use mathlib.Core.List.Memᴰ
use mathlib.Core.List.{List, [], ◌∷◌, ◌++◌, append_assoc, append-nil, Memᴰ}
use mathlib.Core.Path.{◌≡◌, refl, sym, ap, subst, ◌∙◌}
use native.Mathlib.Omega.{arith}
use lib.Dec.{eqb}
use borrow.Author.Tests.{eq-eqb, eqb-true}
use Rattle.scan.proofs.Laws.{both}
use Rattle.record.specs.Slot.{executed_line, key_of}
use Rattle.record.specs.declared.Record.{Record}
use Rattle.slots.specs.Slots.{find_in, distinct}
use Rattle.journal.specs.declared.Movement.{Movement}
use Rattle.journal.specs.Journal.{movement_of, executed_from, executed_of, executed_lines, same_line, same_movement, any_of, all_of, movement_code, missing_code, journal_code}
use Rattle.journal.specs.Inner.{movement_key}
use Rattle.journal.specs.Told.{Permutation, none, one, OneLine, NoneOf, SomeOf, Right, start, next, FirstWrong, JournalTold}
use Rattle.journal.proofs.Laws.{clash, line_is, is_line, any_same, code_stops, code_goes, code_ends}
use Rattle.journal.proofs.Lines.{apart, none_lines, past_from}

-- TESTS AND WHAT THEY SAY

back : {m x : Movement} → OneLine m x → OneLine x m
back o = record { kind = sym o.kind; line = sym o.line; esercizio = sym o.esercizio; number = sym o.number }

itself : (m : Movement) → OneLine m m
itself m = record { kind = refl; line = refl; esercizio = refl; number = refl }

alike : {m x : Movement} → m ≡ x → OneLine m x
alike e = record { kind = ap (λ (y : Movement). y.kind) e; line = ap (λ (y : Movement). y.line) e; esercizio = ap (λ (y : Movement). y.esercizio) e; number = ap (λ (y : Movement). y.number) e }

via : {m x y : Movement} → OneLine m x → OneLine x y → OneLine m y
via o p = record { kind = o.kind ∙ p.kind; line = o.line ∙ p.line; esercizio = o.esercizio ∙ p.esercizio; number = o.number ∙ p.number }

module _ (p : Movement → Bool) where
  any_is : (xs : List Movement) → any_of p xs ≡ true → (x : Movement) × Memᴰ x xs × (p x ≡ true)
  unfolding any_of
  any_is [] e = clash e
  any_is (x ∷ xs) e = go (p x) refl e (any_is xs)
    where
      go : (b : Bool) → p x ≡ b → (b || any_of p xs) ≡ true → (any_of p xs ≡ true → (y : Movement) × Memᴰ y xs × (p y ≡ true))
          → (y : Movement) × Memᴰ y (x ∷ xs) × (p y ≡ true)
      go true f q later = (x, Memᴰ.head refl, f)
      go false f q later = let w = later q in (w.0, Memᴰ.tail w.1, w.2)

  is_any : (xs : List Movement) (x : Movement) → Memᴰ x xs → p x ≡ true → any_of p xs ≡ true
  unfolding any_of
  is_any [] x m e = absurd (Memᴰ.not-nil m)
  is_any (y ∷ xs) x m e = go (p y) refl (Memᴰ.cases_cons m) (λ n. is_any xs x n e)
    where
      go : (b : Bool) → p y ≡ b → (x ≡ y) ⊎ Memᴰ x xs → (Memᴰ x xs → any_of p xs ≡ true) → (b || any_of p xs) ≡ true
      go true f w later = refl
      go false f (inl q) later = clash (sym f ∙ ap p (sym q) ∙ e)
      go false f (inr n) later = later n

  all_is : (xs : List Movement) → all_of p xs ≡ true → (x : Movement) → Memᴰ x xs → p x ≡ true
  unfolding all_of
  all_is [] e x m = absurd (Memᴰ.not-nil m)
  all_is (y ∷ xs) e x m = let w = both (p y) (all_of p xs) e in go w.0 (Memᴰ.cases_cons m) (all_is xs w.1 x)
    where
      go : p y ≡ true → (x ≡ y) ⊎ Memᴰ x xs → (Memᴰ x xs → p x ≡ true) → p x ≡ true
      go f (inl q) later = ap p q ∙ f
      go f (inr n) later = later n

  not_all : (xs : List Movement) → all_of p xs ≡ false → (x : Movement) × Memᴰ x xs × (p x ≡ false)
  unfolding all_of
  not_all [] e = clash (sym e)
  not_all (y ∷ xs) e = go (p y) refl e (not_all xs)
    where
      go : (b : Bool) → p y ≡ b → (b && all_of p xs) ≡ false → (all_of p xs ≡ false → (x : Movement) × Memᴰ x xs × (p x ≡ false))
          → (x : Movement) × Memᴰ x (y ∷ xs) × (p x ≡ false)
      go true f q later = let w = later q in (w.0, Memᴰ.tail w.1, w.2)
      go false f q later = (y, Memᴰ.head refl, f)

  is_all : (xs : List Movement) → ((x : Movement) → Memᴰ x xs → p x ≡ true) → all_of p xs ≡ true
  unfolding all_of
  is_all [] h = refl
  is_all (y ∷ xs) h =
      let a = h y (Memᴰ.head refl) in
      let b = is_all xs (λ x n. h x (Memᴰ.tail n)) in
      λ i. a i && b i

  false_all : (xs : List Movement) (x : Movement) → Memᴰ x xs → p x ≡ false → all_of p xs ≡ false
  false_all xs x m e = go (all_of p xs) refl
    where
      go : (b : Bool) → all_of p xs ≡ b → all_of p xs ≡ false
      go true f = clash (sym e ∙ all_is xs f x m)
      go false f = f

module _ (m : Movement) (xs : List Movement) where
  to_some : any_of (same_line m) xs ≡ true → SomeOf m xs
  to_some e = let w = any_is (same_line m) xs e in (w.0, w.1, line_is m w.0 w.2)

  some_to : SomeOf m xs → any_of (same_line m) xs ≡ true
  some_to w = is_any (same_line m) xs w.0 w.1 (is_line m w.0 w.2)

  to_none : any_of (same_line m) xs ≡ false → NoneOf m xs
  to_none e x n o = let z = sym e ∙ some_to (x, n, o) in clash z

  none_to : NoneOf m xs → any_of (same_line m) xs ≡ false
  none_to h = go (any_of (same_line m) xs) refl
    where
      go : (b : Bool) → any_of (same_line m) xs ≡ b → any_of (same_line m) xs ≡ false
      go true e = let w = to_some e in absurd (h w.0 w.1 w.2)
      go false e = e

  to_member : any_of (same_movement m) xs ≡ true → Memᴰ m xs
  to_member e =
      let w = any_is (same_movement m) xs e in
      let b = both (same_line m w.0) (eqb m.cents w.0.cents) w.2 in
      let o = line_is m w.0 b.0 in
      let c = eqb-true _ _ b.1 in
      let q : m ≡ w.0 = (λ i. record { kind = o.kind i; line = o.line i; esercizio = o.esercizio i; number = o.number i; cents = c i }) in
      subst (λ (y : Movement). Memᴰ y xs) (sym q) w.1

  member_to : Memᴰ m xs → any_of (same_movement m) xs ≡ true
  member_to n =
      let a = is_line m m (itself m) in
      let b = eq-eqb m.cents m.cents refl in
      is_any (same_movement m) xs m n (λ i. a i && b i)

  member_some : Memᴰ m xs → SomeOf m xs
  member_some n = (m, n, itself m)

-- A MOVEMENT'S CODE

pub data View (E before : List Movement) (m : Movement) (c : ℕ) : Type 0 where
  right : c ≡ 0 → Memᴰ m E → NoneOf m before → View E before m c
  absent : c ≡ 30 → NoneOf m E → View E before m c
  cents : c ≡ 31 → SomeOf m E → (Memᴰ m E → ⊥) → View E before m c
  again : c ≡ 32 → Memᴰ m E → SomeOf m before → View E before m c

view : (E before : List Movement) (m : Movement) → View E before m (movement_code E before m)
unfolding movement_code
view E before m = go (any_of (same_line m) E) refl (any_of (same_movement m) E) refl (any_of (same_line m) before) refl
  where
    go : (x : Bool) → any_of (same_line m) E ≡ x → (y : Bool) → any_of (same_movement m) E ≡ y → (z : Bool) → any_of (same_line m) before ≡ z
        → View E before m (cond x (cond y (cond z 32 0) 31) 30)
    go true e true f true g = again refl (to_member m E f) (to_some m before g)
    go true e true f false g = right refl (to_member m E f) (to_none m before g)
    go true e false f z g = cents refl (to_some m E e) (λ n. clash (sym f ∙ member_to m E n))
    go false e y f z g = absent refl (to_none m E e)

module _ (E before : List Movement) (m : Movement) where
  code_0 : Memᴰ m E → NoneOf m before → movement_code E before m ≡ 0
  unfolding movement_code
  code_0 n h = rw (some_to m E (member_some m E n), member_to m E n, none_to m before h)

  code_30 : NoneOf m E → movement_code E before m ≡ 30
  unfolding movement_code
  code_30 h = rw (none_to m E h)

  code_31 : SomeOf m E → (Memᴰ m E → ⊥) → movement_code E before m ≡ 31
  unfolding movement_code
  code_31 w h = rw (some_to m E w, not_member)
    where
      not_member : any_of (same_movement m) E ≡ false
      not_member = go (any_of (same_movement m) E) refl
        where
          go : (b : Bool) → any_of (same_movement m) E ≡ b → any_of (same_movement m) E ≡ false
          go true e = absurd (h (to_member m E e))
          go false e = e

  code_32 : Memᴰ m E → SomeOf m before → movement_code E before m ≡ 32
  unfolding movement_code
  code_32 n w = rw (some_to m E (member_some m E n), member_to m E n, some_to m before w)

-- ALL MOVEMENTS: those of `before` are right, ms come after

pub data Whole (E before ms : List Movement) (c : ℕ) : Type 0 where
  stops : (mid : List Movement) (m : Movement) (after : List Movement) → ms ≡ mid ++ m ∷ after → Right E (before ++ mid) → (c ≡ 0 → ⊥) → View E (before ++ mid) m c → Whole E before ms c
  accepts : c ≡ 0 → Right E (before ++ ms) → ((e : Movement) → Memᴰ e E → SomeOf e (before ++ ms)) → Whole E before ms c
  misses : c ≡ 33 → Right E (before ++ ms) → (e : Movement) → Memᴰ e E → NoneOf e (before ++ ms) → Whole E before ms c

whole : (E before ms : List Movement) → Right E before → Whole E before ms (journal_code E before ms)
unfolding missing_code
whole E before [] R = subst (λ (c : ℕ). Whole E before [] c) (sym (code_ends E before refl)) (go (all_of (λ e. any_of (same_line e) before) E) refl)
  where
    q : before ++ [] ≡ before
    q = append-nil before

    go : (b : Bool) → all_of (λ e. any_of (same_line e) before) E ≡ b → Whole E before [] (missing_code E before)
    go true f =
        accepts (ap (λ (b : Bool). cond b 0 33) f) (subst (λ (l : List Movement). Right E l) (sym q) R)
        (λ e n. subst (λ (l : List Movement). SomeOf e l) (sym q) (to_some e before (all_is (λ e. any_of (same_line e) before) E f e n)))
    go false f =
        let w = not_all (λ e. any_of (same_line e) before) E f in
        misses (ap (λ (b : Bool). cond b 0 33) f) (subst (λ (l : List Movement). Right E l) (sym q) R) w.0 w.1
        (subst (λ (l : List Movement). NoneOf w.0 l) (sym q) (to_none w.0 before w.2))
whole E before (m ∷ ms) R = go (movement_code E before m) refl (view E before m) (λ S. whole E (before ++ m ∷ []) ms S)
  where
    n : before ++ [] ≡ before
    n = append-nil before

    a : (l : List Movement) → (before ++ m ∷ []) ++ l ≡ before ++ m ∷ l
    a l = append_assoc before (m ∷ []) l

    stopped : (c : ℕ) → movement_code E before m ≡ c → (c ≡ 0 → ⊥) → View E before m c → Whole E before (m ∷ ms) (journal_code E before (m ∷ ms))
    stopped c e h v =
        subst (λ (d : ℕ). Whole E before (m ∷ ms) d) (sym (code_stops E before refl c h e))
        (stops [] m ms refl (subst (λ (l : List Movement). Right E l) (sym n) R) h (subst (λ (l : List Movement). View E l m c) (sym n) v))

    moved : (c : ℕ) → Whole E (before ++ m ∷ []) ms c → Whole E before (m ∷ ms) c
    moved c (stops mid x after e S h v) =
        stops (m ∷ mid) x after (ap (λ (l : List Movement). m ∷ l) e) (subst (λ (l : List Movement). Right E l) (a mid) S) h (subst (λ (l : List Movement). View E l x c) (a mid) v)
    moved c (accepts e S h) = accepts e (subst (λ (l : List Movement). Right E l) (a ms) S) (λ x i. subst (λ (l : List Movement). SomeOf x l) (a ms) (h x i))
    moved c (misses e S x i h) = misses e (subst (λ (l : List Movement). Right E l) (a ms) S) x i (subst (λ (l : List Movement). NoneOf x l) (a ms) h)

    go : (c : ℕ) → movement_code E before m ≡ c → View E before m (movement_code E before m)
        → (Right E (before ++ m ∷ []) → Whole E (before ++ m ∷ []) ms (journal_code E (before ++ m ∷ []) ms)) → Whole E before (m ∷ ms) (journal_code E before (m ∷ ms))
    go c e (right f i h) later =
        subst (λ (d : ℕ). Whole E before (m ∷ ms) d) (sym (code_goes E before refl f)) (moved _ (later (next before m R i h)))
    go c e (absent f h) later = stopped 30 f (λ z. omega arith) (absent refl h)
    go c e (cents f w h) later = stopped 31 f (λ z. omega arith) (cents refl w h)
    go c e (again f i w) later = stopped 32 f (λ z. omega arith) (again refl i w)

-- right movements are passed
passes : {E before : List Movement} → Right E before → (rest : List Movement) → journal_code E [] (before ++ rest) ≡ journal_code E before rest
passes start rest = refl
passes {E} (next before m R i h) rest =
    ap (journal_code E []) (append_assoc before (m ∷ []) rest) ∙ passes R (m ∷ rest) ∙ code_goes E before refl (code_0 E before m i h)

-- A MOVEMENT THAT IS NOT RIGHT

first_stops : {E ms : List Movement} (c : ℕ) → (c ≡ 0 → ⊥) → (before : List Movement) (m : Movement) (after : List Movement) → ms ≡ before ++ m ∷ after → Right E before
    → movement_code E before m ≡ c → journal_code E [] ms ≡ c
first_stops {E} c h before m after q R e = ap (journal_code E []) q ∙ passes R (m ∷ after) ∙ code_stops E before refl c h e

ends_with : {E : List Movement} (ms : List Movement) → Right E ms → journal_code E [] ms ≡ missing_code E ms
ends_with {E} ms R = ap (journal_code E []) (sym (append-nil ms)) ∙ passes R [] ∙ code_ends E ms refl

-- MEMBERS of two lists, with one more between them

either : {A B C : Type 0} → A ⊎ B → (A → C) → (B → C) → C
either (inl a) f g = f a
either (inr b) f g = g b

put_in : (a : List Movement) (m : Movement) (b : List Movement) (x : Movement) → Memᴰ x (a ++ b) → Memᴰ x (a ++ m ∷ b)
put_in a m b x i = either (Memᴰ.append_cases a i) (λ j. Memᴰ.append_left (m ∷ b) j) (λ j. Memᴰ.append_right a (Memᴰ.tail j))

take_out : (a : List Movement) (m : Movement) (b : List Movement) (x : Movement) → (x ≡ m → ⊥) → Memᴰ x (a ++ m ∷ b) → Memᴰ x (a ++ b)
take_out a m b x n i =
    either (Memᴰ.append_cases a i) (λ j. Memᴰ.append_left b j)
    (λ j. either (Memᴰ.cases_cons j) (λ (q : x ≡ m). absurd (n q)) (λ k. Memᴰ.append_right a k))

-- another than the first
others : (e : Movement) (ms : List Movement) (m : Movement) → (OneLine e m → ⊥) → SomeOf e (m ∷ ms) → SomeOf e ms
others e ms m n w = either (Memᴰ.cases_cons w.1) (λ (q : w.0 ≡ m). absurd (n (via w.2 (alike q)))) (λ i. (w.0, i, w.2))

lines_test : (m : Movement) (xs : List Movement) → any_of (same_line m) xs ≡ any_of (λ x. same_line m x && true) xs
lines_test m xs = any_same (same_line m) (λ x. same_line m x && true) (λ x. sym (and-true (same_line m x))) xs

-- LINES THAT ARE APART: no two movements name one line

pub data Apart : List Movement → Type 0 where
  no_more : Apart []
  more : {m : Movement} {ms : List Movement} → NoneOf m ms → Apart ms → Apart (m ∷ ms)

apart_join : (xs ys : List Movement) → Apart xs → Apart ys → ((x : Movement) → Memᴰ x xs → NoneOf x ys) → Apart (xs ++ ys)
apart_join [] ys A B h = B
apart_join (x ∷ xs) ys (more n A) B h =
    more (λ y i o. either (Memᴰ.append_cases xs i) (λ j. n y j o) (λ j. h x (Memᴰ.head refl) y j o))
    (apart_join xs ys A B (λ y i. h y (Memᴰ.tail i)))

-- one of them taken out: the others are apart, and none of them names its line
apart_without : (a : List Movement) (m : Movement) (b : List Movement) → Apart (a ++ m ∷ b) → Apart (a ++ b) × NoneOf m (a ++ b)
apart_without [] m b (more n A) = (A, n)
apart_without (x ∷ a) m b (more n A) =
    let w = apart_without a m b A in (
      more (λ y i. n y (put_in a m b y i)) w.0,
      λ y i o. either (Memᴰ.cases_cons i) (λ (q : y ≡ x). n m (Memᴰ.append_right a (Memᴰ.head refl)) (via (alike (sym q)) (back o))) (λ j. w.1 y j o),
    )

-- where a movement stands
pub record Stands (m : Movement) (E : List Movement) : Type 0 where
  pub a : List Movement
  pub b : List Movement
  pub here : E ≡ a ++ m ∷ b

stands : (m : Movement) (E : List Movement) → Memᴰ m E → Stands m E
stands m [] i = absurd (Memᴰ.not-nil i)
stands m (x ∷ E) i = go (Memᴰ.cases_cons i) (stands m E)
  where
    go : (m ≡ x) ⊎ Memᴰ m E → (Memᴰ m E → Stands m E) → Stands m (x ∷ E)
    go (inl q) later = record { a = []; b = E; here = ap (λ (y : Movement). y ∷ E) (sym q) }
    go (inr j) later = let w = later j in record { a = x ∷ w.a; b = w.b; here = ap (λ (l : List Movement). x ∷ l) w.here }

-- RIGHT MOVEMENTS are apart and all among the executed lines
right_in : {E ms : List Movement} → Right E ms → (m : Movement) → Memᴰ m ms → Memᴰ m E
right_in start m i = absurd (Memᴰ.not-nil i)
right_in {E} (next before x R j h) m i =
    either (Memᴰ.append_cases before i) (λ k. right_in R m k) (λ k. subst (λ (y : Movement). Memᴰ y E) (sym (Memᴰ.eq_of_singleton k)) j)

right_apart : {E ms : List Movement} → Right E ms → Apart ms
right_apart start = no_more
right_apart (next before x R j h) =
    apart_join before (x ∷ []) (right_apart R) (more (λ y i o. Memᴰ.not-nil i) no_more)
    (λ y i z k o. h y i (via (alike (sym (Memᴰ.eq_of_singleton k))) (back o)))

apart_right : {E : List Movement} (before ms : List Movement) → Right E before → Apart ms → ((m : Movement) → Memᴰ m ms → Memᴰ m E)
    → ((m : Movement) → Memᴰ m ms → NoneOf m before) → Right E (before ++ ms)
apart_right {E} before [] R A i h = subst (λ (l : List Movement). Right E l) (sym (append-nil before)) R
apart_right {E} before (m ∷ ms) R (more n A) i h =
    subst (λ (l : List Movement). Right E l) (append_assoc before (m ∷ []) ms)
    (apart_right (before ++ m ∷ []) ms (next before m R (i m (Memᴰ.head refl)) (h m (Memᴰ.head refl))) A (λ x j. i x (Memᴰ.tail j))
    (λ x j y k o. either (Memᴰ.append_cases before k) (λ l. h x (Memᴰ.tail j) y l o) (λ l. n x j (back (via o (alike (Memᴰ.eq_of_singleton l)))))))

-- PERMUTATIONS

permuted : (ms E : List Movement) → Apart ms → Apart E → ((m : Movement) → Memᴰ m ms → Memᴰ m E) → ((e : Movement) → Memᴰ e E → SomeOf e ms) → Permutation ms E
permuted [] [] A B i h = none
permuted [] (e ∷ E) A B i h = let w = h e (Memᴰ.head refl) in absurd (Memᴰ.not-nil w.1)
permuted (m ∷ ms) E (more n A) B i h =
    let s = stands m E (i m (Memᴰ.head refl)) in
    let a = s.a in
    let b = s.b in
    let w = apart_without a m b (subst Apart s.here B) in
    let inside : (x : Movement) → Memᴰ x ms → Memᴰ x (a ++ b) =
    λ x j. take_out a m b x (λ q. n x j (alike (sym q))) (subst (λ (l : List Movement). Memᴰ x l) s.here (i x (Memᴰ.tail j))) in
    let listed : (e : Movement) → Memᴰ e (a ++ b) → SomeOf e ms =
    λ e j. others e ms m (λ o. w.1 e j (back o)) (h e (subst (λ (l : List Movement). Memᴰ e l) (sym s.here) (put_in a m b e j))) in
    subst (λ (l : List Movement). Permutation (m ∷ ms) l) (sym s.here) (one m ms a b (permuted ms (a ++ b) A w.0 inside listed))

perm_in : {ms E : List Movement} → Permutation ms E → (m : Movement) → Memᴰ m ms → Memᴰ m E
perm_in none m i = i
perm_in (one x ms a b p) m i =
    either (Memᴰ.cases_cons i) (λ (q : m ≡ x). Memᴰ.append_right a (Memᴰ.head q)) (λ j. put_in a x b m (perm_in p m j))

perm_all : {ms E : List Movement} → Permutation ms E → (e : Movement) → Memᴰ e E → Memᴰ e ms
perm_all none e i = i
perm_all (one x ms a b p) e i =
    either (Memᴰ.append_cases a i) (λ j. Memᴰ.tail (perm_all p e (Memᴰ.append_left b j)))
    (λ j. either (Memᴰ.cases_cons j) (λ (q : e ≡ x). Memᴰ.head q) (λ k. Memᴰ.tail (perm_all p e (Memᴰ.append_right a k))))

perm_apart : {ms E : List Movement} → Permutation ms E → Apart E → Apart ms
perm_apart none A = no_more
perm_apart (one m ms a b p) A = let w = apart_without a m b A in more (λ x i. w.1 x (perm_in p x i)) (perm_apart p w.0)

-- A BODY'S EXECUTED LINES are apart, where no key stands twice

from_apart : (r : Record) (l : ℕ) (states amounts : List ℕ) → Apart (executed_from r l states amounts)
unfolding executed_from
from_apart r l [] amounts = no_more
from_apart r l (s ∷ states) [] = no_more
from_apart r l (s ∷ states) (a ∷ amounts) = go (eqb s executed_line) (from_apart r (l + 1) states amounts)
  where
    first : NoneOf (movement_of r l a) (executed_from r (l + 1) states amounts)
    first =
        to_none (movement_of r l a) (executed_from r (l + 1) states amounts)
        (lines_test (movement_of r l a) (executed_from r (l + 1) states amounts) ∙ past_from (movement_of r l a) (λ c. true) r refl (l + 1) states amounts (omega arith))

    go : (b : Bool) → Apart (executed_from r (l + 1) states amounts)
        → Apart (cond b (movement_of r l a ∷ executed_from r (l + 1) states amounts) (executed_from r (l + 1) states amounts))
    go true A = more first A
    go false A = A

from_key : (r : Record) (l : ℕ) (states amounts : List ℕ) (m : Movement) → Memᴰ m (executed_from r l states amounts) → key_of r ≡ movement_key m
unfolding executed_from
from_key r l [] amounts m i = absurd (Memᴰ.not-nil i)
from_key r l (s ∷ states) [] m i = absurd (Memᴰ.not-nil i)
from_key r l (s ∷ states) (a ∷ amounts) m i = go (eqb s executed_line) i (from_key r (l + 1) states amounts m)
  where
    go : (b : Bool) → Memᴰ m (cond b (movement_of r l a ∷ executed_from r (l + 1) states amounts) (executed_from r (l + 1) states amounts))
        → (Memᴰ m (executed_from r (l + 1) states amounts) → key_of r ≡ movement_key m) → key_of r ≡ movement_key m
    go true j later = either (Memᴰ.cases_cons j) (λ (q : m ≡ movement_of r l a). ap movement_key (sym q)) later
    go false j later = later j

lines_apart : (rs : List Record) → distinct rs ≡ true → Apart (executed_lines rs)
unfolding executed_lines
lines_apart [] d = no_more
lines_apart (r ∷ rs) d =
    let w = apart r rs d in
    apart_join (executed_of r) (executed_lines rs) (from_apart r 1 r.states r.amounts) (lines_apart rs w.1)
    (λ m i. to_none m (executed_lines rs)
    (lines_test m (executed_lines rs) ∙ none_lines m (λ c. true) rs 0 (ap (find_in rs 0) (sym (from_key r 1 r.states r.amounts m i)) ∙ w.0)))

-- THE THEOREM

module _ (rs : List Record) (d : distinct rs ≡ true) (ms : List Movement) where
  abbrev E : List Movement
  E = executed_lines rs

  A : Apart E
  A = lines_apart rs d

  W : Whole E [] ms (journal_code E [] ms)
  W = whole E [] ms start

  to_permutation : {c : ℕ} → Whole E [] ms c → c ≡ 0 → Permutation ms E
  to_permutation (stops mid m after q R h v) e = absurd (h e)
  to_permutation (accepts f R h) e = permuted ms E (right_apart R) A (right_in R) h
  to_permutation (misses f R x i h) e = absurd (omega arith)

  from_permutation : Permutation ms E → journal_code E [] ms ≡ 0
  unfolding missing_code
  from_permutation p =
      let R = apart_right [] ms start (perm_apart p A) (perm_in p) (λ m i x j o. Memᴰ.not-nil j) in
      ends_with ms R
      ∙ ap (λ (b : Bool). cond b 0 33) (is_all (λ e. any_of (same_line e) ms) E (λ e i. some_to e ms (member_some e ms (perm_all p e i))))

  first_30 : {c : ℕ} → Whole E [] ms c → c ≡ 30 → FirstWrong E ms (λ before m. NoneOf m E)
  first_30 (stops mid m after q R h (right f i n)) e = absurd (h f)
  first_30 (stops mid m after q R h (absent f n)) e = record { before = mid; m = m; after = after; here = q; right = R; wrong = n }
  first_30 (stops mid m after q R h (cents f w n)) e = absurd (omega arith)
  first_30 (stops mid m after q R h (again f i w)) e = absurd (omega arith)
  first_30 (accepts f R h) e = absurd (omega arith)
  first_30 (misses f R x i h) e = absurd (omega arith)

  first_31 : {c : ℕ} → Whole E [] ms c → c ≡ 31 → FirstWrong E ms (λ before m. SomeOf m E × (Memᴰ m E → ⊥))
  first_31 (stops mid m after q R h (right f i n)) e = absurd (h f)
  first_31 (stops mid m after q R h (absent f n)) e = absurd (omega arith)
  first_31 (stops mid m after q R h (cents f w n)) e = record { before = mid; m = m; after = after; here = q; right = R; wrong = (w, n) }
  first_31 (stops mid m after q R h (again f i w)) e = absurd (omega arith)
  first_31 (accepts f R h) e = absurd (omega arith)
  first_31 (misses f R x i h) e = absurd (omega arith)

  first_32 : {c : ℕ} → Whole E [] ms c → c ≡ 32 → FirstWrong E ms (λ before m. Memᴰ m E × SomeOf m before)
  first_32 (stops mid m after q R h (right f i n)) e = absurd (h f)
  first_32 (stops mid m after q R h (absent f n)) e = absurd (omega arith)
  first_32 (stops mid m after q R h (cents f w n)) e = absurd (omega arith)
  first_32 (stops mid m after q R h (again f i w)) e = record { before = mid; m = m; after = after; here = q; right = R; wrong = (i, w) }
  first_32 (accepts f R h) e = absurd (omega arith)
  first_32 (misses f R x i h) e = absurd (omega arith)

  to_missing : {c : ℕ} → Whole E [] ms c → c ≡ 33 → Right E ms × ((e : Movement) × Memᴰ e E × NoneOf e ms)
  to_missing (stops mid m after q R h (right f i n)) e = absurd (h f)
  to_missing (stops mid m after q R h (absent f n)) e = absurd (omega arith)
  to_missing (stops mid m after q R h (cents f w n)) e = absurd (omega arith)
  to_missing (stops mid m after q R h (again f i w)) e = absurd (omega arith)
  to_missing (accepts f R h) e = absurd (omega arith)
  to_missing (misses f R x i h) e = (R, (x, i, h))

  from_missing : Right E ms × ((e : Movement) × Memᴰ e E × NoneOf e ms) → journal_code E [] ms ≡ 33
  unfolding missing_code
  from_missing w =
      ends_with ms w.0
      ∙ ap (λ (b : Bool). cond b 0 33) (false_all (λ e. any_of (same_line e) ms) E w.1.0 w.1.1 (none_to w.1.0 ms w.1.2))

pub journal_told : JournalTold
journal_told rs d ms = record {
  accepted = (to_permutation rs d ms (W rs d ms), from_permutation rs d ms);
  no_such_line =
      (first_30 rs d ms (W rs d ms), λ f. first_stops 30 (λ z. omega arith) f.before f.m f.after f.here f.right (code_30 (executed_lines rs) f.before f.m f.wrong));
  other_cents =
      (first_31 rs d ms (W rs d ms), λ f. first_stops 31 (λ z. omega arith) f.before f.m f.after f.here f.right (code_31 (executed_lines rs) f.before f.m f.wrong.0 f.wrong.1));
  listed_before =
      (first_32 rs d ms (W rs d ms), λ f. first_stops 32 (λ z. omega arith) f.before f.m f.after f.here f.right (code_32 (executed_lines rs) f.before f.m f.wrong.0 f.wrong.1));
  missing = (to_missing rs d ms (W rs d ms), from_missing rs d ms);
}
