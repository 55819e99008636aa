-- A code finds the body that has it and no other.
use Rattle.std.specs.Prelude.{Option, Some}
use mathlib.Core.Path.{◌≡◌, refl, sym, ap, ◌∙◌}
use mathlib.Core.List.{List, [], ◌∷◌}
use mathlib.Core.Bool.{Bool, true, false, cond}
use Prim.Native.Nat.{ℕ, zero, suc, ◌+◌, ◌-◌, ◌*◌, ◌≤◌, ◌<◌}
use native.Mathlib.Nat.{add-zero, mul-zero, not-suc-le-zero}
use native.Mathlib.Omega.{arith}
use lib.ListN.{length, get_or}
use lib.Dec.{eqb}
use borrow.Author.Tests.{eq-eqb, eqb-true}
use Rattle.scan.specs.Bytes.{starts_with, has_at, text_is}
use Rattle.scan.proofs.Laws.{both}
use Rattle.ranges.specs.Ranges.{is_nothing}
use Rattle.entries.specs.Entry.{code_at, codes_from, find_code, distinct_codes}
use Rattle.entries.proofs.Laws.{times}

-- TEXTS: the test of two texts says whether they are one

starts_same : (x t : List ℕ) → length t ≡ length x → starts_with x t ≡ true → x ≡ t
unfolding starts_with
starts_same [] [] l e = refl
starts_same [] (b ∷ t) l e = absurd (omega arith)
starts_same (a ∷ x) [] l e = absurd (omega arith)
starts_same (a ∷ x) (b ∷ t) l e =
    let w = both (eqb b a) (starts_with x t) e in
    let p : a ≡ b = sym (eqb-true b a w.0) in
    let r : x ≡ t = starts_same x t (omega arith) w.1 in
    λ i. p i ∷ r i

starts_own : (x : List ℕ) → starts_with x x ≡ true
unfolding starts_with
starts_own [] = refl
starts_own (a ∷ x) = rw (eq-eqb a a refl) (starts_own x)

pub text_same : (x t : List ℕ) → text_is x t ≡ true → x ≡ t
unfolding text_is has_at
text_same x t e =
    let w = both (eqb (length t) (length x)) (starts_with x t) e in
    starts_same x t (eqb-true (length t) (length x) w.0) w.1

pub text_own : (x : List ℕ) → text_is x x ≡ true
unfolding text_is has_at
text_own x = rw (eq-eqb (length x) (length x) refl) (starts_own x)

-- THE SEARCH: what is found has the code, and lies among the codes
pub record Hit (xs : List (List ℕ)) (i : ℕ) (c : List ℕ) (j : ℕ) : Type 0 where
  pub from : i ≤ j
  pub below : j < i + length xs
  pub code : get_or xs (j - i) [] ≡ c

hit_first : (x : List ℕ) (xs : List (List ℕ)) (i : ℕ) (c : List ℕ) (j : ℕ) → x ≡ c → ◌≡◌ {A = Option ℕ} (Some i) (Some j) → Hit (x ∷ xs) i c j
hit_first x xs i c j e f =
    let q : i ≡ j = cc in
    let z : j - i ≡ 0 = omega arith in
    record { from = omega arith; below = omega arith; code = ap (λ (k : ℕ). get_or (x ∷ xs) k []) z ∙ e }

hit_later : (x : List ℕ) (xs : List (List ℕ)) (i : ℕ) (c : List ℕ) (j : ℕ) → Hit xs (i + 1) c j → Hit (x ∷ xs) i c j
hit_later x xs i c j h =
    let a = h.from in
    let b = h.below in
    let z : j - i ≡ suc (j - (i + 1)) = omega arith in
    record { from = omega arith; below = omega arith; code = ap (λ (k : ℕ). get_or (x ∷ xs) k []) z ∙ h.code }

pub find_is : (xs : List (List ℕ)) (i : ℕ) (c : List ℕ) (j : ℕ) → find_code xs i c ≡ Some j → Hit xs i c j
unfolding find_code
find_is [] i c j e = let z : ◌≡◌ {A = ℕ} 0 1 = cc in absurd (omega arith)
find_is (x ∷ xs) i c j e = go (text_is x c) refl (find_is xs (i + 1) c j) e
  where
    go : (b : Bool) → text_is x c ≡ b → (find_code xs (i + 1) c ≡ Some j → Hit xs (i + 1) c j) → cond b (Some i) (find_code xs (i + 1) c) ≡ Some j → Hit (x ∷ xs) i c j
    go true f more e = hit_first x xs i c j (text_same x c f) e
    go false f more e = hit_later x xs i c j (more e)

-- a code that is not found is none of them
pub absent : (xs : List (List ℕ)) (i : ℕ) (c : List ℕ) (k : ℕ) → is_nothing (find_code xs i c) ≡ true → k < length xs → text_is (get_or xs k []) c ≡ false
unfolding find_code
absent [] i c k e h = absurd (not-suc-le-zero h)
absent (x ∷ xs) i c k e h = go (text_is x c) refl (absent xs (i + 1) c) k e h
  where
    go : (b : Bool) → text_is x c ≡ b → ((m : ℕ) → is_nothing (find_code xs (i + 1) c) ≡ true → m < length xs → text_is (get_or xs m []) c ≡ false)
        → (m : ℕ) → is_nothing (cond b (Some i) (find_code xs (i + 1) c)) ≡ true → m < suc (length xs) → text_is (get_or (x ∷ xs) m []) c ≡ false
    go true f more m e h = let z : ◌≡◌ {A = ℕ} 0 1 = cc in absurd (omega arith)
    go false f more zero e h = f
    go false f more (suc m) e h = more m e (omega arith)

-- among distinct codes each finds itself
pub find_own : (xs : List (List ℕ)) (i k : ℕ) → distinct_codes xs ≡ true → k < length xs → find_code xs i (get_or xs k []) ≡ Some (i + k)
unfolding find_code distinct_codes
find_own [] i k e h = absurd (not-suc-le-zero h)
find_own (x ∷ xs) i zero e h = rw (text_own x, add-zero)
find_own (x ∷ xs) i (suc k) e h =
    let w = both (is_nothing (find_code xs 0 x)) (distinct_codes xs) e in
    let q : i + suc k ≡ i + 1 + k = omega arith in
    go (text_is x (get_or xs k [])) refl w.0 (find_own xs (i + 1) k w.1 (omega arith) ∙ ap Some (sym q))
  where
    go : (b : Bool) → text_is x (get_or xs k []) ≡ b → is_nothing (find_code xs 0 x) ≡ true → find_code xs (i + 1) (get_or xs k []) ≡ Some (i + suc k)
        → cond b (Some i) (find_code xs (i + 1) (get_or xs k [])) ≡ Some (i + suc k)
    go true f w more =
        let s = text_same x (get_or xs k []) f in
        let n : text_is (get_or xs k []) x ≡ false = absent xs 0 x k w (omega arith) in
        let y : text_is (get_or xs k []) x ≡ true = ap (λ (z : List ℕ). text_is z x) (sym s) ∙ text_own x in
        let z : ◌≡◌ {A = ℕ} 0 1 = cc in
        absurd (omega arith)
    go false f w more = more

-- THE CODES OF ENTRIES
pub codes_length : (size : ℕ) (t : List ℕ) (at n : ℕ) → length (codes_from size t at n) ≡ n
unfolding codes_from
codes_length size t at zero = refl
codes_length size t at (suc n) = ap suc (codes_length size t (at + size) n)

pub codes_get : (size : ℕ) (t : List ℕ) (at n k : ℕ) → k < n → get_or (codes_from size t at n) k [] ≡ code_at t (at + size * k)
unfolding codes_from
codes_get size t at zero k h = absurd (not-suc-le-zero h)
codes_get size t at (suc n) zero h = rw (mul-zero, add-zero)
codes_get size t at (suc n) (suc k) h =
    let q : at + size + size * k ≡ at + size * suc k = omega (arith, times size (suc k) k refl) in
    codes_get size t (at + size) n k (omega arith) ∙ ap (code_at t) q

module _ (size : ℕ) (t : List ℕ) (at n : ℕ) where
  -- what a search gives is the index of an entry with this code
  pub found_below : (c : List ℕ) (j : ℕ) → find_code (codes_from size t at n) 0 c ≡ Some j → j < n
  found_below c j e = let h = find_is (codes_from size t at n) 0 c j e in omega (arith, h.below, codes_length size t at n)

  pub found_code : (c : List ℕ) (j : ℕ) → find_code (codes_from size t at n) 0 c ≡ Some j → code_at t (at + size * j) ≡ c
  found_code c j e =
      let h = find_is (codes_from size t at n) 0 c j e in
      let z : j ≡ j - 0 = omega arith in
      sym (codes_get size t at n j (found_below c j e)) ∙ ap (λ (k : ℕ). get_or (codes_from size t at n) k []) z ∙ h.code

  -- and of no other
  pub found_own : distinct_codes (codes_from size t at n) ≡ true → (k : ℕ) → k < n → find_code (codes_from size t at n) 0 (code_at t (at + size * k)) ≡ Some k
  found_own d k h =
      let z : 0 + k ≡ k = omega arith in
      ap (find_code (codes_from size t at n) 0) (sym (codes_get size t at n k h))
      ∙ find_own (codes_from size t at n) 0 k d (omega (arith, codes_length size t at n)) ∙ ap Some z

  pub found_one : distinct_codes (codes_from size t at n) ≡ true → (j k : ℕ) → j < n → k < n → code_at t (at + size * j) ≡ code_at t (at + size * k) → j ≡ k
  found_one d j k h l e =
      let a : ◌≡◌ {A = Option ℕ} (Some j) (Some k) = sym (found_own d j h) ∙ ap (find_code (codes_from size t at n) 0) e ∙ found_own d k l in
      cc
