-- Laws of tests one after the other, and of a record's lines, one at a time.
use Rattle.std.specs.Prelude.{Some, None}
use Prim.Native.Nat.{ℕ, suc, ◌+◌, ◌-◌, ◌≤◌, ◌<◌}
use mathlib.Core.Bool.{Bool, true, false, ◌&&◌, cond, and-false}
use mathlib.Core.List.{List, [], ◌∷◌}
use mathlib.Core.Path.{◌≡◌, refl, sym, ap, ◌∙◌}
use native.Mathlib.Omega.{arith}
use native.Mathlib.Numerals.{add-one}
use lib.ListN.{length, get_or, drop}
use lib.Seq.{drop-cons}
use lib.Dec.{eqb}
use borrow.Author.Tests.{eq-eqb, ne_eqb, eqb-true, eqb-false}
use Rattle.valid.specs.Valid.{all_from, sum, executed_in}
use Rattle.valid.specs.Inner.{judged_by}

-- TESTS OF ONE AFTER THE OTHER

pub and_stop : (a b : Bool) {x : Bool} → x ≡ (a && b) → a ≡ false → x ≡ false
and_stop a b e f = e ∙ ap (λ (y : Bool). y && b) f

pub and_go : (a b : Bool) {x : Bool} → x ≡ (a && b) → a ≡ true → x ≡ b
and_go a b e f = e ∙ ap (λ (y : Bool). y && b) f

pub and_fails : (a : Bool) {b : Bool} → b ≡ false → (a && b) ≡ false
and_fails a e = ap (λ (x : Bool). a && x) e ∙ and-false a

-- A VALID RECORD

pub all_more : (f : ℕ → Bool) (k n m : ℕ) → n ≡ suc m → all_from f k n ≡ (f k && all_from f (k + 1) m)
unfolding all_from
all_more f k n m q = rw q

pub all_done : (f : ℕ → Bool) (k n : ℕ) → n ≡ 0 → all_from f k n ≡ true
unfolding all_from
all_done f k n q = rw q

pub same_test : (a b c d : ℕ) → (a ≡ b → c ≡ d) → (c ≡ d → a ≡ b) → eqb a b ≡ eqb c d
same_test a b c d f g = split (eqb a b) refl where
  split : (x : Bool) → eqb a b ≡ x → eqb a b ≡ eqb c d
  split true e = e ∙ sym (eq-eqb c d (f (eqb-true a b e)))
  split false e = e ∙ sym (ne_eqb c d (λ q. eqb-false a b e (g q)))

-- a sum, compared with what is left of the total
module _ (a : List ℕ) (i rest : ℕ) where
  pub sum_more : i < length a → sum (drop i a) ≡ get_or a i 0 + sum (drop (i + 1) a)
  unfolding sum
  sum_more h = rw (add-one, drop-cons a i 0)

  pub sum_over : i < length a → rest < get_or a i 0 → eqb (sum (drop i a)) rest ≡ false
  sum_over h p = ne_eqb (sum (drop i a)) rest (λ q. omega (arith, sum_more h))

  pub sum_go : i < length a → get_or a i 0 ≤ rest → eqb (sum (drop i a)) rest ≡ eqb (sum (drop (i + 1) a)) (rest - get_or a i 0)
  sum_go h p = same_test (sum (drop i a)) rest (sum (drop (i + 1) a)) (rest - get_or a i 0) (λ q. omega (arith, sum_more h)) (λ q. omega (arith, sum_more h))

-- WHAT IS EXECUTED

pub executed_more : (s a : List ℕ) (k : ℕ) → k < length s → k < length a
    → executed_in (drop k s) (drop k a) ≡ cond (eqb (get_or s k 0) 2) (get_or a k 0) 0 + executed_in (drop (k + 1) s) (drop (k + 1) a)
unfolding executed_in
executed_more s a k h j = rw (add-one, drop-cons s k 0 h, drop-cons a k 0 j)

-- it is at most the sum
pub executed_sum : (s a : List ℕ) → executed_in s a ≤ sum a
unfolding executed_in sum
executed_sum [] a = omega arith
executed_sum (x ∷ s) [] = omega arith
executed_sum (x ∷ s) (y ∷ a) = go (eqb x 2) (executed_sum s a) where
  go : (b : Bool) → executed_in s a ≤ sum a → cond b y 0 + executed_in s a ≤ y + sum a
  go true h = omega arith
  go false h = omega arith

-- WHAT IS TOLD

pub told_right : (b : Bool) (x c : ℕ) → judged_by b x ≡ Some c → (b ≡ true) × (x ≡ c)
told_right true x c e = (refl, cc)
told_right false x c e = let z : ◌≡◌ {A = ℕ} 0 1 = cc in absurd (omega arith)

pub told_broken : (b : Bool) (x : ℕ) → judged_by b x ≡ None → b ≡ false
told_broken true x e = let z : ◌≡◌ {A = ℕ} 0 1 = cc in absurd (omega arith)
told_broken false x e = refl
