-- Laws of tests over a range, an index at a time.
use mathlib.Core.Path.{◌≡◌, refl, sym, ap, ◌∙◌}
use mathlib.Core.List.{List, [], ◌∷◌}
use mathlib.Core.Bool.{Bool, true, ◌&&◌}
use Prim.Native.Nat.{ℕ, max, zero, suc, ◌+◌, ◌-◌, ◌≤◌, ◌<◌}
use native.Mathlib.Omega.{arith}
use lib.ListN.{length, get_or, drop, length-take}
use lib.Seq.{get_or-take, get_or-drop}
use lib.Dec.{eqb}
use borrow.Author.Tests.{eq-eqb, eqb-true}
use Rattle.std.specs.List.{list_all, fold}
use Rattle.scan.specs.Bytes.{part, all}
use Rattle.scan.proofs.Laws.{both}
use Rattle.ranges.specs.Ranges.{zeros}

-- std's test of a list, and the flow's
pub all_is : (p : ℕ → Bool) (l : List ℕ) → list_all p l ≡ all p l
unfolding all
all_is p [] = refl
all_is p (x ∷ l) = rw (all_is p l)

-- BYTES THAT ARE ALL ZERO, by index: past the end a list reads as 0, so no length is asked

all_get : (p : ℕ → Bool) (l : List ℕ) → p 0 ≡ true → all p l ≡ true → (i : ℕ) → p (get_or l i 0) ≡ true
unfolding all
all_get p [] z e i = z
all_get p (x ∷ l) z e zero = (both (p x) (all p l) e).0
all_get p (x ∷ l) z e (suc i) = all_get p l z (both (p x) (all p l) e).1 i

get_all : (p : ℕ → Bool) (l : List ℕ) → ((i : ℕ) → i < length l → p (get_or l i 0) ≡ true) → all p l ≡ true
unfolding all
get_all p [] h = refl
get_all p (x ∷ l) h =
    let a : p x ≡ true = h 0 (omega arith) in
    let b : all p l ≡ true = get_all p l (λ i b. h (suc i) (omega arith)) in
    λ i. a i && b i

part_get : (t : List ℕ) (a e i : ℕ) → i < e - a → get_or (part t a e) i 0 ≡ get_or t (a + i) 0
part_get t a e i h = get_or-take (e - a) (drop a t) i 0 h ∙ get_or-drop a t i 0

module _ (t : List ℕ) (a e : ℕ) where
  pub zeros_get : zeros t a e ≡ true → (i : ℕ) → a ≤ i → i < e → get_or t i 0 ≡ 0
  unfolding zeros
  zeros_get z i l u =
      let q : a + (i - a) ≡ i = omega arith in
      ap (λ (x : ℕ). get_or t x 0) (sym q) ∙ sym (part_get t a e (i - a) (omega arith))
      ∙ eqb-true _ 0 (all_get (λ b. eqb b 0) (part t a e) refl z (i - a))

  pub get_zeros : ((i : ℕ) → a ≤ i → i < e → get_or t i 0 ≡ 0) → zeros t a e ≡ true
  unfolding zeros
  get_zeros h =
      get_all (λ b. eqb b 0) (part t a e)
      (λ i b. let l : i < e - a = omega (arith, length-take (e - a) (drop a t)) in eq-eqb _ 0 (part_get t a e i l ∙ h (a + i) (omega arith) (omega arith)))

-- the greatest byte is zero where all are
pub zero_greatest : (top : ℕ) (l : List ℕ) → eqb (fold (λ m b. max m b) top l) 0 ≡ (eqb top 0 && all (λ b. eqb b 0) l)
unfolding all
zero_greatest top [] = grind arith
zero_greatest top (b ∷ l) = zero_greatest (max top b) l ∙ grind arith
