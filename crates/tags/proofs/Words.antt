-- Bytes compared eight at a time: two words are equal where their bytes are.
use mathlib.Core.Path.{◌≡◌, refl, sym, ap, ◌∙◌}
use mathlib.Core.List.{List, [], ◌∷◌, ◌++◌}
use mathlib.Core.Bool.{Bool, true, false}
use Prim.Native.Nat.{ℕ, zero, suc, ◌+◌, ◌-◌, ◌≤◌, ◌<◌}
use native.Mathlib.Nat.{add-zero}
use native.Mathlib.Omega.{arith}
use lib.ListN.{length, get_or, drop, get_or-append}
use lib.Seq.{get_or-drop}
use lib.Dec.{leb, eqb}
use borrow.Author.Tests.{leb-true, leb-false, eqb-true, eqb-false}
use Rattle.scan.specs.Bytes.{starts_with, has_at}
use Rattle.scan.proofs.Laws.{both, has_more, has_all}
use Rattle.words.specs.Numbers.{be2, be4, be8}

-- BYTES THAT STAND AT A PLACE are followed by some others
starts_join : (x t : List ℕ) → starts_with x t ≡ true → (u : List ℕ) × (t ≡ x ++ u)
unfolding starts_with
starts_join [] t e = (t, refl)
starts_join (a ∷ x) [] e = let z : ◌≡◌ {A = ℕ} 0 1 = cc in absurd (omega arith)
starts_join (a ∷ x) (b ∷ t) e =
    let h = both (eqb b a) (starts_with x t) e in
    let j = starts_join x t h.1 in
    (j.0, joined (eqb-true b a h.0) j.1)
  where
    joined : {b a : ℕ} {t y : List ℕ} → b ≡ a → t ≡ y → b ∷ t ≡ a ∷ y
    joined e f = cc

pub has_join : (x s : List ℕ) (at : ℕ) → has_at x s at ≡ true → (u : List ℕ) × (drop at s ≡ x ++ u)
unfolding has_at
has_join x s at e = starts_join x (drop at s) e

-- the first n bytes of x stand at a position
abbrev pub Same : List ℕ → List ℕ → ℕ → ℕ → Type 0
Same s x at n = (j : ℕ) → j < n → get_or s (at + j) 0 ≡ get_or x j 0

has_from : (s x : List ℕ) (at n i : ℕ) → i + n ≡ length x → at + length x ≤ length s → Same s x at (length x) → has_at (drop i x) s (at + i) ≡ true
has_from s x at zero i z h f = has_all x s at i (omega arith)
has_from s x at (suc n) i z h f = has_more x s at i (omega arith) (omega arith) (f i (omega arith)) ∙ has_from s x at n (i + 1) (omega arith) h f

same_has : (s x : List ℕ) (at : ℕ) → at + length x ≤ length s → Same s x at (length x) → has_at x s at ≡ true
same_has s x at h f = rw (add-zero at) at (has_from s x at (length x) 0 (omega arith) h f)

pub has_same : (s x : List ℕ) (at : ℕ) → has_at x s at ≡ true → Same s x at (length x)
has_same s x at e j h =
    let d = has_join x s at e in
    sym (get_or-drop at s j 0) ∙ (ap (λ (l : List ℕ). get_or l j 0) d.1 ∙ get_or-append x d.0 0 j h)

not_so : (b : Bool) → (b ≡ true → ⊥) → b ≡ false
not_so true f = absurd (f refl)
not_so false f = refl

-- ONE WORD
module _ (s x : List ℕ) (a b : ℕ) (fs : (i : ℕ) → get_or s i 0 < 256) (fx : (i : ℕ) → get_or x i 0 < 256) where
  word_same : be4 s a ≡ be4 x b → (get_or s a 0 ≡ get_or x b 0) × (get_or s (a + 1) 0 ≡ get_or x (b + 1) 0) × (get_or s (a + 2) 0 ≡ get_or x (b + 2) 0) × (get_or s (a + 3) 0 ≡ get_or x (b + 3) 0)
  unfolding be4 be2
  word_same e =
      let z₁ : a + 2 + 1 ≡ a + 3 = omega arith in
      let z₂ : b + 2 + 1 ≡ b + 3 = omega arith in
      let k = rw (z₁, z₂) at e in
      let a₀ = fs a in let a₁ = fs (a + 1) in let a₂ = fs (a + 2) in let a₃ = fs (a + 3) in
      let b₀ = fx b in let b₁ = fx (b + 1) in let b₂ = fx (b + 2) in let b₃ = fx (b + 3) in
      (omega arith, omega arith, omega arith, omega arith)

word_of : (s x : List ℕ) (at i n : ℕ) → i + 4 ≤ n → Same s x at n → be4 s (at + i) ≡ be4 x i
unfolding be4 be2
word_of s x at i n h f =
    let p₁ : at + (i + 1) ≡ at + i + 1 = omega arith in
    let p₂ : at + (i + 2) ≡ at + i + 2 = omega arith in
    let p₃ : at + (i + 2 + 1) ≡ at + i + 2 + 1 = omega arith in
    rw (f i (omega arith), rw p₁ at (f (i + 1) (omega arith)), rw p₂ at (f (i + 2) (omega arith)), rw p₃ at (f (i + 2 + 1) (omega arith)))

-- the first i bytes, and a word of four behind them or overlapping them
module _ (s x : List ℕ) (at i k : ℕ) (fs : (n : ℕ) → get_or s n 0 < 256) (fx : (n : ℕ) → get_or x n 0 < 256) (h : k ≤ i) (f : Same s x at i) (e : be4 s (at + k) ≡ be4 x k) where
  in_word : (m : ℕ) → m < 4 → get_or s (at + (k + m)) 0 ≡ get_or x (k + m) 0
  in_word m l =
      let z : at + (k + m) ≡ at + k + m = omega arith in
      rw z (go m l)
    where
      go : (m : ℕ) → m < 4 → get_or s (at + k + m) 0 ≡ get_or x (k + m) 0
      go zero l = rw (add-zero, add-zero) (word_same s x (at + k) k fs fx e).0
      go (suc zero) l = (word_same s x (at + k) k fs fx e).1
      go (suc (suc zero)) l = (word_same s x (at + k) k fs fx e).2
      go (suc (suc (suc zero))) l = (word_same s x (at + k) k fs fx e).3
      go (suc (suc (suc (suc m)))) l = absurd (omega arith)

  word_more : Same s x at (k + 4)
  word_more j l = go (leb k j) refl
    where
      go : (b : Bool) → leb k j ≡ b → get_or s (at + j) 0 ≡ get_or x j 0
      go true y = let z : k + (j - k) ≡ j = omega (arith, leb-true k j y) in rw z at (in_word (j - k) (omega (arith, leb-true k j y)))
      go false y = f j (omega (arith, leb-false k j y))

-- TWO WORDS in one number of eight bytes
be4_low : (s : List ℕ) (a : ℕ) → ((n : ℕ) → get_or s n 0 < 256) → be4 s a < 4294967296
unfolding be4 be2
be4_low s a f = let a₀ = f a in let a₁ = f (a + 1) in let a₂ = f (a + 2) in let a₃ = f (a + 2 + 1) in omega arith

halves : (s x : List ℕ) (a b : ℕ) → ((n : ℕ) → get_or s n 0 < 256) → ((n : ℕ) → get_or x n 0 < 256) → be8 s a ≡ be8 x b → (be4 s a ≡ be4 x b) × (be4 s (a + 4) ≡ be4 x (b + 4))
unfolding be8
halves s x a b fs fx e =
    let p = be4_low s a fs in let q = be4_low s (a + 4) fs in let u = be4_low x b fx in let v = be4_low x (b + 4) fx in (omega arith, omega arith)

pub eight_more : (s x : List ℕ) (at i k : ℕ) → ((n : ℕ) → get_or s n 0 < 256) → ((n : ℕ) → get_or x n 0 < 256) → k ≤ i → Same s x at i → be8 s (at + k) ≡ be8 x k → Same s x at (k + 8)
eight_more s x at i k fs fx h f e =
    let w = halves s x (at + k) k fs fx e in
    let z : at + k + 4 ≡ at + (k + 4) = omega arith in
    let y : k + 4 + 4 ≡ k + 8 = omega arith in
    rw y at (word_more s x at (k + 4) (k + 4) fs fx (omega arith) (word_more s x at i k fs fx h f w.0) (rw z at w.1))

eight_of : (s x : List ℕ) (at i n : ℕ) → i + 8 ≤ n → Same s x at n → be8 s (at + i) ≡ be8 x i
unfolding be8
eight_of s x at i n h f =
    let z : at + i + 4 ≡ at + (i + 4) = omega arith in
    rw (z, word_of s x at i n (omega arith) f, word_of s x at (i + 4) n (omega arith) f)

pub no_eight : (s x : List ℕ) (at i : ℕ) → i + 8 ≤ length x → (be8 s (at + i) ≡ be8 x i → ⊥) → has_at x s at ≡ false
no_eight s x at i h f = not_so (has_at x s at) (λ e. f (eight_of s x at i (length x) h (has_same s x at e)))

-- the last eight bytes decide
pub last_eight : (s x : List ℕ) (at i k u v : ℕ) → ((n : ℕ) → get_or s n 0 < 256) → ((n : ℕ) → get_or x n 0 < 256) → k ≤ i → k + 8 ≡ length x → at + length x ≤ length s → Same s x at i → u ≡ be8 s (at + k) → v ≡ be8 x k → eqb u v ≡ has_at x s at
last_eight s x at i k u v fs fx h l w f eu ev = go (eqb u v) refl
  where
    go : (b : Bool) → eqb u v ≡ b → b ≡ has_at x s at
    go true e = sym (same_has s x at w (rw l at (eight_more s x at i k fs fx h f (sym eu ∙ eqb-true u v e ∙ ev))))
    go false e = sym (no_eight s x at k (omega arith) (λ z. eqb-false u v e (eu ∙ z ∙ sym ev)))
