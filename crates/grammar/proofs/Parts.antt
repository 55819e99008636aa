-- Parts of a flow, and bytes that stand in it: what both ways of the theorem need.
use mathlib.Core.Path.{◌≡◌, refl, sym}
use mathlib.Core.List.{List, [], ◌∷◌, ◌++◌}
use mathlib.Core.Bool.{Bool, true, false}
use Prim.Native.Nat.{ℕ, zero, suc, ◌+◌, ◌-◌, ◌≤◌, ◌<◌}
use native.Mathlib.Nat.{sub_self}
use native.Mathlib.Omega.{arith}
use lib.ListN.{length, take, drop, length-drop, length-take}
use lib.Seq.{drop-cons, take-add, drop-drop}
use lib.Dec.{eqb}
use borrow.Author.Tests.{eqb-true, eq-eqb}
use Rattle.scan.specs.Bytes.{byte_at, part, starts_with, has_at}
use Rattle.scan.proofs.Laws.{both, has_past}

pub no : {A : Type 0} → ◌≡◌ {A = Bool} true false → A
no e = let z : ◌≡◌ {A = ℕ} 0 1 = cc in absurd (omega arith)

-- what is not true is false
pub not_so : (b : Bool) → (b ≡ true → ⊥) → b ≡ false
not_so true f = absurd (f refl)
not_so false f = refl

-- PARTS
module _ (s : List ℕ) where
  pub part_join : (a m e : ℕ) → a ≤ m → m ≤ e → part s a e ≡ part s a m ++ part s m e
  part_join a m e h k =
      let p : e - a ≡ (m - a) + (e - m) = omega arith in
      let q : a + (m - a) ≡ m = omega arith in
      rw (p, take-add, drop-drop, q)

  pub part_none : (a : ℕ) → part s a a ≡ []
  part_none a = rw sub_self

  -- one byte, and the rest from b on
  pub part_next : (a b e : ℕ) → b ≡ a + 1 → b ≤ e → b ≤ length s → part s a e ≡ byte_at s a ∷ part s b e
  part_next a b e z h k =
      let p : e - a ≡ suc (e - b) = omega arith in
      let q : b ≡ suc a = omega arith in
      rw (p, drop-cons s a 0 (omega arith), q)

  -- parts of one to four bytes
  module _ (p e : ℕ) (h : e ≤ length s) where
    pub part_1 : e ≡ p + 1 → part s p e ≡ byte_at s p ∷ []
    part_1 z = rw (part_next p e e z (omega arith) h, part_none)

    pub part_2 : e ≡ p + 2 → part s p e ≡ byte_at s p ∷ byte_at s (p + 1) ∷ []
    part_2 z = rw (part_next p (p + 1) e refl (omega arith) (omega arith), part_next (p + 1) e e (omega arith) (omega arith) h, part_none)

    pub part_3 : e ≡ p + 3 → part s p e ≡ byte_at s p ∷ byte_at s (p + 1) ∷ byte_at s (p + 2) ∷ []
    part_3 z = rw (part_next p (p + 1) e refl (omega arith) (omega arith), part_next (p + 1) (p + 2) e (omega arith) (omega arith) (omega arith), part_next (p + 2) e e (omega arith) (omega arith) h, part_none)

    pub part_4 : e ≡ p + 4 → part s p e ≡ byte_at s p ∷ byte_at s (p + 1) ∷ byte_at s (p + 2) ∷ byte_at s (p + 3) ∷ []
    part_4 z = rw (part_next p (p + 1) e refl (omega arith) (omega arith), part_next (p + 1) (p + 2) e (omega arith) (omega arith) (omega arith), part_next (p + 2) (p + 3) e (omega arith) (omega arith) (omega arith), part_next (p + 3) e e (omega arith) (omega arith) h, part_none)

  pub part_length : (a e : ℕ) → e ≤ length s → length (part s a e) ≡ e - a
  part_length a e h = omega (arith, length-take (e - a) (drop a s), length-drop a s)

-- BYTES THAT STAND SOMEWHERE
starts_take : (x t : List ℕ) → starts_with x t ≡ true → take (length x) t ≡ x
unfolding starts_with
starts_take [] t e = refl
starts_take (a ∷ x) [] e = no (sym e)
starts_take (a ∷ x) (b ∷ t) e =
    let c = both (eqb b a) (starts_with x t) e in
    let p = eqb-true b a c.0 in
    let q = starts_take x t c.1 in
    cc

starts_split : (a b t : List ℕ) → starts_with (a ++ b) t ≡ true → (starts_with a t ≡ true) × (starts_with b (drop (length a) t) ≡ true)
unfolding starts_with
starts_split [] b t e = (refl, e)
starts_split (x ∷ a) b [] e = no (sym e)
starts_split (x ∷ a) b (y ∷ t) e =
    let c = both (eqb y x) (starts_with (a ++ b) t) e in
    let h = starts_split a b t c.1 in
    let k = c.0 in
    let l = h.0 in
    (rw (k, l), h.1)

starts_prefix : (x : List ℕ) (n : ℕ) (t : List ℕ) → starts_with x (take n t) ≡ true → starts_with x t ≡ true
unfolding starts_with
starts_prefix [] n t e = refl
starts_prefix (a ∷ x) zero t e = no (sym e)
starts_prefix (a ∷ x) (suc n) [] e = no (sym e)
starts_prefix (a ∷ x) (suc n) (b ∷ t) e =
    let c = both (eqb b a) (starts_with x (take n t)) e in
    let h = starts_prefix x n t c.1 in
    let k = c.0 in
    rw (k, h)

pub starts_whole : (x t : List ℕ) → starts_with x (x ++ t) ≡ true
unfolding starts_with
starts_whole [] t = refl
starts_whole (a ∷ x) t = rw (eq-eqb a a refl, starts_whole x t)

module _ (s : List ℕ) where
  pub has_part : (x : List ℕ) (at : ℕ) → has_at x s at ≡ true → part s at (at + length x) ≡ x
  unfolding has_at
  has_part x at e = let p : at + length x - at ≡ length x = omega arith in rw p (starts_take x (drop at s) e)

  -- a ++ b stands at p: a stands there, and b behind it, at q
  pub has_split : (a b : List ℕ) (p q : ℕ) → q ≡ p + length a → has_at (a ++ b) s p ≡ true → (has_at a s p ≡ true) × (has_at b s q ≡ true)
  unfolding has_at
  has_split a b p q z e = let h = starts_split a b (drop p s) e in (h.0, rw (drop-drop, ← z) at h.1)

  -- the first of the bytes that stand at p
  pub has_byte : (b : ℕ) (x : List ℕ) (p : ℕ) → has_at (b ∷ x) s p ≡ true → byte_at s p ≡ b
  unfolding has_at starts_with
  has_byte b x p e =
      let g = has_past (b ∷ x) s p (length x) refl e in
      let i : p < length s = omega arith in
      let k = rw (drop-cons s p 0 i) at e in
      eqb-true (byte_at s p) b (both (eqb (byte_at s p) b) _ k).0

  -- a part that is a ++ x ++ b has x in the flow
  pub part_has : (p q : ℕ) (a x b : List ℕ) → part s p q ≡ a ++ x ++ b → has_at x s (p + length a) ≡ true
  unfolding has_at
  part_has p q a x b e =
      let h : starts_with (a ++ x) (part s p q) ≡ true = rw e (starts_whole (a ++ x) b) in
      (has_split a x p (p + length a) refl (starts_prefix (a ++ x) (q - p) (drop p s) h)).1
