-- Laws of a slot's bytes and of a key, which the proofs of this crate and of the crates above cite.
use Prim.Native.Nat.{ℕ, ◌+◌, ◌*◌, ◌≤◌, ◌<◌}
use mathlib.Core.List.{List, [], ◌∷◌, ◌++◌, append_assoc, append-nil}
use mathlib.Core.Path.{◌≡◌, refl, sym, ap, ◌∙◌}
use native.Mathlib.Omega.{arith}
use native.Mathlib.Numerals.{add-one}
use lib.ListN.{length, take, get_or}
use lib.Seq.{take-suc}
use Rattle.words.specs.Numbers.{put, bytes8}
use Rattle.words.proofs.Laws.{put_put}
use Rattle.record.specs.Slot.{flat8, slot_head}
use Rattle.record.specs.declared.Record.{Record}

-- EIGHT BYTES EACH

pub length_flat8 : (l : List ℕ) → length (flat8 l) ≡ 8 * length l
unfolding flat8
length_flat8 [] = refl
length_flat8 (x ∷ xs) = omega (arith, length_flat8 xs)

flat8_append : (x y : List ℕ) → flat8 (x ++ y) ≡ flat8 x ++ flat8 y
unfolding flat8
flat8_append [] y = refl
flat8_append (a ∷ x) y = ap (λ (r : List ℕ). bytes8 a ++ r) (flat8_append x y) ∙ sym (append_assoc (bytes8 a) (flat8 x) (flat8 y))

flat8_one : (v : ℕ) → flat8 (v ∷ []) ≡ bytes8 v
unfolding flat8
flat8_one v = append-nil (bytes8 v)

-- one number more
pub flat8_next : (a : List ℕ) (i : ℕ) → i < length a → flat8 (take (i + 1) a) ≡ flat8 (take i a) ++ bytes8 (get_or a i 0)
flat8_next a i below =
    ap (λ (k : ℕ). flat8 (take k a)) (add-one i) ∙ ap flat8 (take-suc a i 0 below) ∙ flat8_append (take i a) (get_or a i 0 ∷ [])
    ∙ ap (λ (r : List ℕ). flat8 (take i a) ++ r) (flat8_one (get_or a i 0))

pub length_head : (r : Record) → length (slot_head r) ≡ 24
length_head r = refl

-- ONE PART PUT AFTER ANOTHER

-- s₁ is s with v put at a place
pub record Puts (s : List ℕ) (at : ℕ) (v s₁ : List ℕ) : Type 0 where
  pub is : s₁ ≡ put s at v

-- and s₂ has w right after it
pub next : {s v s₁ s₂ : List ℕ} {at : ℕ} (n : ℕ) (w : List ℕ) → Puts s at v s₁ → s₂ ≡ put s₁ n w → at ≤ length s → at + length v ≡ n → Puts s at (v ++ w) s₂
next {s} {v} {s₁} {s₂} {at} n w p e h k = record { is = e ∙ ap (λ (z : List ℕ). put z n w) p.is ∙ put_put s at v w n h k }
