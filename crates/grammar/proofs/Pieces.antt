-- What the bytes of a text are not.
use mathlib.Core.Path.{◌≡◌, refl, sym}
use mathlib.Core.List.{List, [], ◌∷◌, ◌++◌}
use mathlib.Core.Bool.{Bool, true, false, not}
use Prim.Native.Nat.{ℕ, zero, suc, ◌+◌, ◌≤◌, ◌<◌}
use native.Mathlib.Omega.{arith}
use lib.ListN.{length, get_or, drop}
use lib.Dec.{eqb}
use borrow.Author.Tests.{ne_eqb}
use Rattle.scan.specs.Bytes.{all}
use Rattle.scan.proofs.Laws.{both}
use Rattle.grammar.proofs.Parts.{no}
use Rattle.grammar.specs.Grammar.{Character, one, two, three, four, Piece, char, amp, lt, gt, quot, apos}

-- other than b
abbrev pub other : ℕ → ℕ → Bool
other b x = not (eqb x b)

pub other_is : (b x : ℕ) → (x ≡ b → ⊥) → other b x ≡ true
other_is b x f = rw (ne_eqb x b f)

pub not_other : (b x : ℕ) → other b x ≡ true → eqb x b ≡ false
not_other b x e = go (eqb x b) e
  where
    go : (k : Bool) → not k ≡ true → k ≡ false
    go true e = no (sym e)
    go false e = refl

pub all_at : (f : ℕ → Bool) (t : List ℕ) → all f t ≡ true → (i : ℕ) → i < length t → f (get_or t i 0) ≡ true
unfolding all
all_at f [] a i h = absurd (omega arith)
all_at f (b ∷ t) a zero h = (both (f b) (all f t) a).0
all_at f (b ∷ t) a (suc i) h = all_at f t (both (f b) (all f t) a).1 i (omega arith)

-- an ASCII byte b stands in no character after its first byte
module _ (b : ℕ) (low : b < 128) where
  high : (x : ℕ) → 128 ≤ x → other b x ≡ true
  high x h = other_is b x (λ e. omega arith)

  char_rest : {c : List ℕ} → Character c → all (other b) (drop 1 c) ≡ true
  unfolding all
  char_rest (one h v) = refl
  char_rest (two {y = y} h k v) = rw (high (128 + y) (omega arith))
  char_rest (three {y = y} {z = z} h k l v) = rw (high (128 + y) (omega arith), high (128 + z) (omega arith))
  char_rest (four {y = y} {z = z} {w = w} h k l m v) = rw (high (128 + y) (omega arith), high (128 + z) (omega arith), high (128 + w) (omega arith))

-- no piece has a ] after its first byte
pub piece_rest : {x : List ℕ} → Piece x → all (other 93) (drop 1 x) ≡ true
unfolding all
piece_rest (char c f g) = char_rest 93 (omega arith) c
piece_rest amp = refl
piece_rest lt = refl
piece_rest gt = refl
piece_rest quot = refl
piece_rest apos = refl

pub all_append : (f : ℕ → Bool) (x t : List ℕ) → all f x ≡ true → all f t ≡ true → all f (x ++ t) ≡ true
unfolding all
all_append f [] t a b = b
all_append f (c ∷ x) t a b = let d = both (f c) (all f x) a in rw (d.0, all_append f x t d.1 b)
