-- A part of a slice written by std's calls, in the words of `put`.
use Prim.Native.Nat.{ℕ, ◌+◌, ◌≤◌}
use mathlib.Core.List.{List, ◌++◌}
use mathlib.Core.Path.{◌≡◌, refl, sym, ap, ◌∙◌}
use borrow.Rule.Slice.PartMut.{put_mid}
use lib.ListN.{length, take, drop}
use lib.Seq.{paste, take-length, length-take-le}
use Rattle.std.proofs.lemmas.Slice.{put_mid-paste}
use Rattle.words.specs.Numbers.{put}

-- the n elements from the front of v, as `paste` has them
pub put_paste : (s : List ℕ) (at : ℕ) (v : List ℕ) (n : ℕ) → n ≤ length v → paste s at v n ≡ put s at (take n v)
unfolding put
put_paste s at v n h = ap (λ (k : ℕ). take at s ++ take n v ++ drop (at + k) s) (sym (length-take-le n v h))

-- the k elements from index a on, which hold v now
pub put_part : (a k : ℕ) (s w v : List ℕ) → w ≡ v → length v ≡ k → put_mid a k s w ≡ put s a v
unfolding put
put_part a k s w v e h =
    put_mid-paste a k s w v (length v) e h refl
    ∙ ap (λ (l : List ℕ). take a s ++ l ++ drop (a + length v) s) (take-length v)
