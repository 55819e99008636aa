-- Laws of numbers in bytes and of `put`, which the crates above cite instead of the definitions' text.
use Prim.Native.Nat.{ℕ, ◌+◌, ◌-◌, ◌*◌, ◌/◌, ◌%◌, ◌≤◌, ◌<◌}
use mathlib.Core.Path.{◌≡◌, refl, sym, ap, ◌∙◌}
use mathlib.Core.List.{List, [], ◌++◌, append_assoc, append-nil}
use native.Mathlib.Omega.{arith}
use native.Mathlib.Numerals.{add-one}
use native.Mathlib.Nat.{add-zero, zero-add, add_assoc, mod-eq_of_lt}
use lib.ListN.{length, take, drop, get_or, set, length-append, length-drop, take-append-drop, get_or-append}
use lib.Seq.{paste, paste-suc, take-length, length-take-le, take_at, drop_at, drop-drop, get_or-take, get_or-drop, get_or-append-add}
use Rattle.words.specs.Numbers.{put, be2, be4, be8, bytes2, bytes4, bytes8}

-- one turn of the loop that copies
pub turn : (s₀ s : List ℕ) (at : ℕ) (v : List ℕ) (i : ℕ) → at + length v ≤ length s₀ → i < length v → s ≡ paste s₀ at v i
    → set s (at + i) (get_or v i 0) ≡ paste s₀ at v (i + 1)
turn s₀ s at v i fits below e =
    ap (λ (l : List ℕ). set l (at + i) (get_or v i 0)) e
    ∙ paste-suc s₀ at v i 0 (omega arith) below
    ∙ ap (paste s₀ at v) (sym (add-one i))

-- the whole copy
pub whole : (s₀ s : List ℕ) (at : ℕ) (v : List ℕ) (i : ℕ) → i ≤ length v → length v ≤ i → s ≡ paste s₀ at v i → s ≡ put s₀ at v
unfolding put
whole s₀ s at v i le ge e =
    let q : i ≡ length v = omega arith in
    e ∙ ap (paste s₀ at v) q ∙ ap (λ (l : List ℕ). take at s₀ ++ l ++ drop (at + length v) s₀) (take-length v)

pub length_put : (s : List ℕ) (at : ℕ) (v : List ℕ) → at + length v ≤ length s → length (put s at v) ≡ length s
unfolding put
length_put s at v h = simp (length-append, length-drop) (omega (arith, length-take-le at s (omega arith)))

pub put_nil : (s : List ℕ) (at : ℕ) → put s at [] ≡ s
unfolding put
put_nil s at = rw (append-nil, add-zero) (take-append-drop at s)

-- what stands before the place, with what was put there
take_put : (s : List ℕ) (at : ℕ) (v : List ℕ) (n : ℕ) → at ≤ length s → at + length v ≡ n → take n (put s at v) ≡ take at s ++ v
unfolding put
take_put s at v n h e =
    take_at (take at s ++ v) (drop (at + length v) s) n (length-append (take at s) v ∙ ap (λ (k : ℕ). k + length v) (length-take-le at s h) ∙ e)

drop_put : (s : List ℕ) (at : ℕ) (v : List ℕ) (n : ℕ) → at ≤ length s → at + length v ≡ n → drop n (put s at v) ≡ drop n s
unfolding put
drop_put s at v n h e =
    drop_at (take at s ++ v) (drop (at + length v) s) n (length-append (take at s) v ∙ ap (λ (k : ℕ). k + length v) (length-take-le at s h) ∙ e)
    ∙ ap (λ (k : ℕ). drop k s) e

-- two neighbours put one after the other
pub put_put : (s : List ℕ) (at : ℕ) (v w : List ℕ) (n : ℕ) → at ≤ length s → at + length v ≡ n → put (put s at v) n w ≡ put s at (v ++ w)
unfolding put
put_put s at v w n h e =
    let d : drop (n + length w) (put s at v) ≡ drop (n + length w) s =
    sym (drop-drop (length w) n (put s at v)) ∙ ap (drop (length w)) (drop_put s at v n h e) ∙ drop-drop (length w) n s in
    let l : n + length w ≡ at + length (v ++ w) = simp length-append (omega arith) in
    ap (λ (r : List ℕ). r ++ w ++ drop (n + length w) (put s at v)) (take_put s at v n h e)
    ∙ ap (λ (r : List ℕ). take at s ++ v ++ w ++ r) (d ∙ ap (λ (k : ℕ). drop k s) l)
    ∙ ap (λ (r : List ℕ). r ++ drop (at + length (v ++ w)) s) (append_assoc (take at s) v w)

-- ---- what stands in a list after a put

-- before the place
pub get_before : (s : List ℕ) (at : ℕ) (v : List ℕ) (i : ℕ) → i < at → at ≤ length s → get_or (put s at v) i 0 ≡ get_or s i 0
unfolding put
get_before s at v i h k =
    let l : length (take at s) ≡ at = length-take-le at s k in
    get_or-append (take at s ++ v) (drop (at + length v) s) 0 i (simp length-append (omega arith))
    ∙ get_or-append (take at s) v 0 i (omega arith)
    ∙ get_or-take at s i 0 h

-- in it
pub get_in : (s : List ℕ) (at : ℕ) (v : List ℕ) (i : ℕ) → i < length v → at ≤ length s → get_or (put s at v) (at + i) 0 ≡ get_or v i 0
unfolding put
get_in s at v i h k =
    let l : length (take at s) ≡ at = length-take-le at s k in
    get_or-append (take at s ++ v) (drop (at + length v) s) 0 (at + i) (simp length-append (omega arith))
    ∙ ap (λ (n : ℕ). get_or (take at s ++ v) (n + i) 0) (sym l)
    ∙ get_or-append-add (take at s) v i 0

-- past it
pub get_after : (s : List ℕ) (at : ℕ) (v : List ℕ) (i : ℕ) → at + length v ≤ i → at ≤ length s → get_or (put s at v) i 0 ≡ get_or s i 0
unfolding put
get_after s at v i h k =
    let l : length (take at s ++ v) ≡ at + length v = length-append (take at s) v ∙ ap (λ (n : ℕ). n + length v) (length-take-le at s k) in
    let e : i ≡ length (take at s ++ v) + (i - (at + length v)) = omega arith in
    ap (λ (n : ℕ). get_or (take at s ++ v ++ drop (at + length v) s) n 0) e
    ∙ get_or-append-add (take at s ++ v) (drop (at + length v) s) (i - (at + length v)) 0
    ∙ get_or-drop (at + length v) s (i - (at + length v)) 0
    ∙ ap (λ (n : ℕ). get_or s n 0) (omega arith)

-- ---- a number goes by its bytes: two places that hold the same bytes hold the same number

-- s from p on and t from q on agree in n elements
pub record Agree (s : List ℕ) (p : ℕ) (t : List ℕ) (q n : ℕ) : Type 0 where
  pub same : (i : ℕ) → i < n → get_or s (p + i) 0 ≡ get_or t (q + i) 0

module _ {s t : List ℕ} {p q m : ℕ} (h : Agree s p t q m) where
  -- k further on
  pub on : (k n : ℕ) → k + n ≤ m → Agree s (p + k) t (q + k) n
  on k n f = record {
    same = λ i b. ap (λ (x : ℕ). get_or s x 0) (add_assoc p k i) ∙ h.same (k + i) (omega arith) ∙ ap (λ (x : ℕ). get_or t x 0) (sym (add_assoc q k i));
  }

  pub at_it : 0 < m → get_or s p 0 ≡ get_or t q 0
  at_it b = ap (λ (x : ℕ). get_or s x 0) (sym (add-zero p)) ∙ h.same 0 b ∙ ap (λ (x : ℕ). get_or t x 0) (add-zero q)

  pub same2 : 2 ≤ m → be2 s p ≡ be2 t q
  unfolding be2
  same2 b = cc (at_it (omega arith), h.same 1 (omega arith))

module _ {s t : List ℕ} {p q m : ℕ} (h : Agree s p t q m) where
  pub same4 : 4 ≤ m → be4 s p ≡ be4 t q
  unfolding be4
  same4 b = cc (same2 h (omega arith), same2 (on h 2 2 (omega arith)) (omega arith))

module _ {s t : List ℕ} {p q m : ℕ} (h : Agree s p t q m) where
  pub same8 : 8 ≤ m → be8 s p ≡ be8 t q
  unfolding be8
  same8 b = cc (same4 h (omega arith), same4 (on h 4 4 (omega arith)) (omega arith))

-- ---- a number's bytes hold the number

pub be2_bytes : (v : ℕ) → be2 (bytes2 v) 0 ≡ v % 65536
unfolding be2
be2_bytes v = omega arith

halves4 : (v : ℕ) → be4 (bytes4 v) 0 ≡ be2 (bytes2 (v / 65536)) 0 * 65536 + be2 (bytes2 v) 0
unfolding be4 be2
halves4 v = refl

pub be4_bytes : (v : ℕ) → be4 (bytes4 v) 0 ≡ v % 4294967296
be4_bytes v = omega (arith, halves4 v, be2_bytes (v / 65536), be2_bytes v)

halves8 : (v : ℕ) → be8 (bytes8 v) 0 ≡ be4 (bytes4 (v / 4294967296)) 0 * 4294967296 + be4 (bytes4 v) 0
unfolding be8 be4 be2
halves8 v = refl

pub be8_bytes : (v : ℕ) → be8 (bytes8 v) 0 ≡ v % 18446744073709551616
be8_bytes v = omega (arith, halves8 v, be4_bytes (v / 4294967296), be4_bytes v)

-- ---- the round trip: what was written is read back

-- v put at a place, and v alone, agree
agree_put : (s : List ℕ) (at : ℕ) (v : List ℕ) → at ≤ length s → Agree (put s at v) at v 0 (length v)
agree_put s at v h = record { same = λ i b. get_in s at v i b h ∙ ap (λ (x : ℕ). get_or v x 0) (sym (zero-add i)) }

module _ (s : List ℕ) (at v : ℕ) (h : at ≤ length s) where
  pub round2 : v < 65536 → be2 (put s at (bytes2 v)) at ≡ v
  round2 b = same2 (agree_put s at (bytes2 v) h) (omega arith) ∙ be2_bytes v ∙ mod-eq_of_lt b

  pub round4 : v < 4294967296 → be4 (put s at (bytes4 v)) at ≡ v
  round4 b = same4 (agree_put s at (bytes4 v) h) (omega arith) ∙ be4_bytes v ∙ mod-eq_of_lt b

  pub round8 : v < 18446744073709551616 → be8 (put s at (bytes8 v)) at ≡ v
  round8 b = same8 (agree_put s at (bytes8 v) h) (omega arith) ∙ be8_bytes v ∙ mod-eq_of_lt b

-- four bytes, each at its own place value
pub be4_by : (s : List ℕ) (at : ℕ) → get_or s at 0 * 16777216 + get_or s (at + 1) 0 * 65536 + get_or s (at + 2) 0 * 256 + get_or s (at + 3) 0 ≡ be4 s at
unfolding be4 be2
be4_by s at = let q : at + 2 + 1 ≡ at + 3 = omega arith in rw q (omega arith)
