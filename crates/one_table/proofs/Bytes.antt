-- Numbers fix their bytes: two places that hold the same number in two, four or eight bytes hold the same bytes.
use Prim.Native.Nat.{ℕ, zero, suc, ◌+◌, ◌-◌, ◌*◌, ◌/◌, ◌%◌, ◌<◌}
use mathlib.Core.Path.{◌≡◌, refl, sym, ap, ◌∙◌}
use mathlib.Core.Bool.{Bool, true, false, ◌&&◌}
use mathlib.Core.List.{List, [], ◌∷◌, ◌++◌}
use native.Mathlib.Nat.{add-zero, mul-zero}
use native.Mathlib.Omega.{arith}
use lib.ListN.{length, get_or, drop, length-take}
use lib.Seq.{get_or-take, get_or-drop}
use lib.Dec.{leb}
use borrow.Author.Tests.{leb-true, leb-false, le-leb}
use Rattle.scan.specs.Bytes.{all, part}
use Rattle.scan.proofs.Laws.{both}
use Rattle.words.specs.Numbers.{be2, be4, be8, bytes2, bytes4, bytes8}
use Rattle.words.proofs.Laws.{Agree}
use Rattle.body.proofs.Same.{fewer}
use Rattle.entries.proofs.Laws.{times}
use Rattle.one_table.specs.One.{max_byte, is_byte, are_bytes}

pub small : (t : List ℕ) → are_bytes t ≡ true → (i : ℕ) → get_or t i 0 < 256
unfolding all
small [] e i = omega arith
small (x ∷ l) e zero = omega (arith, leb-true x max_byte (both (is_byte x) (are_bytes l) e).0)
small (x ∷ l) e (suc i) = small l (both (is_byte x) (are_bytes l) e).1 i

-- LISTS OF BYTES
pub bytes_each : (t : List ℕ) → ((i : ℕ) → i < length t → get_or t i 0 < 256) → are_bytes t ≡ true
unfolding all
bytes_each [] f = refl
bytes_each (x ∷ l) f =
    let a = le-leb x max_byte (omega (arith, f 0 (omega arith))) in
    let b = bytes_each l (λ i h. f (suc i) (omega arith)) in
    λ i. a i && b i

pub bytes_part : (t : List ℕ) → are_bytes t ≡ true → (a e : ℕ) → are_bytes (part t a e) ≡ true
bytes_part t b a e =
    bytes_each (part t a e)
    (λ i h.
    let l : i < e - a = omega (arith, length-take (e - a) (drop a t)) in
    omega (arith, get_or-take (e - a) (drop a t) i 0 l, get_or-drop a t i 0, small t b (a + i)))

pub bytes_append : (s t : List ℕ) → are_bytes s ≡ true → are_bytes t ≡ true → are_bytes (s ++ t) ≡ true
unfolding all
bytes_append [] t a b = b
bytes_append (x ∷ s) t a b =
    let w = both (is_byte x) (are_bytes s) a in
    let r = bytes_append s t w.1 b in
    λ i. w.0 i && r i

low : (v : ℕ) → is_byte (v % 256) ≡ true
low v = le-leb (v % 256) max_byte (omega arith)

pub bytes_2 : (v : ℕ) → are_bytes (bytes2 v) ≡ true
unfolding all
bytes_2 v = let a = low (v / 256) in let b = low v in λ i. a i && (b i && true)

pub bytes_4 : (v : ℕ) → are_bytes (bytes4 v) ≡ true
bytes_4 v = bytes_append (bytes2 (v / 65536)) (bytes2 v) (bytes_2 (v / 65536)) (bytes_2 v)

pub bytes_8 : (v : ℕ) → are_bytes (bytes8 v) ≡ true
bytes_8 v = bytes_append (bytes4 (v / 4294967296)) (bytes4 v) (bytes_4 (v / 4294967296)) (bytes_4 v)

-- WHAT AGREES, PIECE BY PIECE
module _ {t u : List ℕ} where
  pub nothing : (p q : ℕ) → Agree t p u q 0
  nothing p q = record { same = λ i b. absurd (omega arith) }

  pub one : (p q : ℕ) → get_or t p 0 ≡ get_or u q 0 → Agree t p u q 1
  one p q e = record { same = go }
    where
      go : (i : ℕ) → i < 1 → get_or t (p + i) 0 ≡ get_or u (q + i) 0
      go zero h = ap (λ (x : ℕ). get_or t x 0) (add-zero p) ∙ e ∙ ap (λ (x : ℕ). get_or u x 0) (sym (add-zero q))
      go (suc i) h = absurd (omega arith)

  -- one piece, and the piece that follows it
  pub adjoined : {p q m p' q' n : ℕ} → Agree t p u q m → Agree t p' u q' n → p' ≡ p + m → q' ≡ q + m → Agree t p u q (m + n)
  adjoined {p} {q} {m} {p'} {q'} {n} a b e f = record { same = λ i h. go i h (leb (suc i) m) refl }
    where
      go : (i : ℕ) → i < m + n → (x : Bool) → leb (suc i) m ≡ x → get_or t (p + i) 0 ≡ get_or u (q + i) 0
      go i h true z = a.same i (leb-true (suc i) m z)
      go i h false z =
          let l = leb-false (suc i) m z in
          let x : p + i ≡ p' + (i - m) = omega arith in
          let y : q' + (i - m) ≡ q + i = omega arith in
          ap (λ (k : ℕ). get_or t k 0) x ∙ b.same (i - m) (omega arith) ∙ ap (λ (k : ℕ). get_or u k 0) y

  -- n pieces of one size
  pub pieces : (size p q n : ℕ) → ((k : ℕ) → k < n → Agree t (p + size * k) u (q + size * k) size) → Agree t p u q (size * n)
  pieces size p q zero f = fewer (nothing p q) (size * 0) (omega (arith, mul-zero size))
  pieces size p q (suc n) f =
      fewer (adjoined (pieces size p q n (λ k h. f k (omega arith))) (f n (omega arith)) refl refl) (size * suc n) (omega (arith, times size (suc n) n refl))

-- THE NUMBERS
be2_small : (t : List ℕ) → ((i : ℕ) → get_or t i 0 < 256) → (p : ℕ) → be2 t p < 65536
unfolding be2
be2_small t b p = omega (arith, b p, b (p + 1))

be4_small : (t : List ℕ) → ((i : ℕ) → get_or t i 0 < 256) → (p : ℕ) → be4 t p < 4294967296
unfolding be4
be4_small t b p = omega (arith, be2_small t b p, be2_small t b (p + 2))

module _ {t u : List ℕ} (bt : (i : ℕ) → get_or t i 0 < 256) (bu : (i : ℕ) → get_or u i 0 < 256) (p q : ℕ) where
  pub two : be2 t p ≡ be2 u q → Agree t p u q 2
  unfolding be2
  two e =
      let a = bt p in
      let b = bt (p + 1) in
      let c = bu q in
      let d = bu (q + 1) in
      adjoined (one p q (omega arith)) (one (p + 1) (q + 1) (omega arith)) refl refl

module _ {t u : List ℕ} (bt : (i : ℕ) → get_or t i 0 < 256) (bu : (i : ℕ) → get_or u i 0 < 256) (p q : ℕ) where
  pub four : be4 t p ≡ be4 u q → Agree t p u q 4
  unfolding be4
  four e =
      let a = be2_small t bt p in
      let b = be2_small t bt (p + 2) in
      let c = be2_small u bu q in
      let d = be2_small u bu (q + 2) in
      adjoined (two bt bu p q (omega arith)) (two bt bu (p + 2) (q + 2) (omega arith)) refl refl

module _ {t u : List ℕ} (bt : (i : ℕ) → get_or t i 0 < 256) (bu : (i : ℕ) → get_or u i 0 < 256) (p q : ℕ) where
  pub eight : be8 t p ≡ be8 u q → Agree t p u q 8
  unfolding be8
  eight e =
      let a = be4_small t bt p in
      let b = be4_small t bt (p + 4) in
      let c = be4_small u bu q in
      let d = be4_small u bu (q + 4) in
      adjoined (four bt bu p q (omega arith)) (four bt bu (p + 4) (q + 4) (omega arith)) refl refl
