-- Laws of a pen.
use mathlib.Core.Path.{◌≡◌, refl, sym, ap, ◌∙◌}
use mathlib.Core.List.{List, [], ◌∷◌, ◌++◌}
use Prim.Native.Nat.{ℕ, zero, suc, ◌-◌, ◌/◌, ◌≤◌, ◌<◌}
use native.Mathlib.Omega.{arith}
use lib.ListN.{length-append}
use borrow.Author.Tests.{le-leb, lt-leb}
use Rattle.words.specs.Numbers.{put}
use Rattle.words.proofs.Laws.{put_put, put_nil}
use Rattle.grammar.specs.Grammar.{start_tag, end_tag}
use Rattle.pen.specs.Pen.{Wrote, Room, tagged}
use Rattle.pen.specs.Decimal.{digit, fixed, decimal_by}

-- nothing
pub wrote_nothing : (s : List ℕ) (at : ℕ) → Wrote s s at [] at
wrote_nothing s at = record { to = omega arith; size = refl; wrote = λ h. sym (put_nil s at) }

-- one after the other
pub wrote_then : {s t u : List ℕ} {at r q : ℕ} {b c : List ℕ} → Wrote s t at b r → Wrote t u r c q → Wrote s u at (b ++ c) q
wrote_then {s} {t} {u} {at} {r} {q} {b} {c} x y =
    let l = length-append b c in
    let i = x.to in
    let j = y.to in
    let k = x.size in
    let m = y.size in
    record {
      to = omega arith;
      size = m ∙ k;
      wrote = λ h.
          let z = x.wrote (omega arith) in
          y.wrote (omega arith) ∙ ap (λ v. put v r c) z ∙ put_put s at b c r (omega arith) (sym i);
    }

-- what is written first, and what is written then, has room where both have
pub room_first : {at : ℕ} {b : List ℕ} (c : List ℕ) → Room at (b ++ c) → Room at b
room_first {b = b} c h = record { fits = omega (arith, h.fits, length-append b c) }

pub room_then : {s t : List ℕ} {at r : ℕ} {b c : List ℕ} → Wrote s t at b r → Room at (b ++ c) → Room r c
room_then {b = b} {c = c} x h = record { fits = omega (arith, h.fits, x.to, length-append b c) }

-- an element: its start tag, what it holds, its end tag
module _ (n t : List ℕ) {at : ℕ} (h : Room at (tagged n t)) where
  pub room_open : Room at (start_tag n)
  unfolding tagged
  room_open = room_first t (room_first (end_tag n) h)

  module _ {s u : List ℕ} {q : ℕ} (x : Wrote s u at (start_tag n) q) where
    pub room_in : Room q t
    unfolding tagged
    room_in = room_then x (room_first (end_tag n) h)

    pub room_close : {v : List ℕ} {r : ℕ} → Wrote u v q t r → Room r (end_tag n)
    unfolding tagged
    room_close y = room_then (wrote_then x y) h

pub wrote_tagged : (n t : List ℕ) {s u v w : List ℕ} {at q r e : ℕ} → Wrote s u at (start_tag n) q → Wrote u v q t r → Wrote v w r (end_tag n) e → Wrote s w at (tagged n t) e
unfolding tagged
wrote_tagged n t x y z = wrote_then (wrote_then x y) z

-- the digits of a number that is written the last one last
pub fixed_step : (w n : ℕ) → (w ≡ 0 → ⊥) → fixed w n ≡ fixed (w - 1) (n / 10) ++ (digit n ∷ [])
fixed_step zero n h = absurd (h refl)
fixed_step (suc w) n h = let z : suc w - 1 ≡ w = omega arith in rw z

pub decimal_none : (n : ℕ) → decimal_by 0 n ≡ digit n ∷ []
unfolding decimal_by
decimal_none n = refl

pub decimal_small : (w n : ℕ) → n ≤ 9 → decimal_by w n ≡ digit n ∷ []
unfolding decimal_by
decimal_small zero n h = refl
decimal_small (suc w) n h = rw (le-leb n 9 h)

pub decimal_step : (w n : ℕ) → (w ≡ 0 → ⊥) → 9 < n → decimal_by w n ≡ decimal_by (w - 1) (n / 10) ++ (digit n ∷ [])
unfolding decimal_by
decimal_step zero n h k = absurd (h refl)
decimal_step (suc w) n h k = let z : suc w - 1 ≡ w = omega arith in rw (lt-leb n 9 k, z)
