-- SALVAGE OF CLOSED YEARS: a slot whose record is of a closed year isn't kept, and its place is reported.
use Prim.Native.Nat.{ℕ, zero, suc, ◌+◌, ◌*◌, ◌≤◌, ◌<◌}
use mathlib.Core.Path.{◌≡◌, refl, sym, ap, subst}
use mathlib.Core.Bool.{Bool, true, false, not, cond}
use mathlib.Core.List.Memᴰ
use mathlib.Core.List.{List, [], ◌∷◌, ◌++◌, Memᴰ}
use native.Mathlib.Omega.{arith}
use native.Mathlib.Nat.{not-suc-le-zero}
use lib.ListN.{length, get_or}
use borrow.Author.Tests.{ne_eqb, le-ltb}
use Rattle.ranges.specs.Ranges.{zeros}
use Rattle.ranges.proofs.Laws.{zeros_get}
use Rattle.record.specs.declared.Record.{Record}
use Rattle.record.specs.Slot.{slot_size, record_at}
use Rattle.body.specs.Body.{slot_ok}
use Rattle.entries.specs.Entry.{entry_size, closed_of, slots_of, place_of}
use Rattle.table.specs.Table.{head_size, bodies, entry_of}
use Rattle.packing.specs.Packing.{flag}
use Rattle.keeping.specs.Keeping.{keeps, keeps_from, blanks, blanked_from}
use Rattle.keeping.proofs.Repaired.{keeps_length, valid_used}
use Rattle.salvage.specs.Salvage.{keeps_of, blanked_in, blanked}

-- a slot whose record is of a closed year isn't kept
flag_closed : (closed : ℕ) (t : List ℕ) (at : ℕ) (seen : List Record) → slot_ok t at ≡ true → (record_at t at).esercizio ≤ closed → 0 ≡ flag (keeps closed t at seen)
unfolding keeps
flag_closed closed t at seen e l = rw (e, le-ltb closed (record_at t at).esercizio l)

-- the flag of a slot whose record is of a closed year
not_kept : (closed : ℕ) (t : List ℕ) (at n : ℕ) (seen : List Record) (i : ℕ) → i < n → slot_ok t (at + slot_size * i) ≡ true
    → (record_at t (at + slot_size * i)).esercizio ≤ closed → get_or (keeps_from closed t at n seen) i 0 ≡ 0
unfolding keeps_from
not_kept closed t at zero seen i h v c = absurd (not-suc-le-zero h)
not_kept closed t at (suc n) seen zero h v c =
    let q : at + slot_size * 0 ≡ at = omega arith in
    sym (flag_closed closed t at seen (rw q at v) (rw q at c))
not_kept closed t at (suc n) seen (suc i) h v c =
    let q : at + slot_size * suc i ≡ at + slot_size + slot_size * i = omega arith in
    not_kept closed t (at + slot_size) n (seen ++ cond (keeps closed t at seen) (record_at t at ∷ []) []) i (omega arith) (rw q at v) (rw q at c)

-- a slot that is valid by itself isn't all zero
is_blanked : (t : List ℕ) (at f : ℕ) → f ≡ 0 → slot_ok t at ≡ true → blanks t at f ≡ true
unfolding blanks
is_blanked t at f e v = rw (ne_eqb f 1 (λ z. omega arith)) (ap not (used (zeros t at (at + slot_size)) refl))
  where
    used : (b : Bool) → zeros t at (at + slot_size) ≡ b → zeros t at (at + slot_size) ≡ false
    used true z = absurd (valid_used t at v (zeros_get t at (at + slot_size) z at (omega arith) (omega arith)))
    used false z = z

-- what is blanked among a body's slots, and among all bodies'
place_in : (t : List ℕ) (at : ℕ) (fs : List ℕ) (i : ℕ) → i < length fs → blanks t (at + slot_size * i) (get_or fs i 0) ≡ true → Memᴰ (at + slot_size * i) (blanked_from t at fs)
unfolding blanked_from
place_in t at [] i h e = absurd (not-suc-le-zero h)
place_in t at (f ∷ fs) zero h e =
    let q : at + slot_size * 0 ≡ at = omega arith in
    rw (q, rw q at e) (Memᴰ.head refl)
place_in t at (f ∷ fs) (suc i) h e =
    let q : at + slot_size * suc i ≡ at + slot_size + slot_size * i = omega arith in
    rw q (Memᴰ.append_right (cond (blanks t at f) (at ∷ []) []) (place_in t (at + slot_size) fs i (omega arith) (rw q at e)))

body_in : (t : List ℕ) (at n b x : ℕ) → b < n → Memᴰ x (blanked_from t (place_of t (at + entry_size * b)) (keeps_of t (at + entry_size * b))) → Memᴰ x (blanked_in t at n)
unfolding blanked_in
body_in t at zero b x h m = absurd (not-suc-le-zero h)
body_in t at (suc n) zero x h m =
    let q : at + entry_size * 0 ≡ at = omega arith in
    Memᴰ.append_left (blanked_in t (at + entry_size) n) (subst (λ (y : ℕ). Memᴰ x (blanked_from t (place_of t y) (keeps_of t y))) q m)
body_in t at (suc n) (suc b) x h m =
    let q : at + entry_size * suc b ≡ at + entry_size + entry_size * b = omega arith in
    Memᴰ.append_right (blanked_from t (place_of t at) (keeps_of t at))
    (body_in t (at + entry_size) n b x (omega arith) (subst (λ (y : ℕ). Memᴰ x (blanked_from t (place_of t y) (keeps_of t y))) q m))

pub blanked_place : (t : List ℕ) (b : ℕ) → b < bodies t → (i : ℕ) → i < slots_of t (entry_of b) → slot_ok t (place_of t (entry_of b) + slot_size * i) ≡ true
    → (record_at t (place_of t (entry_of b) + slot_size * i)).esercizio ≤ closed_of t (entry_of b) → Memᴰ (place_of t (entry_of b) + slot_size * i) (blanked t)
blanked_place t b l i h v c =
    let p : ℕ = place_of t (entry_of b) in
    let z = not_kept (closed_of t (entry_of b)) t p (slots_of t (entry_of b)) [] i h v c in
    body_in t head_size (bodies t) b (p + slot_size * i) l
    (place_in t p (keeps_of t (entry_of b)) i (omega (arith, keeps_length (closed_of t (entry_of b)) t p (slots_of t (entry_of b)) []))
    (is_blanked t (p + slot_size * i) (get_or (keeps_of t (entry_of b)) i 0) z v))
