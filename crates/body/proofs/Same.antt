-- The same bytes hold the same body. With `agree-before` and `Agree-after` of record: a put elsewhere leaves a body's records and its validity.
use Prim.Native.Nat.{ℕ, zero, suc, ◌+◌, ◌-◌, ◌*◌, ◌≤◌}
use mathlib.Core.Bool.{Bool, true, false, ◌&&◌, cond}
use mathlib.Core.List.{List, ◌∷◌}
use mathlib.Core.Path.{◌≡◌, refl, sym, ap, ◌∙◌}
use native.Mathlib.Omega.{arith}
use lib.ListN.{get_or}
use lib.Dec.{eqb}
use Rattle.words.proofs.Laws.{Agree, on, at_it}
use Rattle.record.specs.Slot.{slot_size}
use Rattle.record.proofs.Back.{same_record, same_rest}
use Rattle.ranges.specs.Ranges.{zeros}
use Rattle.valid.specs.Valid.{record_ok}
use Rattle.slots.specs.Slots.{used_at, slots_at, records_at, distinct}
use Rattle.body.specs.Body.{slot_ok, slots_ok, body_ok}
use Rattle.slots.proofs.Laws.{used_le}
use Rattle.ranges.proofs.Laws.{zeros_get, get_zeros}

pub turned : {s t : List ℕ} {p q m : ℕ} → Agree s p t q m → Agree t q s p m
turned h = record { same = λ i b. sym (h.same i b) }

pub fewer : {s t : List ℕ} {p q m : ℕ} → Agree s p t q m → (n : ℕ) → n ≤ m → Agree s p t q n
fewer h n l = record { same = λ i b. h.same i (omega arith) }

pub slot_ok_agree : {s t : List ℕ} {p q : ℕ} → Agree s p t q slot_size → slot_ok s p ≡ slot_ok t q
unfolding slot_ok
slot_ok_agree h i = same_rest h i && record_ok (same_record h i)

pub used_agree : {s t : List ℕ} {p q : ℕ} (n : ℕ) → Agree s p t q (slot_size * n) → used_at s p n ≡ used_at t q n
unfolding used_at
used_agree zero h = refl
used_agree {p = p} {q = q} (suc n) h =
    let a = at_it h (omega arith) in
    let b = used_agree {p = p + slot_size} {q = q + slot_size} n (on h slot_size (slot_size * n) (omega arith)) in
    λ i. cond (eqb (a i) 0) 0 (suc (b i))

pub slots_agree : {s t : List ℕ} {p q : ℕ} (n : ℕ) → Agree s p t q (slot_size * n) → slots_at s p n ≡ slots_at t q n
unfolding slots_at
slots_agree zero h = refl
slots_agree {p = p} {q = q} (suc n) h =
    let a = same_record (fewer h slot_size (omega arith)) in
    let b = slots_agree {p = p + slot_size} {q = q + slot_size} n (on h slot_size (slot_size * n) (omega arith)) in
    λ i. a i ∷ b i

slots_ok_agree : {s t : List ℕ} {p q : ℕ} (n : ℕ) → Agree s p t q (slot_size * n) → slots_ok s p n ≡ slots_ok t q n
unfolding slots_ok
slots_ok_agree zero h = refl
slots_ok_agree {p = p} {q = q} (suc n) h =
    let a = slot_ok_agree (fewer h slot_size (omega arith)) in
    let b = slots_ok_agree {p = p + slot_size} {q = q + slot_size} n (on h slot_size (slot_size * n) (omega arith)) in
    λ i. a i && b i

zeros_on : {s t : List ℕ} {p q m : ℕ} → Agree s p t q m → (a e : ℕ) → e ≤ m → zeros s (p + a) (p + e) ≡ true → zeros t (q + a) (q + e) ≡ true
zeros_on {s} {t} {p} {q} h a e l z =
    get_zeros t (q + a) (q + e)
    (λ i b u.
    let j : q + (i - q) ≡ i = omega arith in
    ap (λ (x : ℕ). get_or t x 0) (sym j) ∙ sym (h.same (i - q) (omega arith)) ∙ zeros_get s (p + a) (p + e) z (p + (i - q)) (omega arith) (omega arith))

both_ways : (a b : Bool) → (a ≡ true → b ≡ true) → (b ≡ true → a ≡ true) → a ≡ b
both_ways true b f g = sym (f refl)
both_ways false true f g = g refl
both_ways false false f g = refl

module _ {s t : List ℕ} {p q : ℕ} (n : ℕ) (h : Agree s p t q (slot_size * n)) where
  pub records_agree : records_at s p n ≡ records_at t q n
  records_agree = ap (slots_at s p) (used_agree n h) ∙ slots_agree (used_at t q n) (fewer h _ (omega (arith, used_le t q n)))

  pub body_agree : body_ok s p n ≡ body_ok t q n
  unfolding body_ok
  body_agree =
      let u = used_at t q n in
      let l = used_le t q n in
      let a : slots_ok s p (used_at s p n) ≡ slots_ok t q u = ap (slots_ok s p) (used_agree n h) ∙ slots_ok_agree u (fewer h (slot_size * u) (omega arith)) in
      let b : zeros s (p + slot_size * used_at s p n) (p + slot_size * n) ≡ zeros t (q + slot_size * u) (q + slot_size * n) =
      ap (λ (m : ℕ). zeros s (p + slot_size * m) (p + slot_size * n)) (used_agree n h)
      ∙ both_ways _ _ (zeros_on h (slot_size * u) (slot_size * n) (omega arith)) (zeros_on (turned h) (slot_size * u) (slot_size * n) (omega arith)) in
      λ i. a i && (b i && distinct (records_agree i))
