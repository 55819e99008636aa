-- A body's slots by index, and the parts of a valid body.
use Prim.Native.Nat.{ℕ, zero, suc, ◌+◌, ◌*◌, ◌<◌}
use mathlib.Core.Bool.{true, ◌&&◌}
use mathlib.Core.List.{List, []}
use mathlib.Core.Path.{◌≡◌, refl, sym, ap, ◌∙◌}
use native.Mathlib.Omega.{arith}
use native.Mathlib.Nat.{not-suc-le-zero}
use Rattle.scan.proofs.Laws.{both}
use Rattle.record.specs.Slot.{slot_size, record_at, rest_zero}
use Rattle.ranges.specs.Ranges.{zeros}
use Rattle.ranges.proofs.Laws.{zeros_get}
use Rattle.valid.proofs.Valid.{Valid}
use Rattle.slots.specs.Slots.{used_at, slots_at, records_at, distinct}
use Rattle.slots.proofs.Index.{used_is}
use Rattle.body.specs.Body.{slot_ok, slots_ok, body_ok}
use Rattle.body.proofs.Laws.{body_tests}

pub slots_each : (t : List ℕ) (at n : ℕ) → slots_ok t at n ≡ true → (j : ℕ) → j < n → slot_ok t (at + slot_size * j) ≡ true
unfolding slots_ok
slots_each t at zero e j h = absurd (not-suc-le-zero h)
slots_each t at (suc n) e zero h = let q : at + slot_size * 0 ≡ at = omega arith in ap (slot_ok t) q ∙ (both (slot_ok t at) _ e).0
slots_each t at (suc n) e (suc j) h =
    let q : at + slot_size * suc j ≡ at + slot_size + slot_size * j = omega arith in
    ap (slot_ok t) q ∙ slots_each t (at + slot_size) n (both (slot_ok t at) _ e).1 j (omega arith)

pub each_slots : (t : List ℕ) (at n : ℕ) → ((j : ℕ) → j < n → slot_ok t (at + slot_size * j) ≡ true) → slots_ok t at n ≡ true
unfolding slots_ok
each_slots t at zero h = refl
each_slots t at (suc n) h =
    let q : at ≡ at + slot_size * 0 = omega arith in
    let a : slot_ok t at ≡ true = ap (slot_ok t) q ∙ h 0 (omega arith) in
    let b : slots_ok t (at + slot_size) n ≡ true =
    each_slots t (at + slot_size) n
    (λ j l. let p : at + slot_size + slot_size * j ≡ at + slot_size * suc j = omega arith in ap (slot_ok t) p ∙ h (suc j) (omega arith)) in
    λ i. a i && b i

-- A VALID BODY'S THREE PARTS

pub record Parts (t : List ℕ) (at n : ℕ) : Type 0 where
  pub slots : slots_ok t at (used_at t at n) ≡ true
  pub empty : zeros t (at + slot_size * used_at t at n) (at + slot_size * n) ≡ true
  pub keys : distinct (records_at t at n) ≡ true

pub parts : (t : List ℕ) (at n : ℕ) → body_ok t at n ≡ true → Parts t at n
unfolding body_ok
parts t at n e =
    let a = both (slots_ok t at (used_at t at n)) _ e in
    let b = both (zeros t (at + slot_size * used_at t at n) (at + slot_size * n)) _ a.1 in
    record { slots = a.0; empty = b.0; keys = b.1 }

pub together : (t : List ℕ) (at n u : ℕ) → used_at t at n ≡ u → slots_ok t at u ≡ true → zeros t (at + slot_size * u) (at + slot_size * n) ≡ true → distinct (slots_at t at u) ≡ true
    → body_ok t at n ≡ true
together t at n u e a b c = body_tests t at n u (sym e) ∙ (λ i. a i && (b i && c i))

-- every record of a valid body is valid
pub valid_at : (t : List ℕ) (at n i : ℕ) → body_ok t at n ≡ true → i < used_at t at n → Valid (record_at t (at + slot_size * i))
unfolding slot_ok record_at
valid_at t at n i e h =
    let s = slots_each t at (used_at t at n) (parts t at n e).slots i h in
    record { ok = (both (rest_zero t (at + slot_size * i)) _ s).1; states = refl; amounts = refl }

-- A BODY WHOSE BYTES ARE ALL ZERO

module _ (t : List ℕ) (at n : ℕ) (z : zeros t at (at + slot_size * n) ≡ true) where
  pub empty_used : used_at t at n ≡ 0
  empty_used = used_is t at n 0 (omega arith) (λ j b. absurd (not-suc-le-zero b)) (λ b. zeros_get t at (at + slot_size * n) z (at + slot_size * 0) (omega arith) (omega arith))

  pub empty_records : records_at t at n ≡ []
  unfolding slots_at
  empty_records = ap (slots_at t at) empty_used

  pub empty_ok : body_ok t at n ≡ true
  unfolding slots_ok slots_at distinct
  empty_ok = let q : at + slot_size * 0 ≡ at = omega arith in together t at n 0 empty_used refl (ap (λ (a : ℕ). zeros t a (at + slot_size * n)) q ∙ z) refl
