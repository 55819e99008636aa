-- A body's records by index, and its number of used slots.
use Prim.Native.Nat.{ℕ, zero, suc, ◌+◌, ◌*◌, ◌≤◌, ◌<◌}
use mathlib.Core.Bool.{Bool, true, false}
use mathlib.Core.List.{List, [], ◌∷◌, ◌++◌}
use mathlib.Core.Path.{◌≡◌, refl, sym, ap, ◌∙◌}
use native.Mathlib.Omega.{arith}
use native.Mathlib.Nat.{not-suc-le-zero}
use lib.ListN.{length, get_or}
use lib.Dec.{eqb}
use borrow.Author.Tests.{eqb-true, eqb-false}
use Rattle.record.specs.Slot.{slot_size, record_at}
use Rattle.record.specs.declared.Record.{Record}
use Rattle.slots.specs.Slots.{used_at, slots_at, records_at}
use Rattle.slots.proofs.Laws.{used_le, used_end, used_more}

-- THE LIST OF RECORDS, BY INDEX

pub length_slots : (t : List ℕ) (at n : ℕ) → length (slots_at t at n) ≡ n
unfolding slots_at
length_slots t at zero = refl
length_slots t at (suc n) = ap suc (length_slots t (at + slot_size) n)

pub get_slot : (t : List ℕ) (at n i : ℕ) (d : Record) → i < n → get_or (slots_at t at n) i d ≡ record_at t (at + slot_size * i)
unfolding slots_at
get_slot t at zero i d h = absurd (not-suc-le-zero h)
get_slot t at (suc n) zero d h = let q : at ≡ at + slot_size * 0 = omega arith in ap (record_at t) q
get_slot t at (suc n) (suc i) d h =
    let q : at + slot_size + slot_size * i ≡ at + slot_size * suc i = omega arith in
    get_slot t (at + slot_size) n i d (omega arith) ∙ ap (record_at t) q

pub length_records : (t : List ℕ) (at n : ℕ) → length (records_at t at n) ≡ used_at t at n
length_records t at n = length_slots t at (used_at t at n)

pub get_record : (t : List ℕ) (at n i : ℕ) (d : Record) → i < used_at t at n → get_or (records_at t at n) i d ≡ record_at t (at + slot_size * i)
get_record t at n = get_slot t at (used_at t at n)

pub slots_snoc : (t : List ℕ) (at n : ℕ) → slots_at t at (suc n) ≡ slots_at t at n ++ record_at t (at + slot_size * n) ∷ []
unfolding slots_at
slots_snoc t at zero = let q : at ≡ at + slot_size * 0 = omega arith in ap (λ (p : ℕ). record_at t p ∷ []) q
slots_snoc t at (suc n) =
    let q : at + slot_size + slot_size * n ≡ at + slot_size * suc n = omega arith in
    ap (λ (rs : List Record). record_at t at ∷ rs) (slots_snoc t (at + slot_size) n ∙ ap (λ (p : ℕ). slots_at t (at + slot_size) n ++ record_at t p ∷ []) q)

-- THE NUMBER OF USED SLOTS

-- it is u where the slots below u are used and slot u is empty
pub used_is : (t : List ℕ) (at n u : ℕ) → u ≤ n → ((j : ℕ) → j < u → get_or t (at + slot_size * j) 0 ≡ 0 → ⊥) → (u < n → get_or t (at + slot_size * u) 0 ≡ 0) → used_at t at n ≡ u
used_is t at zero u l h e = omega (arith, used_le t at 0)
used_is t at (suc n) zero l h e = let q : at ≡ at + slot_size * 0 = omega arith in used_end t at (suc n) (ap (λ (p : ℕ). get_or t p 0) q ∙ e (omega arith))
used_is t at (suc n) (suc u) l h e =
    let q : at + slot_size * 0 ≡ at = omega arith in
    let z : (j : ℕ) → at + slot_size * suc j ≡ at + slot_size + slot_size * j = λ j. omega arith in
    used_more t at (suc n) n refl (λ (w : get_or t at 0 ≡ 0). h 0 (omega arith) (ap (λ (p : ℕ). get_or t p 0) q ∙ w))
    ∙ ap suc
    (used_is t (at + slot_size) n u (omega arith) (λ j b w. h (suc j) (omega arith) (ap (λ (p : ℕ). get_or t p 0) (z j) ∙ w))
    (λ b. ap (λ (p : ℕ). get_or t p 0) (sym (z u)) ∙ e (omega arith)))

-- a slot below it is used, and the first one past it is empty
pub used_kind : (t : List ℕ) (at n j : ℕ) → j < used_at t at n → get_or t (at + slot_size * j) 0 ≡ 0 → ⊥
used_kind t at n zero h z = let q : at ≡ at + slot_size * 0 = omega arith in omega (arith, used_end t at n (ap (λ (p : ℕ). get_or t p 0) q ∙ z))
used_kind t at zero (suc j) h z = omega (arith, used_le t at 0)
used_kind t at (suc n) (suc j) h z =
    let q : at + slot_size + slot_size * j ≡ at + slot_size * suc j = omega arith in
    let m = used_more t at (suc n) n refl (λ (w : get_or t at 0 ≡ 0). omega (arith, used_end t at (suc n) w)) in
    used_kind t (at + slot_size) n j (omega arith) (ap (λ (p : ℕ). get_or t p 0) q ∙ z)

pub used_empty : (t : List ℕ) (at n u : ℕ) → used_at t at n ≡ u → u < n → get_or t (at + slot_size * u) 0 ≡ 0
used_empty t at zero u e h = absurd (not-suc-le-zero h)
used_empty t at (suc n) u e h = go (eqb (get_or t at 0) 0) refl (used_empty t (at + slot_size) n (used_at t (at + slot_size) n) refl) where
  go : (b : Bool) → eqb (get_or t at 0) 0 ≡ b
      → (used_at t (at + slot_size) n < n → get_or t (at + slot_size + slot_size * used_at t (at + slot_size) n) 0 ≡ 0) → get_or t (at + slot_size * u) 0 ≡ 0
  go true f next =
      let z = eqb-true (get_or t at 0) 0 f in
      let q : at + slot_size * u ≡ at = omega (arith, used_end t at (suc n) z) in
      ap (λ (p : ℕ). get_or t p 0) q ∙ z
  go false f next =
      let m = used_more t at (suc n) n refl (eqb-false (get_or t at 0) 0 f) in
      let q : at + slot_size * u ≡ at + slot_size + slot_size * used_at t (at + slot_size) n = omega arith in
      ap (λ (p : ℕ). get_or t p 0) q ∙ next (omega arith)
