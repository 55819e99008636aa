-- WHAT A BODY HOLDS after a year's records were removed: of a valid body, its records of other years in order; it is valid again.
use Prim.Native.Nat.{ℕ, zero, suc, ◌+◌, ◌-◌, ◌*◌, ◌≤◌, ◌<◌}
use mathlib.Core.Bool.{Bool, true, false, ◌&&◌, ◌||◌, not, cond}
use mathlib.Core.List.{List, [], ◌∷◌, ◌++◌, append-nil}
use mathlib.Core.Path.{◌≡◌, refl, sym, ap, ◌∙◌}
use native.Mathlib.Omega.{arith}
use native.Mathlib.Nat.{not-suc-le-zero}
use lib.ListN.{length, get_or}
use lib.Dec.{eqb, ltb}
use borrow.Author.Tests.{eq-eqb, ne_eqb, lt-ltb, ltb-true, ltb-false, eqb-false}
use Rattle.record.specs.declared.Record.{Record}
use Rattle.record.specs.Slot.{slot_size, record_at}
use Rattle.ranges.proofs.Laws.{zeros_get}
use Rattle.slots.specs.Slots.{used_at, slots_at, records_at, distinct}
use Rattle.slots.proofs.Laws.{used_le}
use Rattle.slots.proofs.Index.{length_slots, get_slot, used_kind, length_records}
use Rattle.body.specs.Body.{slot_ok, body_ok, all_later}
use Rattle.body.proofs.Slots.{slots_each, parts}
use Rattle.packing.specs.Packing.{chosen_count, chosen, packed, flag}
use Rattle.packing.proofs.Packed.{clash, packed_records, packed_ok, chosen_distinct}
use Rattle.closing.specs.Closing.{any, keep, of_year, other_year, of_earlier, earlier_remains, staying, removed, stays, flags_by, stays_at, year_removed}

-- OF RECORDS

-- what stays and what is removed make the whole
pub removed_rest : (year : ℕ) (rs : List Record) → removed year rs + length (staying year rs) ≡ length rs
unfolding keep
removed_rest year [] = refl
removed_rest year (r ∷ rs) = go (of_year year r) (removed_rest year rs)
  where
    go : (b : Bool) → removed year rs + length (staying year rs) ≡ length rs
        → length (cond b (r ∷ keep (of_year year) rs) (keep (of_year year) rs)) + length (cond (not b) (r ∷ staying year rs) (staying year rs)) ≡ suc (length rs)
    go true e = omega arith
    go false e = omega arith

-- where no record of an earlier year remains, all that stay are later
pub staying_later : (year : ℕ) (rs : List Record) → earlier_remains year rs ≡ false → all_later year (staying year rs) ≡ true
unfolding any keep all_later
staying_later year [] e = refl
staying_later year (r ∷ rs) e = go (of_earlier year r) refl (eqb r.esercizio year) refl e (staying_later year rs)
  where
    go : (a : Bool) → ltb r.esercizio year ≡ a → (b : Bool) → eqb r.esercizio year ≡ b → (a || any (of_earlier year) rs) ≡ false
        → (any (of_earlier year) rs ≡ false → all_later year (staying year rs) ≡ true) → all_later year (cond (not b) (r ∷ staying year rs) (staying year rs)) ≡ true
    go true p b q f rest = clash (sym f)
    go false p true q f rest = rest f
    go false p false q f rest =
        let h = ltb-false r.esercizio year p in
        let n = eqb-false r.esercizio year q in
        let a : ltb year r.esercizio ≡ true = lt-ltb year r.esercizio (omega arith) in
        let b : all_later year (staying year rs) ≡ true = rest f in
        λ i. a i && b i

-- FLAGS BY A TEST

length_flags : (p : Record → Bool) (rs : List Record) → length (flags_by p rs) ≡ length rs
unfolding flags_by
length_flags p [] = refl
length_flags p (r ∷ rs) = ap suc (length_flags p rs)

flag_true : (b : Bool) → flag b ≡ 1 → b ≡ true
flag_true true e = refl
flag_true false e = absurd (omega arith)

get_flag : (p : Record → Bool) (rs : List Record) (i : ℕ) (d : Record) → i < length rs → get_or (flags_by p rs) i 0 ≡ 1 → p (get_or rs i d) ≡ true
unfolding flags_by
get_flag p [] i d h e = absurd (not-suc-le-zero h)
get_flag p (r ∷ rs) zero d h e = flag_true (p r) e
get_flag p (r ∷ rs) (suc i) d h e = get_flag p rs i d (omega arith) e

-- the flagged records are those that pass
chosen_keep : (p : Record → Bool) (rs : List Record) → chosen rs (flags_by p rs) ≡ keep p rs
unfolding chosen flags_by keep
chosen_keep p [] = refl
chosen_keep p (r ∷ rs) = go (p r) (chosen_keep p rs)
  where
    go : (b : Bool) → chosen rs (flags_by p rs) ≡ keep p rs → cond (eqb (flag b) 1) (r ∷ []) [] ++ chosen rs (flags_by p rs) ≡ cond b (r ∷ keep p rs) (keep p rs)
    go true e = ap (λ (l : List Record). r ∷ l) e
    go false e = e

kept_keep : (p : Record → Bool) (rs : List Record) → chosen_count (flags_by p rs) ≡ length (keep p rs)
unfolding chosen_count flags_by keep
kept_keep p [] = refl
kept_keep p (r ∷ rs) = go (p r) (kept_keep p rs)
  where
    go : (b : Bool) → chosen_count (flags_by p rs) ≡ length (keep p rs)
        → cond (eqb (flag b) 1) (suc (chosen_count (flags_by p rs))) (chosen_count (flags_by p rs)) ≡ length (cond b (r ∷ keep p rs) (keep p rs))
    go true e = ap suc e
    go false e = e

keep_append : (p : Record → Bool) (xs ys : List Record) → keep p (xs ++ ys) ≡ keep p xs ++ keep p ys
unfolding keep
keep_append p [] ys = refl
keep_append p (x ∷ xs) ys = go (p x) (keep_append p xs ys)
  where
    go : (b : Bool) → keep p (xs ++ ys) ≡ keep p xs ++ keep p ys → cond b (x ∷ keep p (xs ++ ys)) (keep p (xs ++ ys)) ≡ cond b (x ∷ keep p xs) (keep p xs) ++ keep p ys
    go true e = ap (λ (l : List Record). x ∷ l) e
    go false e = e

-- OF SLOTS

slots_append : (t : List ℕ) (at u m n : ℕ) → n ≡ u + m → slots_at t at n ≡ slots_at t at u ++ slots_at t (at + slot_size * u) m
unfolding slots_at
slots_append t at zero m n q =
    let p : at ≡ at + slot_size * 0 = omega arith in
    let k : n ≡ m = omega arith in
    λ i. slots_at t (p i) (k i)
slots_append t at (suc u) m n q =
    let k : n ≡ suc (u + m) = omega arith in
    let p : at + slot_size + slot_size * u ≡ at + slot_size * suc u = omega arith in
    ap (slots_at t at) k ∙ ap (λ (l : List Record). record_at t at ∷ l) (slots_append t (at + slot_size) u m (u + m) refl ∙ ap (λ (x : ℕ). slots_at t (at + slot_size) u ++ slots_at t x m) p)

module _ (t : List ℕ) (year at : ℕ) where
  empty_goes : get_or t at 0 ≡ 0 → stays year (record_at t at) ≡ false
  unfolding stays record_at
  empty_goes e = rw (eq-eqb (get_or t at 0) 0 e)

  used_goes : (get_or t at 0 ≡ 0 → ⊥) → stays year (record_at t at) ≡ other_year year (record_at t at)
  unfolding stays record_at
  used_goes e = rw (ne_eqb (get_or t at 0) 0 e)

-- none of the empty slots stays; of the used ones those of another year do
keep_empty : (t : List ℕ) (year at m : ℕ) → ((i : ℕ) → i < m → get_or t (at + slot_size * i) 0 ≡ 0) → keep (stays year) (slots_at t at m) ≡ []
unfolding keep slots_at
keep_empty t year at zero z = refl
keep_empty t year at (suc m) z = go (stays year (record_at t at)) (first (z 0 (omega arith)))
    (keep_empty t year (at + slot_size) m (λ i h. let q : at + slot_size + slot_size * i ≡ at + slot_size * suc i = omega arith in ap (λ (x : ℕ). get_or t x 0) q ∙ z (suc i) (omega arith)))
  where
    first : get_or t (at + slot_size * 0) 0 ≡ 0 → stays year (record_at t at) ≡ false
    first e = let q : at ≡ at + slot_size * 0 = omega arith in empty_goes t year at (ap (λ (x : ℕ). get_or t x 0) q ∙ e)

    go : (b : Bool) → b ≡ false → keep (stays year) (slots_at t (at + slot_size) m) ≡ [] → cond b (record_at t at ∷ keep (stays year) (slots_at t (at + slot_size) m)) (keep (stays year) (slots_at t (at + slot_size) m)) ≡ []
    go true f e = clash (sym f)
    go false f e = e

keep_used : (t : List ℕ) (year at u : ℕ) → ((i : ℕ) → i < u → get_or t (at + slot_size * i) 0 ≡ 0 → ⊥) → keep (stays year) (slots_at t at u) ≡ staying year (slots_at t at u)
unfolding keep slots_at
keep_used t year at zero h = refl
keep_used t year at (suc u) h =
    let q : at + slot_size * 0 ≡ at = omega arith in
    let a = used_goes t year at (λ z. h 0 (omega arith) (ap (λ (x : ℕ). get_or t x 0) q ∙ z)) in
    let b = keep_used t year (at + slot_size) u (λ i l z. let p : at + slot_size * suc i ≡ at + slot_size + slot_size * i = omega arith in h (suc i) (omega arith) (ap (λ (x : ℕ). get_or t x 0) p ∙ z)) in
    λ i. cond (a i) (record_at t at ∷ b i) (b i)

-- A VALID BODY

module _ (t : List ℕ) (base n year : ℕ) (fits : base + slot_size * n ≤ length t) (ok : body_ok t base n ≡ true) where
  abbrev u : ℕ
  u = used_at t base n

  abbrev fs : List ℕ
  fs = stays_at t base n year

  long : length fs ≡ n
  long = length_flags (stays year) (slots_at t base n) ∙ length_slots t base n

  keep_records : keep (stays year) (slots_at t base n) ≡ staying year (records_at t base n)
  keep_records =
      let l = used_le t base n in
      let z = keep_empty t year (base + slot_size * u) (n - u)
      (λ i h. zeros_get t (base + slot_size * u) (base + slot_size * n) (parts t base n ok).empty (base + slot_size * u + slot_size * i) (omega arith) (omega arith)) in
      ap (keep (stays year)) (slots_append t base u (n - u) n (omega arith))
      ∙ keep_append (stays year) (slots_at t base u) (slots_at t (base + slot_size * u) (n - u))
      ∙ ap (λ (x : List Record). keep (stays year) (slots_at t base u) ++ x) z ∙ append-nil (keep (stays year) (slots_at t base u))
      ∙ keep_used t year base u (used_kind t base n)

  open_records : chosen (slots_at t base n) fs ≡ staying year (records_at t base n)
  open_records = chosen_keep (stays year) (slots_at t base n) ∙ keep_records

  -- how many stay, and how many are removed
  open_kept : chosen_count (stays_at t base n year) ≡ length (staying year (records_at t base n))
  open_kept = kept_keep (stays year) (slots_at t base n) ∙ ap (λ (rs : List Record). length rs) keep_records

  pub removed_used : removed year (records_at t base n) + chosen_count (stays_at t base n year) ≡ used_at t base n
  removed_used = omega (arith, open_kept, removed_rest year (records_at t base n), length_records t base n)

  flag_used : (i : ℕ) → i < length fs → get_or fs i 0 ≡ 1 → get_or t (base + slot_size * i) 0 ≡ 0 → ⊥
  flag_used i h e z =
      let g = get_flag (stays year) (slots_at t base n) i (record_at t base) (omega (arith, long, length_slots t base n)) e in
      let r = ap (stays year) (get_slot t base n i (record_at t base) (omega (arith, long))) in
      clash (sym (empty_goes t year (base + slot_size * i) z) ∙ sym r ∙ g)

  flag_valid : (i : ℕ) → i < length fs → get_or fs i 0 ≡ 1 → slot_ok t (base + slot_size * i) ≡ true
  flag_valid i h e = go (ltb i u) refl
    where
      go : (b : Bool) → ltb i u ≡ b → slot_ok t (base + slot_size * i) ≡ true
      go true q = slots_each t base u (parts t base n ok).slots i (ltb-true i u q)
      go false q =
          absurd (flag_used i h e (zeros_get t (base + slot_size * u) (base + slot_size * n) (parts t base n ok).empty (base + slot_size * i)
          (omega (arith, ltb-false i u q)) (omega (arith, long))))

  -- ITS RECORDS
  pub removed_records : records_at (year_removed t base n year) base n ≡ staying year (records_at t base n)
  removed_records =
      ap (records_at (packed t base fs) base) (sym long) ∙ packed_records t base fs (omega (arith, long)) flag_used
      ∙ ap (λ (m : ℕ). chosen (slots_at t base m) fs) long ∙ open_records

  -- IT IS VALID
  pub removed_ok : body_ok (year_removed t base n year) base n ≡ true
  removed_ok =
      ap (body_ok (packed t base fs) base) (sym long)
      ∙ packed_ok t base fs (omega (arith, long)) flag_used flag_valid
      (ap (λ (m : ℕ). distinct (chosen (slots_at t base m) fs)) long
      ∙ ap distinct (open_records ∙ sym (chosen_keep (other_year year) (records_at t base n)))
      ∙ chosen_distinct (records_at t base n) (flags_by (other_year year) (records_at t base n)) (parts t base n ok).keys)

-- the flags are as many as the slots
pub length_open : (t : List ℕ) (base n year : ℕ) → length (stays_at t base n year) ≡ n
length_open t base n year = length_flags (stays year) (slots_at t base n) ∙ length_slots t base n
