-- Laws of a body's slots and of the search, one slot at a time.
use Rattle.std.specs.Prelude.{Some, None, Ok, Err}
use Prim.Native.Nat.{ℕ, zero, suc, ◌+◌, ◌-◌, ◌*◌, ◌≤◌, ◌<◌}
use mathlib.Core.Bool.{Bool, true, false, ◌&&◌, cond}
use mathlib.Core.List.{List, [], ◌∷◌}
use mathlib.Core.Path.{◌≡◌, refl, ap, ◌∙◌}
use native.Mathlib.Omega.{arith}
use lib.ListN.{get_or}
use lib.Dec.{eqb}
use borrow.Author.Tests.{eq-eqb, ne_eqb}
use Rattle.record.specs.Slot.{slot_size, record_at, key_is, key_of}
use Rattle.record.specs.declared.Record.{Record}
use Rattle.record.specs.declared.Key.{Key}
use Rattle.ranges.specs.Ranges.{is_nothing}
use Rattle.slots.specs.Slots.{used_at, slots_at, records_at, find_in, distinct}
use Rattle.slots.specs.Inner.{seek_in}

-- THE RECORDS OF A BODY

-- an empty slot ends the used ones
pub used_end : (t : List ℕ) (at n : ℕ) → get_or t at 0 ≡ 0 → used_at t at n ≡ 0
unfolding used_at
used_end t at zero e = refl
used_end t at (suc n) e = rw (eq-eqb _ _ e)

pub used_none : (t : List ℕ) (at n : ℕ) → n ≡ 0 → used_at t at n ≡ 0
unfolding used_at
used_none t at n q = rw q

pub used_le : (t : List ℕ) (at n : ℕ) → used_at t at n ≤ n
unfolding used_at
used_le t at zero = omega arith
used_le t at (suc n) = go (eqb (get_or t at 0) 0) (used_le t (at + slot_size) n) where
  go : (b : Bool) → used_at t (at + slot_size) n ≤ n → cond b 0 (suc (used_at t (at + slot_size) n)) ≤ suc n
  go true h = omega arith
  go false h = omega arith

module _ (t : List ℕ) (at n m : ℕ) (q : n ≡ suc m) where
  pub used_more : (get_or t at 0 ≡ 0 → ⊥) → used_at t at n ≡ suc (used_at t (at + slot_size) m)
  unfolding used_at
  used_more z = rw (q, ne_eqb _ _ z)

  pub slots_more : slots_at t at n ≡ record_at t at ∷ slots_at t (at + slot_size) m
  unfolding slots_at
  slots_more = rw q

  pub records_more : (get_or t at 0 ≡ 0 → ⊥) → records_at t at n ≡ record_at t at ∷ records_at t (at + slot_size) m
  unfolding slots_at
  records_more z = ap (slots_at t at) (used_more z)

module _ (t : List ℕ) (at n : ℕ) where
  pub slots_none : n ≡ 0 → slots_at t at n ≡ []
  unfolding slots_at
  slots_none q = rw q

  pub records_end : get_or t at 0 ≡ 0 → records_at t at n ≡ []
  unfolding slots_at
  records_end z = ap (slots_at t at) (used_end t at n z)

  pub records_none : n ≡ 0 → records_at t at n ≡ []
  unfolding slots_at
  records_none q = ap (slots_at t at) (used_none t at n q)

-- the slots from the one at an index on
module _ (t : List ℕ) (base n i : ℕ) (h : i < n) where
  abbrev pub place_of : ℕ → ℕ
  place_of j = base + slot_size * j

  step : place_of i + slot_size ≡ place_of (i + 1)
  step = omega arith

  rest : n - i ≡ suc (n - (i + 1))
  rest = omega arith

  pub used_next : (get_or t (place_of i) 0 ≡ 0 → ⊥) → used_at t (place_of i) (n - i) ≡ suc (used_at t (place_of (i + 1)) (n - (i + 1)))
  used_next z = used_more t (place_of i) (n - i) (n - (i + 1)) rest z ∙ ap (λ (p : ℕ). suc (used_at t p (n - (i + 1)))) step

  pub slots_next : slots_at t (place_of i) (n - i) ≡ record_at t (place_of i) ∷ slots_at t (place_of (i + 1)) (n - (i + 1))
  slots_next = slots_more t (place_of i) (n - i) (n - (i + 1)) rest ∙ ap (λ (p : ℕ). record_at t (place_of i) ∷ slots_at t p (n - (i + 1))) step

  pub records_next : (get_or t (place_of i) 0 ≡ 0 → ⊥) → records_at t (place_of i) (n - i) ≡ record_at t (place_of i) ∷ records_at t (place_of (i + 1)) (n - (i + 1))
  records_next z = records_more t (place_of i) (n - i) (n - (i + 1)) rest z ∙ ap (λ (p : ℕ). record_at t (place_of i) ∷ records_at t p (n - (i + 1))) step

-- THE SEARCH

module _ {rs rest : List Record} {r : Record} (e : rs ≡ r ∷ rest) (i : ℕ) (k : Key) where
  pub find_first : key_is r k ≡ true → find_in rs i k ≡ Some i
  unfolding find_in
  find_first h = rw (e, h)

  pub find_later : key_is r k ≡ false → find_in rs i k ≡ find_in rest (i + 1) k
  unfolding find_in
  find_later h = rw (e, h)

pub find_nil : {rs : List Record} → rs ≡ [] → (i : ℕ) (k : Key) → find_in rs i k ≡ None
unfolding find_in
find_nil e i k = rw e

-- the search for an order
module _ {rs rest : List Record} {r : Record} (e : rs ≡ r ∷ rest) (i : ℕ) (k : Key) where
  pub seek_first : key_is r k ≡ true → seek_in rs i k ≡ Ok i
  unfolding seek_in
  seek_first h = rw (e, h)

  pub seek_later : key_is r k ≡ false → seek_in rs i k ≡ seek_in rest (i + 1) k
  unfolding seek_in
  seek_later h = rw (e, h)

pub seek_nil : {rs : List Record} → rs ≡ [] → (i : ℕ) (k : Key) → seek_in rs i k ≡ Err i
unfolding seek_in
seek_nil e i k = rw e

pub distinct_more : {rs rest : List Record} {r : Record} → rs ≡ r ∷ rest → distinct rs ≡ (is_nothing (find_in rest 0 (key_of r)) && distinct rest)
unfolding distinct
distinct_more e = rw e

pub distinct_nil : {rs : List Record} → rs ≡ [] → distinct rs ≡ true
unfolding distinct
distinct_nil e = rw e
