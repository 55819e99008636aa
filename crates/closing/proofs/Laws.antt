-- Laws of the closing code, one way through it at a time.
use Prim.Native.Nat.{ℕ, ◌+◌, ◌*◌, ◌≤◌, ◌<◌}
use mathlib.Core.Bool.{Bool, true, false}
use mathlib.Core.List.{List, [], ◌∷◌, ◌++◌}
use mathlib.Core.Path.{◌≡◌, refl, sym, ap, ◌∙◌}
use native.Mathlib.Omega.{arith}
use native.Mathlib.Numerals.{add-one}
use lib.ListN.{length, take, set}
use lib.Seq.{take-suc-set, take_all}
use borrow.Author.Tests.{lt-ltb, le-ltb}
use Rattle.packing.specs.Packing.{flag}
use lib.Dec.{eqb}
use Rattle.std.specs.List.{list_any}
use Rattle.words.specs.Numbers.{be2}
use Rattle.record.specs.declared.Record.{Record}
use Rattle.record.specs.Slot.{slot_size, record_at}
use Rattle.slots.specs.Slots.{slots_at}
use Rattle.slots.proofs.Index.{slots_snoc}
use Rattle.closing.specs.Closing.{any, of_earlier, any_waiting, stays, flags_by, stays_at}

-- A WALK over a body's records for one that passes a test

module _ (p : Record → Bool) {rs rest : List Record} {r : Record} (e : rs ≡ r ∷ rest) where
  pub any_first : p r ≡ true → any p rs ≡ true
  unfolding any
  any_first h = rw (e, h)

  pub any_later : p r ≡ false → any p rs ≡ any p rest
  unfolding any
  any_later h = rw (e, h)

pub any_nil : (p : Record → Bool) {rs : List Record} → rs ≡ [] → any p rs ≡ false
unfolding any
any_nil p e = rw e

-- ONE SLOT: its year

module _ (t : List ℕ) (at year : ℕ) {y : ℕ} (q : y ≡ be2 t (at + 4)) where
  pub year_earlier : y < year → of_earlier year (record_at t at) ≡ true
  unfolding record_at
  year_earlier h = rw q at (lt-ltb y year h)

  pub year_later : (y < year → ⊥) → of_earlier year (record_at t at) ≡ false
  unfolding record_at
  year_later h = rw q at (le-ltb y year (omega arith))

-- its waiting lines: std's test of a list, and the specification's
pub waiting_is : (s : List ℕ) → list_any (λ x. eqb x 1) s ≡ any_waiting s
unfolding any_waiting
waiting_is [] = refl
waiting_is (x ∷ s) = rw (waiting_is s)

-- THE FLAGS

flags_append : (p : Record → Bool) (xs ys : List Record) → flags_by p (xs ++ ys) ≡ flags_by p xs ++ flags_by p ys
unfolding flags_by
flags_append p [] ys = refl
flags_append p (x ∷ xs) ys = ap (λ (l : List ℕ). flag (p x) ∷ l) (flags_append p xs ys)

flags_one : (p : Record → Bool) (x : Record) → flags_by p (x ∷ []) ≡ flag (p x) ∷ []
unfolding flags_by
flags_one p x = refl

pub flags_none : (t : List ℕ) (base year : ℕ) (fs : List ℕ) → take 0 fs ≡ stays_at t base 0 year
unfolding flags_by slots_at
flags_none t base year fs = refl

pub flags_more : (t : List ℕ) (base year : ℕ) (fs : List ℕ) (i f : ℕ) → i < length fs → take i fs ≡ stays_at t base i year → f ≡ flag (stays year (record_at t (base + slot_size * i)))
    → take (i + 1) (set fs i f) ≡ stays_at t base (i + 1) year
flags_more t base year fs i f low e g =
    let r : Record = record_at t (base + slot_size * i) in
    ap (λ (k : ℕ). take k (set fs i f)) (add-one i) ∙ take-suc-set fs i f low
    ∙ (λ j. e j ++ g j ∷ [])
    ∙ ap (λ (l : List ℕ). stays_at t base i year ++ l) (sym (flags_one (stays year) r))
    ∙ sym (flags_append (stays year) (slots_at t base i) (r ∷ []))
    ∙ ap (flags_by (stays year)) (sym (slots_snoc t base i) ∙ ap (slots_at t base) (sym (add-one i)))

pub flags_all : (t : List ℕ) (base year : ℕ) (fs : List ℕ) (i n : ℕ) → n ≡ length fs → i ≤ n → n ≤ i → take i fs ≡ stays_at t base i year → fs ≡ stays_at t base n year
flags_all t base year fs i n q a b e =
    let z : i ≡ n = omega arith in
    sym (take_all i fs (omega arith)) ∙ e ∙ ap (λ (m : ℕ). stays_at t base m year) z
