-- Records that are all of later years than one: in a body's slots, one slot at a time, and in a list that changes.
use Prim.Native.Nat.{ℕ, zero, suc, ◌+◌, ◌-◌, ◌*◌, ◌≤◌, ◌<◌}
use mathlib.Core.Path.{◌≡◌, refl, sym, ◌∙◌}
use mathlib.Core.Bool.{true, false}
use mathlib.Core.List.{List, [], ◌∷◌, ◌++◌}
use native.Mathlib.Omega.{arith}
use native.Mathlib.Nat.{not-suc-le-zero}
use lib.ListN.{length, get_or, set}
use lib.Dec.{ltb}
use borrow.Author.Tests.{ltb-true, lt-ltb, le-ltb}
use Rattle.scan.proofs.Laws.{both}
use Rattle.words.specs.Numbers.{be2}
use Rattle.record.specs.declared.Record.{Record}
use Rattle.record.specs.Slot.{slot_size, record_at, rest_zero}
use Rattle.valid.proofs.Valid.{ok_bounds}
use Rattle.slots.specs.Slots.{used_at, slots_at, records_at}
use Rattle.slots.proofs.Laws.{slots_next, slots_none}
use Rattle.body.specs.Body.{slot_ok, slots_ok, body_ok, all_later}
use Rattle.body.proofs.Laws.{slot_rest, slots_ok_more, ok_slots}

-- A BODY'S SLOTS from the one at an index on, which is of the year e
module _ (t : List ℕ) (base n i : ℕ) {e year : ℕ} (q : e ≡ be2 t (base + slot_size * i + 4)) (h : i < n) where
  pub not_later : e ≤ year → all_later year (slots_at t (base + slot_size * i) (n - i)) ≡ false
  unfolding all_later record_at
  not_later l = rw (slots_next t base n i h, ← q, le-ltb year e l)

  pub later_on : year < e → all_later year (slots_at t (base + slot_size * i) (n - i)) ≡ all_later year (slots_at t (base + slot_size * (i + 1)) (n - (i + 1)))
  unfolding all_later record_at
  later_on l = rw (slots_next t base n i h, ← q, lt-ltb year e l)

pub later_end : (t : List ℕ) (at left year : ℕ) → left ≤ 0 → all_later year (slots_at t at left) ≡ true
unfolding all_later
later_end t at left year h = rw (slots_none t at left (omega arith))

-- valid records are of 2000 on: all later than a year before that, so than the 0 of a body that never closed
first_later : (t : List ℕ) (at n year : ℕ) → year < (record_at t at).esercizio → all_later year (slots_at t at (suc n)) ≡ all_later year (slots_at t (at + slot_size) n)
unfolding all_later slots_at
first_later t at n year l = rw (lt-ltb year (record_at t at).esercizio l)

slots_later : (t : List ℕ) (at n year : ℕ) → year < 2000 → slots_ok t at n ≡ true → all_later year (slots_at t at n) ≡ true
slots_later t at zero year h e = later_end t at 0 year (omega arith)
slots_later t at (suc n) year h e =
    let w = both (slot_ok t at) _ (sym (slots_ok_more t at (suc n) n refl) ∙ e) in
    let b = ok_bounds (record_at t at) (both (rest_zero t at) _ (sym (slot_rest t at) ∙ w.0)).1 in
    first_later t at n year (omega (arith, b.esercizio)) ∙ slots_later t (at + slot_size) n year h w.1

pub open_later : (t : List ℕ) (at n year : ℕ) → year < 2000 → body_ok t at n ≡ true → all_later year (records_at t at n) ≡ true
open_later t at n year h e = slots_later t at (used_at t at n) year h (ok_slots t at n e)

-- A LIST: one record of it, one in place of another, one more
pub later_nil : (year : ℕ) → all_later year [] ≡ true
unfolding all_later
later_nil year = refl

pub later_get : (year : ℕ) (rs : List Record) → all_later year rs ≡ true → (i : ℕ) (d : Record) → i < length rs → year < (get_or rs i d).esercizio
unfolding all_later
later_get year [] e i d h = absurd (not-suc-le-zero h)
later_get year (r ∷ rs) e zero d h = ltb-true _ _ (both (ltb year r.esercizio) _ e).0
later_get year (r ∷ rs) e (suc i) d h = later_get year rs (both (ltb year r.esercizio) _ e).1 i d (omega arith)

pub later_set : (year : ℕ) (rs : List Record) (i : ℕ) (r : Record) → year < r.esercizio → all_later year rs ≡ true → all_later year (set rs i r) ≡ true
unfolding all_later
later_set year [] i r l e = refl
later_set year (x ∷ rs) zero r l e = rw (lt-ltb year r.esercizio l) (both (ltb year x.esercizio) _ e).1
later_set year (x ∷ rs) (suc i) r l e =
    let w = both (ltb year x.esercizio) _ e in
    rw w.0 (later_set year rs i r l w.1)

pub later_add : (year : ℕ) (rs : List Record) (r : Record) → year < r.esercizio → all_later year rs ≡ true → all_later year (rs ++ r ∷ []) ≡ true
unfolding all_later
later_add year [] r l e = rw (lt-ltb year r.esercizio l)
later_add year (x ∷ rs) r l e =
    let w = both (ltb year x.esercizio) _ e in
    rw w.0 (later_add year rs r l w.1)
