-- Laws of a valid body and of its totals, one slot at a time.
use Rattle.std.specs.Prelude.{Option, Some, None}
use Prim.Native.Nat.{ℕ, zero, suc, ◌+◌, ◌-◌, ◌*◌, ◌≤◌, ◌<◌}
use mathlib.Core.Bool.{Bool, true, false, ◌&&◌, cond}
use mathlib.Core.List.{List, [], ◌∷◌}
use mathlib.Core.Path.{◌≡◌, refl, sym, ap, ◌∙◌}
use native.Mathlib.Omega.{arith}
use native.Mathlib.Numerals.{unary_clauses}
use lib.ListN.{get_or}
use lib.Dec.{eqb}
use Rattle.scan.proofs.Laws.{both}
use Rattle.record.specs.Slot.{slot_size, record_at, rest_zero}
use Rattle.record.specs.declared.Record.{Record}
use Rattle.ranges.specs.Ranges.{zeros}
use Rattle.bounds.specs.Bounds.{max_cents}
use Rattle.valid.specs.Valid.{record_ok, executed}
use Rattle.valid.specs.Inner.{judged_by}
use Rattle.valid.proofs.Laws.{and_stop, and_go, executed_sum, told_right, told_broken}
use Rattle.valid.proofs.Valid.{ok_bounds, ok_sum}
use Rattle.slots.specs.Slots.{used_at, slots_at, records_at, distinct}
use Rattle.slots.proofs.Laws.{used_le, used_more, slots_none, slots_more, slots_next}
use Rattle.body.specs.Body.{slot_ok, slots_ok, body_ok, cents_of}
use Rattle.body.specs.Inner.{summed}

-- A VALID BODY

pub slot_rest : (t : List ℕ) (at : ℕ) → slot_ok t at ≡ (rest_zero t at && record_ok (record_at t at))
unfolding slot_ok
slot_rest t at = refl

pub slots_ok_more : (t : List ℕ) (at n m : ℕ) → n ≡ suc m → slots_ok t at n ≡ (slot_ok t at && slots_ok t (at + slot_size) m)
unfolding slots_ok
slots_ok_more t at n m q = rw q

pub slots_ok_none : (t : List ℕ) (at n : ℕ) → n ≡ 0 → slots_ok t at n ≡ true
unfolding slots_ok
slots_ok_none t at n q = rw q

-- the three tests, of a body with u used slots
pub body_tests : (t : List ℕ) (at n u : ℕ) → u ≡ used_at t at n
    → body_ok t at n ≡ (slots_ok t at u && (zeros t (at + slot_size * u) (at + slot_size * n) && distinct (slots_at t at u)))
unfolding body_ok
body_tests t at n u q = rw q

pub ok_slots : (t : List ℕ) (at n : ℕ) → body_ok t at n ≡ true → slots_ok t at (used_at t at n) ≡ true
unfolding body_ok
ok_slots t at n e = (both (slots_ok t at (used_at t at n)) _ e).0

-- the first of a body's valid records, and the rest
pub valid_first : (t : List ℕ) (at n m : ℕ) → n ≡ suc m → (get_or t at 0 ≡ 0 → ⊥) → slots_ok t at (used_at t at n) ≡ true
    → (record_ok (record_at t at) ≡ true) × (slots_ok t (at + slot_size) (used_at t (at + slot_size) m) ≡ true)
valid_first t at n m q z e =
    let f = both (slot_ok t at) _ (sym (slots_ok_more t at (used_at t at n) _ (used_more t at n m q z)) ∙ e) in
    ((both (rest_zero t at) _ (sym (slot_rest t at) ∙ f.0)).1, f.1)

-- THE TOTALS

pub executed_most : (r : Record) → record_ok r ≡ true → executed r ≤ max_cents
executed_most r e = omega (arith, executed_sum r.states r.amounts, ok_sum r e, (ok_bounds r e).total)

-- what a record adds to the sum of a kind
abbrev pub adds : ℕ → Record → ℕ
adds k r = cond (eqb r.kind k) (executed r) 0

adds_most : (k : ℕ) (r : Record) → record_ok r ≡ true → adds k r ≤ max_cents
adds_most k r e = go (eqb r.kind k) where
  go : (b : Bool) → cond b (executed r) 0 ≤ max_cents
  go true = executed_most r e
  go false = omega arith

pub cents_more : {rs rest : List Record} {r : Record} (k : ℕ) → rs ≡ r ∷ rest → cents_of k rs ≡ adds k r + cents_of k rest
unfolding cents_of
cents_more k e = rw e

pub cents_nil : {rs : List Record} (k : ℕ) → rs ≡ [] → cents_of k rs ≡ 0
unfolding cents_of
cents_nil k e = rw e

-- valid slots hold at most the greatest amount each
slots_most : (t : List ℕ) (at n k : ℕ) → slots_ok t at n ≡ true → cents_of k (slots_at t at n) ≤ max_cents * n
slots_most t at zero k e = omega (arith, cents_nil k (slots_none t at 0 refl))
slots_most t at (suc n) k e =
    let w = both (slot_ok t at) _ (sym (slots_ok_more t at (suc n) n refl) ∙ e) in
    let r = (both (rest_zero t at) _ (sym (slot_rest t at) ∙ w.0)).1 in
    omega (arith, cents_more k (slots_more t at (suc n) n refl), adds_most k (record_at t at) r, slots_most t (at + slot_size) n k w.1)

pub cents_most : (t : List ℕ) (at n k : ℕ) → body_ok t at n ≡ true → cents_of k (records_at t at n) ≤ max_cents * n
cents_most t at n k e = omega (arith, slots_most t at (used_at t at n) k (ok_slots t at n e), used_le t at n)

-- WHAT IS TOLD, of a slot, of slots and of a body

pub slot_broken : (t : List ℕ) (at c : ℕ) → rest_zero t at ≡ false → None ≡ judged_by (slot_ok t at) c
slot_broken t at c f = sym (ap (λ (b : Bool). judged_by b c) (and_stop (rest_zero t at) _ (slot_rest t at) f))

pub slot_told : (t : List ℕ) (at c : ℕ) → rest_zero t at ≡ true → judged_by (record_ok (record_at t at)) c ≡ judged_by (slot_ok t at) c
slot_told t at c f = sym (ap (λ (b : Bool). judged_by b c) (and_go (rest_zero t at) _ (slot_rest t at) f))

-- the slots before i are right: `paid` and `collected` of them
pub record Sofar (t : List ℕ) (base n i paid collected : ℕ) : Type 0 where
  pub right : slots_ok t base n ≡ slots_ok t (base + slot_size * i) (n - i)
  pub paid_is : cents_of 1 (slots_at t base n) ≡ paid + cents_of 1 (slots_at t (base + slot_size * i) (n - i))
  pub collected_is : cents_of 2 (slots_at t base n) ≡ collected + cents_of 2 (slots_at t (base + slot_size * i) (n - i))
  pub paid_most : paid ≤ max_cents * i
  pub collected_most : collected ≤ max_cents * i

pub sofar_start : (t : List ℕ) (base n : ℕ) → Sofar t base n 0 0 0
sofar_start t base n = record {
  right = simp unary_clauses refl;
  paid_is = simp unary_clauses (omega arith);
  collected_is = simp unary_clauses (omega arith);
  paid_most = omega arith;
  collected_most = omega arith;
}

module _ {t : List ℕ} {base n i paid collected : ℕ} (s : Sofar t base n i paid collected) where
  abbrev at : ℕ
  at = base + slot_size * i

  its_next : i < n → slots_ok t at (n - i) ≡ (slot_ok t at && slots_ok t (base + slot_size * (i + 1)) (n - (i + 1)))
  its_next h =
      let q : at + slot_size ≡ base + slot_size * (i + 1) = omega arith in
      slots_ok_more t at (n - i) (n - (i + 1)) (omega arith) ∙ ap (λ (p : ℕ). slot_ok t at && slots_ok t p (n - (i + 1))) q

  pub sofar_broken : (c : ℕ) → i < n → judged_by (slot_ok t at) c ≡ None → None ≡ summed (slots_ok t base n) (slots_at t base n)
  sofar_broken c h e =
      let f = told_broken (slot_ok t at) c e in
      let w = s.right ∙ and_stop (slot_ok t at) _ (its_next h) f in
      sym (ap (λ (b : Bool). summed b (slots_at t base n)) w)

  module _ (h : i < n) {c : ℕ} (e : judged_by (slot_ok t at) (executed (record_at t at)) ≡ Some c) where
    its_ok : (slot_ok t at ≡ true) × (executed (record_at t at) ≡ c)
    its_ok = told_right (slot_ok t at) (executed (record_at t at)) c e

    pub its_most : c ≤ max_cents
    its_most =
        let r = (both (rest_zero t at) _ (sym (slot_rest t at) ∙ its_ok.0)).1 in
        omega (arith, its_ok.1, executed_most (record_at t at) r)

    its_adds : (k : ℕ) → adds k (record_at t at) ≡ cond (eqb (get_or t at 0) k) c 0
    unfolding record_at
    its_adds k = ap (λ (x : ℕ). cond (eqb (get_or t at 0) k) x 0) its_ok.1

    pub sofar_more : (p q : ℕ) → p ≡ cond (eqb (get_or t at 0) 1) c 0 → q ≡ cond (eqb (get_or t at 0) 2) c 0 → p ≤ c → q ≤ c
        → Sofar t base n (i + 1) (paid + p) (collected + q)
    sofar_more p q ep eq lp lq =
        let m = its_most in
        let one = cents_more 1 (slots_next t base n i h) in
        let two = cents_more 2 (slots_next t base n i h) in
        record {
          right = s.right ∙ and_go (slot_ok t at) _ (its_next h) its_ok.0;
          paid_is = omega (arith, s.paid_is, one, its_adds 1);
          collected_is = omega (arith, s.collected_is, two, its_adds 2);
          paid_most = omega (arith, s.paid_most);
          collected_most = omega (arith, s.collected_most);
        }

  pub sofar_done : n ≤ i → Some (paid, collected) ≡ summed (slots_ok t base n) (slots_at t base n)
  sofar_done h =
      let l : n - i ≡ 0 = omega arith in
      let z = slots_none t at (n - i) l in
      let p : cents_of 1 (slots_at t base n) ≡ paid = omega (arith, s.paid_is, cents_nil 1 z) in
      let q : cents_of 2 (slots_at t base n) ≡ collected = omega (arith, s.collected_is, cents_nil 2 z) in
      let b = s.right ∙ slots_ok_none t at (n - i) l in
      sym ((λ i. cond (b i) (Some ((p i), (q i))) None))

pub summed_right : (b : Bool) (rs : List Record) (s : ℕ × ℕ) → summed b rs ≡ Some s → (b ≡ true) × (Some s ≡ summed true rs)
summed_right true rs s e = (refl, sym e)
summed_right false rs s e = let z : ◌≡◌ {A = ℕ} 0 1 = cc in absurd (omega arith)

pub summed_broken : (b : Bool) (rs : List Record) → summed b rs ≡ None → b ≡ false
summed_broken true rs e = let z : ◌≡◌ {A = ℕ} 0 1 = cc in absurd (omega arith)
summed_broken false rs e = refl

-- a body of n slots whose first u are used
module _ (t : List ℕ) (at n u : ℕ) (h : u ≡ used_at t at n) where
  abbrev tests : Bool → Bool → Bool → Option (ℕ × ℕ)
  tests a b c = summed (a && (b && c)) (records_at t at n)

  its_tests : summed (body_ok t at n) (records_at t at n)
      ≡ tests (slots_ok t at u) (zeros t (at + slot_size * u) (at + slot_size * n)) (distinct (slots_at t at u))
  its_tests = ap (λ (b : Bool). summed b (records_at t at n)) (body_tests t at n u h)

  pub body_slots : summed (slots_ok t at u) (slots_at t at u) ≡ None → None ≡ summed (body_ok t at n) (records_at t at n)
  body_slots e =
      let f = summed_broken (slots_ok t at u) (slots_at t at u) e in
      sym (its_tests ∙ ap (λ (a : Bool). tests a (zeros t (at + slot_size * u) (at + slot_size * n)) (distinct (slots_at t at u))) f)

  module _ {s : ℕ × ℕ} (e : summed (slots_ok t at u) (slots_at t at u) ≡ Some s) where
    with_slots : summed (body_ok t at n) (records_at t at n) ≡ tests true (zeros t (at + slot_size * u) (at + slot_size * n)) (distinct (slots_at t at u))
    with_slots =
        let f = (summed_right (slots_ok t at u) (slots_at t at u) s e).0 in
        its_tests ∙ ap (λ (a : Bool). tests a (zeros t (at + slot_size * u) (at + slot_size * n)) (distinct (slots_at t at u))) f

    pub body_rest : zeros t (at + slot_size * u) (at + slot_size * n) ≡ false → None ≡ summed (body_ok t at n) (records_at t at n)
    body_rest z = sym (with_slots ∙ ap (λ (b : Bool). tests true b (distinct (slots_at t at u))) z)

    module _ (z : zeros t (at + slot_size * u) (at + slot_size * n) ≡ true) where
      with_rest : summed (body_ok t at n) (records_at t at n) ≡ tests true true (distinct (slots_at t at u))
      with_rest = with_slots ∙ ap (λ (b : Bool). tests true b (distinct (slots_at t at u))) z

      pub body_keys : distinct (slots_at t at u) ≡ false → None ≡ summed (body_ok t at n) (records_at t at n)
      body_keys d = sym (with_rest ∙ ap (tests true true) d)

      pub body_right : distinct (slots_at t at u) ≡ true → Some s ≡ summed (body_ok t at n) (records_at t at n)
      body_right d =
          (summed_right (slots_ok t at u) (slots_at t at u) s e).1 ∙ ap (λ (m : ℕ). summed true (slots_at t at m)) h
          ∙ sym (with_rest ∙ ap (tests true true) d)
