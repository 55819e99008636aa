-- What a valid record tells of its fields.
use Prim.Native.Nat.{ℕ, zero, suc, ◌+◌, ◌≤◌, ◌<◌}
use mathlib.Core.Bool.{Bool, true, ◌&&◌}
use mathlib.Core.List.{List, [], ◌∷◌}
use mathlib.Core.Path.{◌≡◌, refl, sym, ap, ◌∙◌}
use native.Mathlib.Omega.{arith}
use native.Mathlib.Nat.{not-suc-le-zero, add-zero, zero-add}
use lib.ListN.{length, get_or}
use lib.Dec.{eqb, leb}
use borrow.Author.Tests.{leb-true, eqb-true, eq-eqb}
use Rattle.scan.specs.Bytes.{between}
use Rattle.scan.proofs.Laws.{both, in_range}
use Rattle.calendar.specs.Calendar.{is_date}
use Rattle.calendar.proofs.Laws.{Ranges, date_ranges}
use Rattle.record.specs.declared.Record.{Record}
use Rattle.record.proofs.Back.{Sized}
use Rattle.bounds.specs.Bounds.{max_cents}
use Rattle.valid.specs.Valid.{line_ok, all_from, sum, ranges_ok, record_ok}

pub record Bounds (r : Record) : Type 0 where
  pub kind : (1 ≤ r.kind) × (r.kind ≤ 2)
  pub state : (1 ≤ r.state) × (r.state ≤ 2)
  pub lines : (1 ≤ r.lines) × (r.lines ≤ 8)
  pub esercizio : (2000 ≤ r.esercizio) × (r.esercizio ≤ 2099)
  pub number : (1 ≤ r.number) × (r.number ≤ 9999999)
  pub date : Ranges r.date
  pub total : r.total ≤ max_cents

pub ranges_bounds : (r : Record) → ranges_ok r ≡ true → Bounds r
unfolding ranges_ok
ranges_bounds r e =
    let a = both (between 1 2 r.kind) _ e in
    let b = both (between 1 2 r.state) _ a.1 in
    let c = both (between 1 8 r.lines) _ b.1 in
    let d = both (between 2000 2099 r.esercizio) _ c.1 in
    let f = both (between 1 9999999 r.number) _ d.1 in
    let g = both (is_date r.date) (leb r.total max_cents) f.1 in
    record {
      kind = in_range 1 2 r.kind a.0;
      state = in_range 1 2 r.state b.0;
      lines = in_range 1 8 r.lines c.0;
      esercizio = in_range 2000 2099 r.esercizio d.0;
      number = in_range 1 9999999 r.number f.0;
      date = date_ranges r.date g.0;
      total = leb-true r.total max_cents g.1;
    }

-- a test of each number, taken apart and put together
all_each : (f : ℕ → Bool) (k m : ℕ) → all_from f k m ≡ true → (j : ℕ) → j < m → f (k + j) ≡ true
unfolding all_from
all_each f k zero e j h = absurd (not-suc-le-zero h)
all_each f k (suc m) e zero h = ap f (add-zero k) ∙ (both (f k) (all_from f (k + 1) m) e).0
all_each f k (suc m) e (suc j) h =
    let q : k + suc j ≡ k + 1 + j = omega arith in
    ap f q ∙ all_each f (k + 1) m (both (f k) (all_from f (k + 1) m) e).1 j (omega arith)

each_all : (f : ℕ → Bool) (k m : ℕ) → ((j : ℕ) → j < m → f (k + j) ≡ true) → all_from f k m ≡ true
unfolding all_from
each_all f k zero h = refl
each_all f k (suc m) h =
    let a : f k ≡ true = ap f (sym (add-zero k)) ∙ h 0 (omega arith) in
    let b : all_from f (k + 1) m ≡ true = each_all f (k + 1) m (λ j l. let q : k + 1 + j ≡ k + suc j = omega arith in ap f q ∙ h (suc j) (omega arith)) in
    λ i. a i && b i

-- one of the numbers is at most their sum
pub one_of_sum : (a : List ℕ) (k : ℕ) → get_or a k 0 ≤ sum a
unfolding sum
one_of_sum [] k = omega arith
one_of_sum (x ∷ a) zero = omega arith
one_of_sum (x ∷ a) (suc k) = omega (arith, one_of_sum a k)

module _ (r : Record) (e : record_ok r ≡ true) where
  -- its three tests
  pub ok_tests : (ranges_ok r ≡ true) × ((all_from (line_ok r) 0 8 ≡ true) × (eqb (sum r.amounts) r.total ≡ true))
  unfolding record_ok
  ok_tests = let a = both (ranges_ok r) _ e in (a.0, both (all_from (line_ok r) 0 8) _ a.1)

  pub ok_bounds : Bounds r
  ok_bounds = ranges_bounds r ok_tests.0

  pub ok_line : (k : ℕ) → k < 8 → line_ok r k ≡ true
  ok_line k h = ap (line_ok r) (sym (zero-add k)) ∙ all_each (line_ok r) 0 8 ok_tests.1.0 k h

  pub ok_sum : sum r.amounts ≡ r.total
  ok_sum = eqb-true _ _ ok_tests.1.1

  pub ok_used : r.kind ≡ 0 → ⊥
  ok_used z = omega (arith, ok_bounds.kind)

  pub ok_amount : (k : ℕ) → get_or r.amounts k 0 ≤ max_cents
  ok_amount k = omega (arith, one_of_sum r.amounts k, ok_sum, ok_bounds.total)

  -- its fields fit their bytes
  pub ok_sized : length r.states ≡ 8 → length r.amounts ≡ 8 → Sized r
  ok_sized s a =
      let b = ok_bounds in
      record {
        esercizio = omega arith;
        number = omega arith;
        year = omega arith;
        month = omega arith;
        day = omega arith;
        total = omega arith;
        states = s;
        amounts = a;
        each = λ k h. omega (arith, ok_amount k);
      }

pub ok_from : (r : Record) → ranges_ok r ≡ true → ((k : ℕ) → k < 8 → line_ok r k ≡ true) → sum r.amounts ≡ r.total → record_ok r ≡ true
unfolding record_ok
ok_from r a h s =
    let b = each_all (line_ok r) 0 8 (λ j l. ap (line_ok r) (zero-add j) ∙ h j l) in
    let c = eq-eqb _ _ s in
    λ i. a i && (b i && c i)

-- a valid record that has its eight lines
pub record Valid (r : Record) : Type 0 where
  pub ok : record_ok r ≡ true
  pub states : length r.states ≡ 8
  pub amounts : length r.amounts ≡ 8

pub valid_sized : (r : Record) → Valid r → Sized r
valid_sized r v = ok_sized r v.ok v.states v.amounts
