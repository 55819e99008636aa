-- What accepted orders and moved lines leave: valid records, with the keys that they had.
use Rattle.std.specs.Prelude.{Some, Ok}
use Prim.Native.Nat.{ℕ, zero, suc, ◌+◌, ◌≤◌, ◌<◌}
use mathlib.Core.Bool.{Bool, true, false, ◌&&◌, ◌||◌, cond}
use mathlib.Core.List.{List, [], ◌∷◌, ◌++◌}
use mathlib.Core.Logic.{◌⊎◌, inl, inr}
use mathlib.Core.Path.{◌≡◌, refl, sym, ap, ◌∙◌}
use native.Mathlib.Omega.{arith}
use lib.ListN.{length, get_or, take, replicate, length-replicate, get_or-replicate, get_or-eq_default}
use lib.Dec.{eqb}
use borrow.Author.Tests.{le-leb, eqb-true}
use Rattle.scan.specs.Bytes.{between}
use Rattle.scan.proofs.Laws.{both}
use Rattle.order.specs.declared.Line.{Line}
use Rattle.order.specs.Ordinativo.{Ordinativo}
use Rattle.record.specs.declared.Record.{Record}
use Rattle.record.specs.Slot.{annulled_state, key_of, record_with}
use Rattle.valid.specs.Valid.{line_ok, sum, ranges_ok}
use Rattle.slots.specs.Slots.{find_in, nth, no_record}
use Rattle.valid.proofs.Valid.{Valid, one_of_sum, ok_bounds, ok_line, ok_sum, ok_amount, ok_tests, ok_from}
use Rattle.valid.proofs.Moved.{within, split, line_waits, line_moved, line_in, line_absent_lem, line_none}
use Rattle.slots.proofs.Search.{found_below, found_key}
use Rattle.lines.specs.Lines.{numbered_from, sum_of, line_code}
use Rattle.rules.specs.declared.Change.{Change}
use Rattle.rules.specs.Rules.{was_executed, any_executed, key_for, eight_places, amounts_of, judge_order, written}
pub use Rattle.rules.specs.Inner.{Writable, Writables, none, more}
use Rattle.rules.proofs.Laws.{eight_at_lem, length_eight, was_2, was_3}
use Rattle.bounds.specs.Bounds.{max_cents}
use Rattle.rules.proofs.Judging.{Stands, inserting, replacing, varying, annulling, accepted, accepted_lines}

-- ALL LINES WAITING

pub none_executed : (s : List ℕ) (k : ℕ) → any_executed s ≡ false → was_executed (get_or s k 0) ≡ true → ⊥
unfolding any_executed
none_executed [] k e h = let z : ◌≡◌ {A = ℕ} 0 1 = cc in omega arith
none_executed (x ∷ s) k e h = go (was_executed x) refl e k h (none_executed s)
  where
    go : (b : Bool) → was_executed x ≡ b → (b || any_executed s) ≡ false → (k : ℕ) → was_executed (get_or (x ∷ s) k 0) ≡ true
        → ((k : ℕ) → any_executed s ≡ false → was_executed (get_or s k 0) ≡ true → ⊥) → ⊥
    go true q f k h next = let z : ◌≡◌ {A = ℕ} 0 1 = cc in omega arith
    go false q f zero h next = let y : ◌≡◌ {A = Bool} false true = sym q ∙ h in let z : ◌≡◌ {A = ℕ} 0 1 = cc in omega arith
    go false q f (suc k) h next = next k f h

-- all lines waiting, and no line after them
waiting_none : (m n k : ℕ) → any_executed (take m (replicate n 1 ++ replicate k 0)) ≡ false
unfolding any_executed
waiting_none zero n k = refl
waiting_none (suc m) zero zero = refl
waiting_none (suc m) zero (suc k) = waiting_none m zero k
waiting_none (suc m) (suc n) k = waiting_none m n k

pub waiting_all : (n : ℕ) → any_executed (eight_places (replicate n 1)) ≡ false
waiting_all n = waiting_none 8 n 8

-- places past the lines add nothing
sum_none : (m k : ℕ) → sum (take m (replicate k 0)) ≡ 0
unfolding sum
sum_none zero k = refl
sum_none (suc m) zero = refl
sum_none (suc m) (suc k) = omega (arith, sum_none m k)

sum_first : (m k : ℕ) (ns : List ℕ) → length ns ≤ m → sum (take m (ns ++ replicate k 0)) ≡ sum ns
unfolding sum
sum_first m k [] h = sum_none m k
sum_first zero k (n ∷ ns) h = absurd (omega arith)
sum_first (suc m) k (n ∷ ns) h = ap (λ (x : ℕ). n + x) (sum_first m k ns (omega arith))

length_amounts : (ls : List Line) → length (amounts_of ls) ≡ length ls
unfolding amounts_of
length_amounts [] = refl
length_amounts (l ∷ ls) = ap suc (length_amounts ls)

sum_amounts : (ls : List Line) → sum (amounts_of ls) ≡ sum_of ls
unfolding amounts_of sum sum_of
sum_amounts [] = refl
sum_amounts (l ∷ ls) = ap (λ (x : ℕ). l.amount + x) (sum_amounts ls)

code_zero : (ls : List Line) (total : ℕ) → line_code ls total ≡ 0 → (numbered_from 1 ls ≡ true) × (sum_of ls ≡ total)
unfolding line_code
code_zero ls total e = go (numbered_from 1 ls) (eqb (sum_of ls) total) refl refl e
  where
    go : (a b : Bool) → numbered_from 1 ls ≡ a → eqb (sum_of ls) total ≡ b → ◌≡◌ {A = ℕ} (cond a (cond b 0 13) 12) 0 → (numbered_from 1 ls ≡ true) × (sum_of ls ≡ total)
    go true true p q e = (p, eqb-true _ _ q)
    go true false p q e = absurd (omega arith)
    go false b p q e = absurd (omega arith)

-- the record that an order leaves with all its lines in one state
abbrev fresh : Ordinativo → ℕ → ℕ → ℕ → ℕ → ℕ → Record
fresh o kind state esercizio number s = record {
  kind = kind;
  state = state;
  lines = length o.lines;
  esercizio = esercizio;
  number = number;
  date = o.date;
  total = o.total;
  states = eight_places (replicate (length o.lines) s);
  amounts = eight_places (amounts_of o.lines);
}

module _ (o : Ordinativo) (w : Writable o) (z : line_code o.lines o.total ≡ 0) where
  fresh_sum : sum (eight_places (amounts_of o.lines)) ≡ o.total
  fresh_sum = sum_first 8 8 (amounts_of o.lines) (omega (arith, length_amounts o.lines, w.count)) ∙ sum_amounts o.lines ∙ (code_zero o.lines o.total z).1

  -- waiting, or of an acquired order executed
  module _ (kind state esercizio number s : ℕ) (may : (s ≡ 1) ⊎ ((state ≡ 2 → ⊥) × (s ≡ 2))) where
    fresh_line : (k : ℕ) → k < 8 → line_ok (fresh o kind state esercizio number s) k ≡ true
    fresh_line k h =
        let n = length o.lines in
        split k n
        (λ l. right may k l (eight_at_lem (replicate n s) k h ∙ get_or-replicate n k s 0 l)
        (omega (arith, one_of_sum (eight_places (amounts_of o.lines)) k, fresh_sum, w.total)))
        (λ l. line_none (fresh o kind state esercizio number s) k l
        (eight_at_lem (replicate n s) k h ∙ get_or-eq_default (replicate n s) 0 (omega (arith, length-replicate {A = ℕ} n s)))
        (eight_at_lem (amounts_of o.lines) k h ∙ get_or-eq_default (amounts_of o.lines) 0 (omega (arith, length_amounts o.lines))))
      where
        right : (s ≡ 1) ⊎ ((state ≡ 2 → ⊥) × (s ≡ 2)) → (j : ℕ) → j < length o.lines → get_or (eight_places (replicate (length o.lines) s)) j 0 ≡ s
            → get_or (eight_places (amounts_of o.lines)) j 0 ≤ max_cents → line_ok (fresh o kind state esercizio number s) j ≡ true
        right (inl q) j l e a = line_waits (fresh o kind state esercizio number s) j l (e ∙ q) a
        right (inr q) j l e a = let x : get_or (eight_places (replicate (length o.lines) s)) j 0 ≡ 2 = e ∙ q.1 in line_moved (fresh o kind state esercizio number s) j l q.0 (omega arith, omega arith) a

    module _ (a : (1 ≤ kind) × (kind ≤ 2)) (b : (1 ≤ state) × (state ≤ 2)) (c : (2000 ≤ esercizio) × (esercizio ≤ 2099)) (d : (1 ≤ number) × (number ≤ 9999999)) where
      fresh_ranges : ranges_ok (fresh o kind state esercizio number s) ≡ true
      unfolding ranges_ok
      fresh_ranges =
          rw (within 1 2 kind a, within 1 2 state b, within 1 8 (length o.lines) w.count, within 2000 2099 esercizio c, within 1 9999999 number d, w.date, le-leb o.total max_cents w.total)

      fresh_valid : Valid (fresh o kind state esercizio number s)
      fresh_valid = record {
        ok = ok_from (fresh o kind state esercizio number s) fresh_ranges fresh_line fresh_sum;
        states = length_eight (replicate (length o.lines) s);
        amounts = length_eight (amounts_of o.lines);
      }

-- an order whose lines all wait stays valid as it is annulled
between_one : (s : ℕ) → (1 ≤ s) × (s ≤ 3) → (was_executed s ≡ true → ⊥) → s ≡ 1
between_one s h n =
    let a : s ≡ 2 → ⊥ = λ q. n (was_2 s q) in
    let b : s ≡ 3 → ⊥ = λ q. n (was_3 s q) in
    omega arith

abbrev annulled : Record → Record
annulled r = record_with (key_of r) annulled_state r.lines r.date r.total r.states r.amounts

module _ (r : Record) (v : Valid r) where
  annulled_ranges : ranges_ok (annulled r) ≡ true
  unfolding ranges_ok
  annulled_ranges =
      let a = both (between 1 2 r.kind) _ (ok_tests r v.ok).0 in
      let b = both (between 1 2 r.state) _ a.1 in
      λ i. a.0 i && b.1 i

  annulled_valid : any_executed r.states ≡ false → Valid (annulled r)
  annulled_valid n = record {
    ok = ok_from (annulled r) annulled_ranges line (ok_sum r v.ok);
    states = v.states;
    amounts = v.amounts;
  }
    where
      line : (k : ℕ) → k < 8 → line_ok (annulled r) k ≡ true
      line k h =
          split k r.lines
          (λ l.
          line_waits (annulled r) k l
          (between_one (get_or r.states k 0) (line_in r k l (ok_line r v.ok k h)) (none_executed r.states k n))
          (ok_amount r v.ok k))
          (λ l. line_absent_lem (annulled r) k l ∙ sym (line_absent_lem r k l) ∙ ok_line r v.ok k h)

-- THE RECORD THAT AN ACCEPTED ORDER LEAVES, in a slot that holds r; a used slot holds its record
module _ (slots year : ℕ) (o : Ordinativo) (rs : List Record) (c : Change) (i : ℕ) (r : Record) (e : judge_order slots year o rs ≡ Ok (c, i)) (held : i < length rs → r ≡ nth rs i) where
  -- a used slot's record is the one with the order's key
  module _ (f : find_in rs 0 (key_for year o) ≡ Some i) where
    held_here : r ≡ nth rs i
    held_here = held (found_below rs (key_for year o) i no_record f)

    held_key : key_of r ≡ key_for year o
    held_key = ap key_of held_here ∙ found_key rs (key_for year o) i no_record f

  -- INSERIMENTO gives the order's key, VARIAZIONE and ANNULLO keep it
  pub written_key : key_of (written year o r c) ≡ key_for year o
  unfolding written
  written_key = go (accepted slots year o rs c i e)
    where
      go : Stands slots year o rs c i → key_of (written year o r c) ≡ key_for year o
      go (inserting p f q l) = rw p
      go (replacing p f q l n) = rw p
      go (varying p f w) = rw p (held_key f)
      go (annulling p f w s) = rw p (held_key f)

  pub written_valid : Writable o → (2000 ≤ year) × (year ≤ 2099) → (i < length rs → Valid r) → Valid (written year o r c)
  unfolding written
  written_valid w y v = go (accepted slots year o rs c i e)
    where
      z : line_code o.lines o.total ≡ 0
      z = accepted_lines slots year o rs c i e

      go : Stands slots year o rs c i → Valid (written year o r c)
      go (inserting p f q l) = rw p (fresh_valid o w z o.kind 1 year o.number 1 (inl refl) w.kind (omega arith, omega arith) y w.number)
      go (replacing p f q l n) = rw p (fresh_valid o w z o.kind 1 year o.number 2 (inr (λ (q : ◌≡◌ {A = ℕ} 1 2). omega arith, refl)) w.kind (omega arith, omega arith) y w.number)
      go (varying p f a) =
          let u = v (found_below rs (key_for year o) i no_record f) in
          let b = ok_bounds r u.ok in
          rw p (fresh_valid o w z r.kind r.state r.esercizio r.number 1 (inl refl) b.kind b.state b.esercizio b.number)
      go (annulling p f a s) =
          let u = v (found_below rs (key_for year o) i no_record f) in
          rw p (annulled_valid r u (ap (λ (x : Record). any_executed x.states) (held_here f) ∙ a.waits))
