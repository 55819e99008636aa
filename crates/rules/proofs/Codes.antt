-- An order's code as the code takes it (specs/Inner) is the rules': what a search told gives the same ruling.
use Rattle.std.specs.Prelude.{Result, Some, None, Ok, Err}
use Prim.Native.Nat.{ℕ, zero, suc, ◌≤◌, ◌<◌}
use mathlib.Core.Path.{◌≡◌, refl, sym, ap, ◌∙◌}
use mathlib.Core.Bool.{Bool, true, false, cond}
use mathlib.Core.List.{List}
use native.Mathlib.Omega.{arith}
use lib.ListN.{length}
use lib.Dec.{eqb, ltb}
use borrow.Author.Tests.{ltb-true, lt-ltb, le-ltb}
use Rattle.order.specs.Ordinativo.{Ordinativo}
use Rattle.record.specs.declared.Record.{Record}
use Rattle.record.specs.Slot.{acquired_state}
use Rattle.replacing.specs.Replacing.{namings, first_code, replace_code}
use Rattle.rules.specs.declared.Situation.{Situation}
use Rattle.rules.specs.declared.Situation.TheVariants.{Absent, Annulled, Waiting, Executed}
use Rattle.rules.specs.declared.Change.{Change}
use Rattle.rules.specs.declared.Change.TheVariants.{Insert, Vary, Annul, Replace}
use Rattle.slots.specs.Slots.{nth}
use Rattle.rules.specs.Rules.{any_executed, situation_in, situation_of, row, step_code, key_for, same_order, first_empty, placed, unless, stepped, record_of, written}
use Rattle.rules.specs.Inner.{meant_code, record_code, names_code, absent_code, new_state}

-- a code that isn't 0 comes first
pub first_stops : (code next : ℕ) → (code ≡ 0 → ⊥) → first_code code next ≡ code
first_stops zero next h = absurd (h refl)
first_stops (suc code) next h = refl

pub unless_stops : {A : Type 0} (refuse : ℕ → A) (code : ℕ) (next : A) → (code ≡ 0 → ⊥) → unless refuse code next ≡ refuse code
unless_stops refuse zero next h = absurd (h refl)
unless_stops refuse (suc code) next h = refl

-- THE RECORD IS THERE, at index i
module _ (slots : ℕ) (o : Ordinativo) (rs : List Record) (i : ℕ) where
  -- a new order whose key is there is 14
  there : (c : Change) (next : Result (Change × ℕ) ℕ) → unless Err (step_code Insert (situation_in (nth rs i))) next ≡ unless Err (first_code (step_code Insert (situation_in (nth rs i))) 0) (Ok (c, i))
  unfolding situation_in
  there c next = go (eqb (nth rs i).state 2) (any_executed (nth rs i).states)
    where
      go : (a b : Bool) → unless Err (row 0 14 14 14 (cond a Annulled (cond b Executed Waiting))) next
          ≡ unless Err (first_code (row 0 14 14 14 (cond a Annulled (cond b Executed Waiting))) 0) (Ok (c, i))
      go true b = refl
      go false true = refl
      go false false = refl

  pub stepped_at : (c : Change) → stepped slots o rs c (Some i) ≡ unless Err (record_code c o (nth rs i)) (Ok (c, i))
  unfolding stepped placed situation_of situation_in
  stepped_at Insert = there Insert (first_empty Insert slots rs)
  stepped_at Replace = there Replace (unless Err (replace_code rs (namings o)) (first_empty Replace slots rs))
  stepped_at Vary = go (eqb (nth rs i).state 2) (any_executed (nth rs i).states)
    where
      go : (a b : Bool) → unless {A = Result (Change × ℕ) ℕ} Err (row 16 17 0 18 (cond a Annulled (cond b Executed Waiting))) (Ok (Vary, i))
          ≡ unless {A = Result (Change × ℕ) ℕ} Err (first_code (row 16 17 0 18 (cond a Annulled (cond b Executed Waiting))) 0) (Ok (Vary, i))
      go true b = refl
      go false true = refl
      go false false = refl
  stepped_at Annul = go (eqb (nth rs i).state 2) (any_executed (nth rs i).states) (same_order o (nth rs i))
    where
      go : (a b s : Bool) → unless {A = Result (Change × ℕ) ℕ} Err (row 16 17 0 18 (cond a Annulled (cond b Executed Waiting))) (cond {A = Result (Change × ℕ) ℕ} s (Ok (Annul, i)) (Err 19))
          ≡ unless {A = Result (Change × ℕ) ℕ} Err (first_code (row 16 17 0 18 (cond a Annulled (cond b Executed Waiting))) (cond s 0 19)) (Ok (Annul, i))
      go true b s = refl
      go false true s = refl
      go false false true = refl
      go false false false = refl

-- NO RECORD IS ITS OWN: the first empty slot comes after the last of them
module _ (slots : ℕ) (o : Ordinativo) (rs : List Record) where
  empty_is : (c : Change) → first_empty c slots rs ≡ unless Err (cond (ltb (length rs) slots) 0 15) (Ok (c, (length rs)))
  empty_is c = go (ltb (length rs) slots)
    where
      go : (b : Bool) → cond {A = Result (Change × ℕ) ℕ} b (Ok (c, (length rs))) (Err 15) ≡ unless {A = Result (Change × ℕ) ℕ} Err (cond b 0 15) (Ok (c, (length rs)))
      go true = refl
      go false = refl

  pub stepped_none : (c : Change) → stepped slots o rs c None ≡ unless Err (absent_code c (names_code c o rs) (length rs) slots) (Ok (c, (length rs)))
  unfolding stepped placed situation_of
  stepped_none Insert = empty_is Insert
  stepped_none Vary = refl
  stepped_none Annul = refl
  stepped_none Replace = go (replace_code rs (namings o))
    where
      go : (n : ℕ) → unless Err n (first_empty Replace slots rs) ≡ unless Err (first_code n (cond (ltb (length rs) slots) 0 15)) (Ok (Replace, (length rs)))
      go zero = empty_is Replace
      go (suc n) = refl

-- an order that no record refuses is new, its named lines stand, and it goes into a slot that there is
room : (named n slots : ℕ) → first_code named (cond (ltb n slots) 0 15) ≡ 0 → (named ≡ 0) × (n < slots)
room (suc named) n slots e = absurd (omega arith)
room zero n slots e = go (ltb n slots) refl e
  where
    go : (b : Bool) → ltb n slots ≡ b → ◌≡◌ {A = ℕ} (cond b 0 15) 0 → (zero ≡ zero) × (n < slots)
    go true h z = (refl, ltb-true n slots h)
    go false h z = absurd (omega arith)

pub record New (c : Change) (named n slots : ℕ) : Type 0 where
  pub state : (o : Ordinativo) (year : ℕ) (r : Record) → written year o r c ≡ record_of (key_for year o) acquired_state (new_state c) o
  pub names : named ≡ 0
  pub low : n < slots

pub absent_zero : (c : Change) (named n slots : ℕ) → absent_code c named n slots ≡ 0 → New c named n slots
unfolding written
absent_zero Insert named n slots e = let w = room named n slots e in record { state = λ o year r. refl; names = w.0; low = w.1 }
absent_zero Replace named n slots e = let w = room named n slots e in record { state = λ o year r. refl; names = w.0; low = w.1 }
absent_zero Vary named n slots e = absurd (omega arith)
absent_zero Annul named n slots e = absurd (omega arith)
