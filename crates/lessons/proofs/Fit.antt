-- A TABLE THAT LESSONS START FROM: valid, and no year is closed. (That no body has more than 32 slots only the room's arrays ask.)
use Rattle.std.specs.Prelude.{Result, Ok, Err}
use Prim.Native.Nat.{ℕ}
use mathlib.Core.Path.{◌≡◌, refl, ap}
use mathlib.Core.Bool.{Bool, true, false, cond}
use mathlib.Core.List.{List}
use native.Mathlib.Omega.{arith}
use Rattle.table.specs.Table.{table_ok}
use Rattle.plain.specs.Says.{small, unclosed}
use Rattle.enrolment.specs.declared.EnrolRefusal.{EnrolRefusal}
use Rattle.enrolment.specs.declared.EnrolRefusal.TheVariants.{InvalidTable, TooLarge, YearClosed}
use Rattle.enrolment.specs.Enrolment.{enrols}

pub record Fit (t : List ℕ) : Type 0 where
  pub valid : table_ok t ≡ true
  pub years_open : unclosed t ≡ true

-- ready by three tests
abbrev told : Bool → Bool → Bool → Result Unit EnrolRefusal
told x y z = cond x (cond y (cond z (Ok tt) (Err YearClosed)) (Err TooLarge)) (Err InvalidTable)

abbrev is_ready : Result Unit EnrolRefusal → ℕ
is_ready (Ok tt) = 1
is_ready (Err InvalidTable) = 0
is_ready (Err TooLarge) = 0
is_ready (Err YearClosed) = 0

all_three : (x y z : Bool) → told x y z ≡ Ok tt → (x ≡ true) × (y ≡ true) × (z ≡ true)
all_three true true true e = (refl, refl, refl)
all_three true true false e = absurd (omega (arith, ap is_ready e))
all_three true false z e = absurd (omega (arith, ap is_ready e))
all_three false y z e = absurd (omega (arith, ap is_ready e))

module _ (t : List ℕ) where
  pub ready_fit : enrols t ≡ Ok tt → Fit t × (small t ≡ true)
  ready_fit e = let w = all_three (table_ok t) (small t) (unclosed t) e in (record { valid = w.0; years_open = w.2 }, w.1)

  pub fit_ready : Fit t → small t ≡ true → enrols t ≡ Ok tt
  fit_ready F e = λ i. told (F.valid i) (e i) (F.years_open i)
