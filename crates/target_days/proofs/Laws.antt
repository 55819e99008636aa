-- Laws of closing days and of the first TARGET day, a way out of the code at a time.
use mathlib.Core.Path.{◌≡◌, refl, ap}
use mathlib.Core.Bool.{Bool, true, false, cond}
use Prim.Native.Nat.{ℕ, zero, suc, ◌+◌, ◌-◌, ◌≤◌, ◌<◌}
use native.Mathlib.Omega.{arith}
use borrow.Author.Tests.{eq-eqb, ne_eqb}
use lib.Dec.{eqb}
use Rattle.calendar.specs.declared.Date.{Date}
use Rattle.calendar.specs.Calendar.{is_date}
use Rattle.calendar.proofs.Laws.{Ranges}
use Rattle.days.specs.Days.{next_day, served}
use Rattle.days.proofs.Laws.{placed, served_date}
use Rattle.target_days.specs.Target.{march_day, closing, target_code, first_from}

pub march_most : (m d : ℕ) → d ≤ 31 → march_day m d ≤ 62
unfolding march_day
march_most m d h = go (eqb m 3) (eqb m 4)
  where
    go : (a b : Bool) → cond a d (cond b (31 + d) 0) ≤ 62
    go true b = omega arith
    go false true = omega arith
    go false false = omega arith

-- A SERVED DATE that closes, or not
pub record Served (d : Date) : Type 0 where
  pub real : is_date d ≡ true
  pub from : 2002 ≤ d.year
  pub ranges : Ranges d

pub served_real : (d : Date) → served d ≡ true → Served d
served_real d s = let r = served_date d s in record { real = r.1; from = r.0; ranges = (placed d r.1).ranges }

module _ (d : Date) where
  pub code_28 : served d ≡ true → closing d ≡ true → 28 ≡ target_code d
  unfolding target_code
  code_28 h k = rw (h, k)

  pub code_0 : served d ≡ true → closing d ≡ false → 0 ≡ target_code d
  unfolding target_code
  code_0 h k = rw (h, k)

  -- 28 is given to served dates alone
  pub code_served : target_code d ≡ 28 → served d ≡ true
  unfolding target_code
  code_served e = go (served d) (closing d) refl e
    where
      go : (a b : Bool) → served d ≡ a → ◌≡◌ {A = ℕ} (cond a (cond b 28 0) 27) 28 → served d ≡ true
      go true b q z = q
      go false b q z = absurd (omega arith)

  -- THE WALK
  pub first_stop : (n : ℕ) → (target_code d ≡ 28 → ⊥) → first_from n d ≡ d
  unfolding first_from
  first_stop zero h = refl
  first_stop (suc n) h = rw (ne_eqb (target_code d) 28 h)

  pub first_step : (n : ℕ) → 0 < n → target_code d ≡ 28 → first_from n d ≡ first_from (n - 1) (next_day d)
  unfolding first_from
  first_step zero l h = absurd (omega arith)
  first_step (suc n) l h = let q : n ≡ suc n - 1 = omega arith in rw (eq-eqb (target_code d) 28 h) (ap (λ (k : ℕ). first_from k (next_day d)) q)
