-- What a real date's numbers are, which the crates above rely on where they keep one in bytes.
use mathlib.Core.Path.{◌≡◌}
use mathlib.Core.Bool.{Bool, true, false, cond, ◌||◌}
use Prim.Native.Nat.{ℕ, ◌≤◌}
use native.Mathlib.Omega.{arith}
use lib.Dec.{eqb}
use Rattle.scan.specs.Bytes.{between}
use Rattle.scan.proofs.Laws.{both, in_range}
use Rattle.calendar.specs.declared.Date.{Date}
use Rattle.calendar.specs.Calendar.{leap, month_length, is_date}

pub month_at_most : (y m : ℕ) → month_length y m ≤ 31
unfolding month_length
month_at_most y m = go (eqb m 2) (leap y) (eqb m 4 || (eqb m 6 || (eqb m 9 || eqb m 11)))
  where
    go : (a b c : Bool) → cond a (cond b 29 28) (cond c 30 31) ≤ 31
    go true true c = omega arith
    go true false c = omega arith
    go false b true = omega arith
    go false b false = omega arith

pub month_at_least : (y m : ℕ) → 28 ≤ month_length y m
unfolding month_length
month_at_least y m = go (eqb m 2) (leap y) (eqb m 4 || (eqb m 6 || (eqb m 9 || eqb m 11)))
  where
    go : (a b c : Bool) → 28 ≤ cond a (cond b 29 28) (cond c 30 31)
    go true true c = omega arith
    go true false c = omega arith
    go false b true = omega arith
    go false b false = omega arith

pub record Ranges (d : Date) : Type 0 where
  pub year : (2000 ≤ d.year) × (d.year ≤ 2099)
  pub month : (1 ≤ d.month) × (d.month ≤ 12)
  pub day : (1 ≤ d.day) × (d.day ≤ 31)

pub date_ranges : (d : Date) → is_date d ≡ true → Ranges d
unfolding is_date
date_ranges d e =
    let a = both (between 2000 2099 d.year) _ e in
    let b = both (between 1 12 d.month) (between 1 (month_length d.year d.month) d.day) a.1 in
    let m = in_range 1 (month_length d.year d.month) d.day b.1 in
    let l = month_at_most d.year d.month in
    record { year = in_range 2000 2099 d.year a.0; month = in_range 1 12 d.month b.0; day = (m.0, omega arith) }
