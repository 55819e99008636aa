-- The number of days between two dates is the number of days that one has to count.
use mathlib.Core.Path.{◌≡◌, refl, sym, ap, subst, ◌∙◌}
use mathlib.Core.Bool.{Bool, true, false, cond}
use mathlib.Core.Logic.{◌⊎◌, inl, inr}
use Prim.Native.Nat.{ℕ, zero, suc, ◌+◌, ◌-◌, ◌≤◌}
use native.Mathlib.Omega.{arith}
use borrow.Author.Tests.{leb-true, leb-false, ltb-true, ltb-false}
use lib.Dec.{leb, ltb}
use lib.IntN.{ℤ, pos, negsuc, ◌-ℤ◌}
use Rattle.calendar.specs.declared.Date.{Date}
use Rattle.calendar.specs.Calendar.{is_date}
use Rattle.calendar.proofs.Laws.{date_ranges}
use Rattle.days.specs.Days.{month_of, day_number, date_by, next_day, served, days_between}
use Rattle.days.specs.Counting.{days_on, Takes, on, back, Counting, CountedDays}
use Rattle.days.proofs.Laws.{start_mono, start_1200, number_least, number_most, one_date, next_number, next_real, served_date, both_served}

-- PAST THE TABLE there is no way back
late_next : (d : Date) → 2100 ≤ d.year → 2100 ≤ (next_day d).year
unfolding next_day
late_next d h = go (is_date (date_by d.year d.month (d.day + 1))) (is_date (date_by d.year (d.month + 1) 1))
  where
    go : (x y : Bool) → 2100 ≤ (cond x (date_by d.year d.month (d.day + 1)) (cond y (date_by d.year (d.month + 1) 1) (date_by (d.year + 1) 1 1))).year
    go true y = h
    go false true = h
    go false false = omega arith

late_on : (n : ℕ) (d : Date) → 2100 ≤ d.year → 2100 ≤ (days_on n d).year
unfolding days_on
late_on zero d h = h
late_on (suc n) d h = late_on n (next_day d) (late_next d h)

not_late : (d : Date) → is_date d ≡ true → 2100 ≤ d.year → ⊥
not_late d r h = let y = (date_ranges d r).year.1 in omega arith

-- N DAYS ON are n numbers on, where a date is reached
pub on_number : (n : ℕ) (a : Date) → is_date a ≡ true → is_date (days_on n a) ≡ true → day_number (days_on n a) ≡ day_number a + n
unfolding days_on
on_number zero a r s = omega arith
on_number (suc n) a r s = go (next_real a r) (λ k. on_number n (next_day a) k s)
  where
    go : (is_date (next_day a) ≡ true) ⊎ (2100 ≤ (next_day a).year) → (is_date (next_day a) ≡ true → day_number (days_on n (next_day a)) ≡ day_number (next_day a) + n)
        → day_number (days_on n (next_day a)) ≡ day_number a + suc n
    go (inl k) f = let q = next_number a r in let g = f k in omega arith
    go (inr l) f = absurd (not_late (days_on n (next_day a)) s (late_on n (next_day a) l))

late_number : (d : Date) → 2100 ≤ d.year → 36525 ≤ day_number d
unfolding month_of
late_number d h = omega (arith, start_mono 1200 (month_of d) (omega arith), start_1200, number_least d)

-- and a date that many numbers on is reached
pub reached : (n : ℕ) (a b : Date) → is_date a ≡ true → is_date b ≡ true → day_number b ≡ day_number a + n → days_on n a ≡ b
unfolding days_on
reached zero a b r s e = one_date a b r s (omega arith)
reached (suc n) a b r s e = go (next_real a r) (λ k q. reached n (next_day a) b k s q)
  where
    go : (is_date (next_day a) ≡ true) ⊎ (2100 ≤ (next_day a).year) → (is_date (next_day a) ≡ true → day_number b ≡ day_number (next_day a) + n → days_on n (next_day a) ≡ b)
        → days_on n (next_day a) ≡ b
    go (inl k) f = let q = next_number a r in f k (omega arith)
    go (inr l) f = absurd (omega (arith, late_number (next_day a) l, next_number a r, number_most b s))

-- THE SIGNED DIFFERENCE
more : (a n : ℕ) → pos (a + n) -ℤ pos a ≡ pos n
more zero n = ap pos (omega arith)
more (suc a) n = go (ltb (suc a + n) (suc a)) refl
  where
    go : (x : Bool) → ltb (suc a + n) (suc a) ≡ x → cond x (negsuc (suc a - suc (suc a + n))) (pos (suc a + n - suc a)) ≡ pos n
    go true e = let l = ltb-true (suc a + n) (suc a) e in absurd (omega arith)
    go false e = ap pos (omega arith)

fewer : (a n : ℕ) → pos a -ℤ pos (a + suc n) ≡ negsuc n
fewer a n = go (a + suc n) (omega arith)
  where
    by : (b : ℕ) → suc b ≡ a + suc n → (x : Bool) → ltb a (suc b) ≡ x → cond x (negsuc (suc b - suc a)) (pos (a - suc b)) ≡ negsuc n
    by b q true e = ap negsuc (omega arith)
    by b q false e = let l = ltb-false a (suc b) e in absurd (omega arith)

    go : (c : ℕ) → c ≡ a + suc n → pos a -ℤ pos c ≡ negsuc n
    go zero q = absurd (omega arith)
    go (suc b) q = by b q (ltb a (suc b)) refl

-- COUNTING
module _ (a b : Date) (h : served a ≡ true) (k : served b ≡ true) where
  told : days_between a b ≡ record { code = 0; days = pos (day_number b) -ℤ pos (day_number a) }
  told = sym (both_served a b h k refl)

  later : (n : ℕ) → day_number b ≡ day_number a + n → (days_between a b).days ≡ pos n
  later n q = ap (λ r. r.days) told ∙ ap (λ m. pos m -ℤ pos (day_number a)) q ∙ more (day_number a) n

  earlier : (n : ℕ) → day_number a ≡ day_number b + suc n → (days_between a b).days ≡ negsuc n
  earlier n q = ap (λ r. r.days) told ∙ ap (λ m. pos (day_number b) -ℤ pos m) q ∙ fewer (day_number b) n

  count : (x : Bool) → leb (day_number a) (day_number b) ≡ x → Takes a b (days_between a b).days
  count true e =
      let l = leb-true (day_number a) (day_number b) e in
      let n = day_number b - day_number a in
      let q : day_number b ≡ day_number a + n = omega arith in
      subst (Takes a b) (sym (later n q)) (on (reached n a b (served_date a h).1 (served_date b k).1 q))
  count false e =
      let l = leb-false (day_number a) (day_number b) e in
      let n = day_number a - suc (day_number b) in
      let q : day_number a ≡ day_number b + suc n = omega arith in
      subst (Takes a b) (sym (earlier n q)) (back (reached (suc n) b a (served_date b k).1 (served_date a h).1 q))

  only : (z : ℤ) → Takes a b z → z ≡ (days_between a b).days
  only z (on {n} e) =
      let s = subst (λ d. is_date d ≡ true) (sym e) (served_date b k).1 in
      sym (later n (ap day_number (sym e) ∙ on_number n a (served_date a h).1 s))
  only z (back {n} e) =
      let s = subst (λ d. is_date d ≡ true) (sym e) (served_date a h).1 in
      sym (earlier n (ap day_number (sym e) ∙ on_number (suc n) b (served_date b k).1 s))

  pub counting : Counting a b
  counting = record { code = ap (λ r. r.code) told; takes = count (leb (day_number a) (day_number b)) refl; alone = only }

pub counted_days : CountedDays
counted_days = counting
