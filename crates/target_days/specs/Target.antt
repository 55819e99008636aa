-- TARGET days (document 02, Req 08): "no Saturday, Sunday, 1 January, Good Friday, Easter Monday, 1 May, 25 or 26 December. Years 2002 to 2099 are served."
use Rattle.std.specs.Prelude.{ℕ, zero, suc, ◌+◌, ◌≡◌, Bool, cond, ◌&&◌, ◌||◌, eqb}
use Rattle.calendar.specs.declared.Date.{Date}
use Rattle.days.specs.Days.{day_number, weekday, next_day, served, date_by}
use Rattle.target_days.specs.declared.FirstDay.{FirstDay}
use Rattle.target_days.specs.Easter.{easter}

-- Sunday and Saturday
unfoldable pub weekend : ℕ → Bool
weekend w = eqb w 0 || eqb w 6

-- 1 January, 1 May, 25 and 26 December
unfoldable pub fixed_closing : ℕ → ℕ → Bool
fixed_closing m d = cond (eqb m 1 || eqb m 5) (eqb d 1) (eqb m 12 && (eqb d 25 || eqb d 26))

-- a day of March, counted on into April; 0 for the other months
unfoldable pub march_day : ℕ → ℕ → ℕ
march_day m d = cond (eqb m 3) d (cond (eqb m 4) (31 + d) 0)

-- a date with its day number n in a year whose Easter Sunday is e is a closing day: Good Friday is two days before e, Easter Monday the day after
unfoldable pub closes_on : Date → ℕ → ℕ → Bool
closes_on d n e =
    weekend (weekday n)
    || (fixed_closing d.month d.day
    || (eqb (march_day d.month d.day + 2) e || eqb (march_day d.month d.day) (e + 1)))

unfoldable pub closing : Date → Bool
closing d = closes_on d (day_number d) (easter d.year)

-- "Refusals: 27 no date or outside the years, 28 closing day"
unfoldable pub target_code : Date → ℕ
target_code d = cond (served d) (cond (closing d) 28 0) 27

-- the first of a date and the days after it that is no closing day, with at most n steps
unfoldable pub first_from : ℕ → Date → Date
first_from zero d = d
first_from (suc n) d = cond (eqb (target_code d) 28) (first_from n (next_day d)) d

-- "the first TARGET day on or after a date", 27 with zeros: four steps are enough, and it is a TARGET day of the served years, the first (crate first_target)
abbrev pub first_told : ℕ → Date → FirstDay
first_told c d = record { code = c; date = d }

unfoldable pub first_target_day : Date → FirstDay
first_target_day d = cond (served d) (first_told 0 (first_from 4 d)) (first_told 27 (date_by 0 0 0))

-- THE PROMISE of the call, which has no table and no buffer
abbrev pub FirstPromise : Date → FirstDay → Type 0
FirstPromise d r = r ≡ first_target_day d
