-- Days known from outside: Easter Sundays, and the closing days of 2021.
use mathlib.Core.Path.{◌≡◌, refl}
use Rattle.calendar.specs.Calendar.{leap, month_length, is_date}
use Rattle.days.specs.Days.{length_at, month_start, month_of, day_number, weekday, date_by, next_day, served}
use Rattle.target_days.specs.Easter.{paschal, full_moon, sunday_after, easter}
use Rattle.target_days.specs.Target.{weekend, fixed_closing, march_day, closes_on, closing, target_code, first_from}

-- 23 March 2008, the earliest; 25 April 2038, the latest; 18 April 2049 and 19 April 2076, where Gauss's rule has its exceptions
pub easters : (easter 2008 ≡ 23) × ((easter 2038 ≡ 56) × ((easter 2049 ≡ 49) × (easter 2076 ≡ 50)))
unfolding easter sunday_after full_moon paschal weekday day_number month_of month_start length_at month_length leap
easters = (refl, (refl, (refl, refl)))

-- Good Friday, 2 April 2021, and Easter Monday, 5 April; 6 April is the first TARGET day; 25 April, a Sunday; 2 June is open
pub codes : (target_code (date_by 2021 4 2) ≡ 28) × ((target_code (date_by 2021 4 5) ≡ 28) × ((target_code (date_by 2021 4 25) ≡ 28) × (target_code (date_by 2021 6 2) ≡ 0)))
unfolding target_code served is_date closing closes_on weekend fixed_closing march_day easter sunday_after full_moon paschal weekday day_number month_of month_start length_at month_length leap
codes = (refl, (refl, (refl, refl)))

pub first : first_from 4 (date_by 2021 4 2) ≡ date_by 2021 4 6
unfolding first_from next_day target_code served is_date closing closes_on weekend fixed_closing march_day easter sunday_after full_moon paschal weekday day_number month_of month_start length_at month_length leap
first = refl

-- 2001 is outside the years
pub outside : target_code (date_by 2001 12 31) ≡ 27
unfolding target_code served
outside = refl
