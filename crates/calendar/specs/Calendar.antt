-- Real dates (document 01, "The fields", data: a real Gregorian date, years 2000 to 2099).
use Rattle.std.specs.Prelude.{ℕ, ◌%◌, Bool, cond, not, ◌&&◌, ◌||◌, eqb}
use Rattle.scan.specs.Bytes.{between}
use Rattle.bounds.specs.Bounds.{is_year}
use Rattle.calendar.specs.declared.Date.{Date}

-- a year that 4 divides, and not 100 unless 400 does
unfoldable pub leap : ℕ → Bool
leap y = eqb (y % 4) 0 && (not (eqb (y % 100) 0) || eqb (y % 400) 0)

-- how many days a month has
unfoldable pub month_length : ℕ → ℕ → ℕ
month_length y m =
    cond (eqb m 2) (cond (leap y) 29 28)
    (cond (eqb m 4 || (eqb m 6 || (eqb m 9 || eqb m 11))) 30 31)

-- a real Gregorian date of the years 2000 to 2099
unfoldable pub is_date : Date → Bool
is_date d = is_year d.year && (between 1 12 d.month && between 1 (month_length d.year d.month) d.day)
