-- The forms that write a date (document 01, "The fields"). A text is taken as it stands in the flow: nothing is trimmed.
use Rattle.std.specs.Prelude.{ℕ, List, Bool, true, false, cond, ◌&&◌, ◌||◌, length, leb, eqb, Option, Some, None}
use Rattle.scan.specs.Bytes.{bytes, byte, byte_at, part, text_is}
use Rattle.calendar.specs.declared.Date.{Date}
use Rattle.calendar.specs.Calendar.{is_date}
use Rattle.digits.specs.Digits.{digits, is_value}

abbrev pub on_date : Date → Option Date
on_date d = cond (is_date d) (Some d) None

-- the date that three numbers write, real or not
abbrev pub day_of : Option ℕ → Option ℕ → Option ℕ → Option Date
day_of (Some y) (Some m) (Some d) = Some (record { year = y; month = m; day = d })
day_of (Some y) (Some m) None = None
day_of (Some y) None d = None
day_of None m d = None

-- YYYY-MM-DD: the date that it writes, real or not
abbrev pub data_written : List ℕ → Option Date
data_written t =
    cond (eqb (length t) 10 && (eqb (byte_at t 4) (byte "-") && eqb (byte_at t 7) (byte "-")))
    (day_of (digits 4 4 (part t 0 4)) (digits 2 2 (part t 5 7)) (digits 2 2 (part t 8 10)))
    None

-- a date is written, and one of which f holds
abbrev pub is_on : Option Date → Bool
is_on (Some d) = true
is_on None = false

abbrev pub day_is : (Date → Bool) → Option Date → Bool
day_is f (Some d) = f d
day_is f None = false

abbrev pub real : Option Date → Option Date
real (Some d) = on_date d
real None = None

-- data: YYYY-MM-DD, a real Gregorian date, years 2000 to 2099
unfoldable pub data_of : List ℕ → Option Date
data_of t = real (data_written t)

-- hh 00 to 23, mm and ss 00 to 59
unfoldable pub clock : Option ℕ → Option ℕ → Option ℕ → Bool
clock (Some h) (Some m) (Some s) = leb h 23 && (leb m 59 && leb s 59)
clock (Some h) (Some m) None = false
clock (Some h) None s = false
clock None m s = false

-- the length of YYYY-MM-DDThh:mm:ss, and what stands before its three numbers of a time
unfoldable pub signs : List ℕ → Bool
signs t = eqb (length t) 19 && (eqb (byte_at t 10) (byte "T") && (eqb (byte_at t 13) (byte ":") && eqb (byte_at t 16) (byte ":")))

abbrev pub date_in : List ℕ → List ℕ
date_in t = part t 0 10

-- what f says of these three, each of two digits
abbrev pub time_in : (Option ℕ → Option ℕ → Option ℕ → Bool) → List ℕ → Bool
time_in f t = f (digits 2 2 (part t 11 13)) (digits 2 2 (part t 14 16)) (digits 2 2 (part t 17 19))

abbrev pub are_numbers : Option ℕ → Option ℕ → Option ℕ → Bool
are_numbers h m s = is_value h && (is_value m && is_value s)

-- YYYY-MM-DDThh:mm:ss, whatever date and time it writes
unfoldable pub data_ora_written : List ℕ → Bool
data_ora_written t = signs t && (is_on (data_written (date_in t)) && time_in are_numbers t)

-- "the date as under data below, hh 00 to 23, mm and ss 00 to 59"
unfoldable pub data_ora_within : List ℕ → Bool
data_ora_within t = is_on (data_of (date_in t)) && time_in clock t

-- data_ora_creazione_flusso: YYYY-MM-DDThh:mm:ss, of such a date and time
unfoldable pub data_ora : List ℕ → Bool
data_ora t = data_ora_written t && data_ora_within t

-- A TIME WITH A ZONE (document 02, Req 01): "times are as there with Z or a sign and hh:mm to 23:59"
abbrev pub is_sign : ℕ → Bool
is_sign b = eqb b (byte "+") || eqb b (byte "-")

-- a sign, hh:mm's length and colon
unfoldable pub zone_signs : List ℕ → Bool
zone_signs z = eqb (length z) 6 && (is_sign (byte_at z 0) && eqb (byte_at z 3) (byte ":"))

-- Z, or a sign and hh:mm of which f holds
unfoldable pub zona_by : (Option ℕ → Option ℕ → Option ℕ → Bool) → List ℕ → Bool
zona_by f z = text_is (bytes "Z") z || (zone_signs z && f (digits 2 2 (part z 1 3)) (digits 2 2 (part z 4 6)) (Some 0))

-- the time, and what follows it
abbrev pub before_zone : List ℕ → List ℕ
before_zone t = part t 0 19

abbrev pub zone_in : List ℕ → List ℕ
zone_in t = part t 19 (length t)

unfoldable pub data_ora_zona : List ℕ → Bool
data_ora_zona t = data_ora (before_zone t) && zona_by clock (zone_in t)

-- its form, whatever it writes, and its range
unfoldable pub data_ora_zona_written : List ℕ → Bool
data_ora_zona_written t = data_ora_written (before_zone t) && zona_by are_numbers (zone_in t)

unfoldable pub data_ora_zona_within : List ℕ → Bool
data_ora_zona_within t = data_ora_within (before_zone t) && zona_by clock (zone_in t)
