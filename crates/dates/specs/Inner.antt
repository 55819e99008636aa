-- What the functions of this crate tell each other: a test of what is real, or else of what is written. The promises speak of none of it.
use Rattle.std.specs.Prelude.{ℕ, List, Bool, true, false, ◌&&◌, Option}
use Rattle.dates.specs.Dates.{data_written, data_of, clock, is_on, signs, date_in, time_in, are_numbers, zona_by, before_zone, zone_in}

abbrev pub is_day : Bool → List ℕ → Bool
is_day true t = is_on (data_of t)
is_day false t = is_on (data_written t)

abbrev pub is_time : Bool → Option ℕ → Option ℕ → Option ℕ → Bool
is_time true h m s = clock h m s
is_time false h m s = are_numbers h m s

unfoldable pub ora_by : Bool → List ℕ → Bool
ora_by real t = signs t && (is_day real (date_in t) && time_in (is_time real) t)

unfoldable pub ora_zona_by : Bool → List ℕ → Bool
ora_zona_by real t = ora_by real (before_zone t) && zona_by (is_time real) (zone_in t)
