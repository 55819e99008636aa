-- "the first TARGET day on or after a date", and "a first TARGET day never falls outside the served years" (document 02, Req 08): what the call's answer is.
use Rattle.std.specs.Prelude.{◌+◌, ◌≤◌, ◌<◌, ◌≡◌, true}
use Rattle.calendar.specs.declared.Date.{Date}
use Rattle.calendar.specs.Calendar.{is_date}
use Rattle.days.specs.Days.{day_number, served}
use Rattle.target_days.specs.Target.{closing, target_code, first_target_day}

-- r is a TARGET day, on or after d, and each date between is a closing day
pub record FirstOpen (d r : Date) : Type 0 where
  pub open_day : target_code r ≡ 0
  pub after : day_number d ≤ day_number r
  pub before : (e : Date) → is_date e ≡ true → day_number d ≤ day_number e → day_number e < day_number r → closing e ≡ true

-- the answer to a date is the first one, no other date is, it comes within four days, and is served
pub record FirstTold (d : Date) : Type 0 where
  pub code : (first_target_day d).code ≡ 0
  pub first : FirstOpen d (first_target_day d).date
  pub alone : (r : Date) → FirstOpen d r → r ≡ (first_target_day d).date
  pub near : day_number (first_target_day d).date ≤ day_number d + 4
  pub inside : served (first_target_day d).date ≡ true

-- of every date of the served years: "a first TARGET day never falls outside the served years". Proved: `first-days : FirstDays` (proofs/First.antt)
abbrev pub FirstDays : Type 0
FirstDays = (d : Date) → served d ≡ true → FirstTold d
