-- What the number of days between two dates means, beside the numbers: one counts so many days on from the earlier date and comes to the later one.
use Rattle.std.specs.Prelude.{ℕ, zero, suc, ◌≡◌, true, ℤ, pos, negsuc}
use Rattle.calendar.specs.declared.Date.{Date}
use Rattle.days.specs.Days.{next_day, served, days_between}

-- n days on from a date
unfoldable pub days_on : ℕ → Date → Date
days_on zero d = d
days_on (suc n) d = days_on n (next_day d)

-- from a to b it takes so many days: on, or back, which is below zero ("below zero when the second is earlier")
pub data Takes (a b : Date) : ℤ → Type 0 where
  on : {n : ℕ} → days_on n a ≡ b → Takes a b (pos n)
  back : {n : ℕ} → days_on (suc n) b ≡ a → Takes a b (negsuc n)

-- the call's answer to two dates is how many days it takes, and no other number is
pub record Counting (a b : Date) : Type 0 where
  pub code : (days_between a b).code ≡ 0
  pub takes : Takes a b (days_between a b).days
  pub alone : (z : ℤ) → Takes a b z → z ≡ (days_between a b).days

-- of any two dates that are served. Proved: `counted-days : CountedDays` (proofs/Counting.antt)
abbrev pub CountedDays : Type 0
CountedDays = (a b : Date) → served a ≡ true → served b ≡ true → Counting a b
