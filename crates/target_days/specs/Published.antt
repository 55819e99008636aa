-- Why to believe `easter`: two published rules of computation agree with it in every year of 2000 to 2099 (proofs/Easter.antt). No promise rests on them.
use Rattle.std.specs.Prelude.{ℕ, ◌+◌, ◌-◌, ◌*◌, ◌/◌, ◌%◌, ◌≤◌, ◌<◌, ◌≡◌, cond, ◌&&◌, ◌||◌, ltb, eqb}
use Rattle.days.specs.Days.{day_number, weekday, date_by}
use Rattle.target_days.specs.Easter.{full_moon, easter}

-- the full moon by the epact e, 0 to 29, the moon's age on 1 January: the new moon's 14th day, on or after 21 March, with the two exceptions for
-- the epacts 24 and 25 (C. Clavius 1603; D. E. Knuth, The Art of Computer Programming 1, 1.3.2, exercise 14)
unfoldable pub moon_of_epact : ℕ → ℕ → ℕ
moon_of_epact golden e = moved (44 - (e + cond (eqb e 24 || (eqb e 25 && ltb 11 golden)) 1 0))
  where
    moved : ℕ → ℕ
    moved n = cond (ltb n 21) (n + 30) n

unfoldable pub moon_by_epact : ℕ → ℕ
moon_by_epact y = moon_of_epact (y % 19 + 1) ((11 * (y % 19 + 1) + 20 + ((8 * (y / 100 + 1) + 5) / 25 - 5) - (3 * (y / 100 + 1) / 4 - 12)) % 30)

-- Easter Sunday by the rule in Butcher's Ecclesiastical Calendar (1876; J. Meeus, Astronomical Algorithms, chapter 8)
unfoldable pub butcher_end : ℕ → ℕ → ℕ → ℕ
butcher_end a h l = h + l + 22 - 7 * ((a + 11 * h + 22 * l) / 451)

unfoldable pub butcher_mid : ℕ → ℕ → ℕ → ℕ → ℕ
butcher_mid a b c h = butcher_end a h ((32 + 2 * (b % 4) + 2 * (c / 4) - h - c % 4) % 7)

unfoldable pub butcher : ℕ → ℕ
butcher y = butcher_mid (y % 19) (y / 100) (y % 100) ((19 * (y % 19) + y / 100 - y / 100 / 4 - (y / 100 - (y / 100 + 8) / 25 + 1) / 3 + 15) % 30)

-- the day e of March is the first Sunday after the full moon, where 1 March has the day number s
pub record FirstSunday (s moon e : ℕ) : Type 0 where
  pub sunday : weekday (s + (e - 1)) ≡ 0
  pub after : moon < e
  pub before : (n : ℕ) → moon < n → n < e → weekday (s + (n - 1)) ≡ 0 → ⊥

-- of a year, whose full moons are those of 21 March to 18 April
pub record Agreed (y : ℕ) : Type 0 where
  pub moon : moon_by_epact y ≡ full_moon y
  pub equinox : (21 ≤ full_moon y) × (full_moon y ≤ 49)
  pub sunday : FirstSunday (day_number (date_by y 3 1)) (full_moon y) (easter y)
  pub rule : butcher y ≡ easter y

-- of every year of the table. Proved: `all-agreed : AllAgreed` (proofs/Easter.antt)
abbrev pub AllAgreed : Type 0
AllAgreed = (y : ℕ) → 2000 ≤ y → y ≤ 2099 → Agreed y
