-- Easter Sunday by the definition and by the published rules: the same in every year of 2000 to 2099, by computing.
use mathlib.Core.Path.{◌≡◌, refl, ap, ◌∙◌}
use mathlib.Core.Bool.{Bool, true, false, not, ◌&&◌, ◌||◌}
use Prim.Native.Nat.{ℕ, zero, suc, ◌+◌, ◌-◌, ◌*◌, ◌/◌, ◌%◌, ◌≤◌, ◌<◌}
use native.Mathlib.Omega.{arith}
use lib.Dec.{T, leb, eqb, eqb→eq, leb→le}
use borrow.Author.Tests.{eqb-true, eqb-false}
use Rattle.calendar.specs.Calendar.{leap, month_length}
use Rattle.days.specs.Days.{length_at, month_start, month_of, day_number, weekday, date_by}
use Rattle.days.proofs.Table.{TBoth, all_starts, each_start}
use Rattle.target_days.specs.Easter.{paschal, full_moon, sunday_after, easter}
use Rattle.target_days.specs.Published.{moon_of_epact, moon_by_epact, butcher_end, butcher_mid, butcher, FirstSunday, AllAgreed}

-- THE FIRST SUNDAY AFTER the full moon
pub first_sunday : (s moon : ℕ) → 1 ≤ moon → FirstSunday s moon (sunday_after s moon)
unfolding sunday_after weekday
first_sunday s moon h = record { sunday = omega arith; after = omega arith; before = λ n a b z. omega arith }

-- BUTCHER'S RULE: at every March of the table
agrees : ℕ → ℕ → Bool
agrees k s = not (eqb (k % 12) 2) || eqb (butcher (2000 + k / 12)) (sunday_after s (full_moon (2000 + k / 12)))

all_agree : T (all_starts agrees 1200 0 0)
unfolding agrees all_starts length_at month_length leap weekday paschal full_moon sunday_after butcher butcher_mid butcher_end
all_agree = tt

pub by_butcher : (y : ℕ) → 2000 ≤ y → y ≤ 2099 → butcher y ≡ easter y
unfolding agrees easter month_of day_number
by_butcher y h k =
    let t = each_start agrees 1200 all_agree (12 * (y - 2000) + 2) (omega arith) in
    let w : (12 * (y - 2000) + 2) % 12 ≡ 2 = omega arith in
    let q : 2000 + (12 * (y - 2000) + 2) / 12 ≡ y = omega arith in
    let s = month_start (12 * (y - 2000) + 2) in
    let z : s ≡ s + 0 = omega arith in
    eqb→eq (butcher y) (sunday_after s (full_moon y)) (rw (w, q) at t) ∙ ap (λ (n : ℕ). sunday_after n (full_moon y)) z

-- THE EPACT
below : (f : ℕ → Bool) → ℕ → Bool
below f zero = true
below f (suc n) = f n && below f n

each_below : (f : ℕ → Bool) (n : ℕ) → T (below f n) → (k : ℕ) → k < n → T (f k)
unfolding below
each_below f zero t k h = absurd (omega arith)
each_below f (suc n) t k h = go (eqb k n) refl (each_below f n (TBoth (f n) (below f n) t).1 k)
  where
    go : (b : Bool) → eqb k n ≡ b → (k < n → T (f k)) → T (f k)
    go true e g = let q = eqb-true k n e in rw q (TBoth (f n) (below f n) t).0
    go false e g = let q = eqb-false k n e in g (omega arith)

moon_right : ℕ → Bool
moon_right j = eqb (moon_by_epact (2000 + j)) (full_moon (2000 + j)) && (leb 21 (full_moon (2000 + j)) && leb (full_moon (2000 + j)) 49)

moons_right : T (below moon_right 100)
unfolding moon_right below paschal full_moon moon_by_epact moon_of_epact
moons_right = tt

moon : (y : ℕ) → 2000 ≤ y → y ≤ 2099 → T (moon_right (y - 2000))
moon y h k = each_below moon_right 100 moons_right (y - 2000) (omega arith)

pub by_epact : (y : ℕ) → 2000 ≤ y → y ≤ 2099 → moon_by_epact y ≡ full_moon y
unfolding moon_right
by_epact y h k =
    let q : 2000 + (y - 2000) ≡ y = omega arith in
    eqb→eq _ _ (TBoth (eqb (moon_by_epact y) (full_moon y)) (leb 21 (full_moon y) && leb (full_moon y) 49) (rw q at (moon y h k))).0

-- "on or after 21 March", and at most 18 April
pub moon_range : (y : ℕ) → 2000 ≤ y → y ≤ 2099 → (21 ≤ full_moon y) × (full_moon y ≤ 49)
unfolding moon_right
moon_range y h k =
    let q : 2000 + (y - 2000) ≡ y = omega arith in
    let t = (TBoth (eqb (moon_by_epact y) (full_moon y)) (leb 21 (full_moon y) && leb (full_moon y) 49) (rw q at (moon y h k))).1 in
    let u = TBoth (leb 21 (full_moon y)) (leb (full_moon y) 49) t in
    (leb→le 21 (full_moon y) u.0, leb→le (full_moon y) 49 u.1)

-- EASTER is the first Sunday after the full moon, from 22 March to 25 April
pub all_agreed : AllAgreed
unfolding easter
all_agreed y h k =
    let r = moon_range y h k in
    record {
      moon = by_epact y h k;
      equinox = r;
      sunday = first_sunday (day_number (date_by y 3 1)) (full_moon y) (omega arith);
      rule = by_butcher y h k;
    }

pub easter_most : (y : ℕ) → 2000 ≤ y → y ≤ 2099 → (22 ≤ easter y) × (easter y ≤ 56)
unfolding easter sunday_after weekday
easter_most y h k = let r = moon_range y h k in (omega arith, omega arith)
