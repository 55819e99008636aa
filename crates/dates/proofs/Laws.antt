-- Laws of dates and times.
use Rattle.std.specs.Prelude.{Option, Some, None}
use mathlib.Core.Path.{◌≡◌, refl}
use mathlib.Core.List.{List}
use mathlib.Core.Bool.{Bool, true, false, cond, ◌&&◌, ◌||◌}
use Prim.Native.Nat.{ℕ, ◌-◌, ◌≤◌, ◌<◌}
use native.Mathlib.Omega.{arith}
use lib.ListN.{length, drop, length-take, length-drop}
use lib.Dec.{eqb}
use borrow.Author.Tests.{eq-eqb, ne_eqb, eqb-true}
use Rattle.scan.specs.Bytes.{bytes, byte_at, part, has_at, text_is}
use Rattle.scan.proofs.Laws.{both}
use Rattle.calendar.specs.declared.Date.{Date}
use Rattle.calendar.specs.Calendar.{is_date}
use Rattle.digits.specs.Digits.{digits}
use Rattle.dates.specs.Inner.{ora_by, ora_zona_by}
use Rattle.dates.specs.Dates.{data_written, data_of, day_of, real, clock, is_on, signs, date_in, time_in, are_numbers, data_ora_written, data_ora_within, data_ora, zone_signs, zona_by, before_zone, zone_in, data_ora_zona, data_ora_zona_written, data_ora_zona_within}

-- a date
module _ (t : List ℕ) (l : length t ≡ 10) (a : byte_at t 4 ≡ 45) where
  pub data_day : {y m d : Option ℕ} → byte_at t 7 ≡ 45 → y ≡ digits 4 4 (part t 0 4) → m ≡ digits 2 2 (part t 5 7) → d ≡ digits 2 2 (part t 8 10) → data_written t ≡ day_of y m d
  data_day b ey em ed = rw (eq-eqb (length t) 10 l, eq-eqb (byte_at t 4) 45 a, eq-eqb (byte_at t 7) 45 b, ey, em, ed)

-- a date and a time
pub signs_length : (t : List ℕ) → (length t ≡ 19 → ⊥) → signs t ≡ false
unfolding signs
signs_length t h = rw (ne_eqb (length t) 19 h)

pub signs_19 : (t : List ℕ) → signs t ≡ true → length t ≡ 19
unfolding signs
signs_19 t e = go (eqb (length t) 19) _ refl e
  where
    go : (b x : Bool) → eqb (length t) 19 ≡ b → b && x ≡ true → length t ≡ 19
    go true x f e = eqb-true (length t) 19 f
    go false x f e = let z : ◌≡◌ {A = ℕ} 0 1 = cc in absurd (omega arith)

-- what is real is written
real_written : (d : Option Date) → is_on (real d) ≡ true → is_on d ≡ true
real_written (Some d) e = refl
real_written None e = e

data_written_lem : (t : List ℕ) → is_on (data_of t) ≡ true → is_on (data_written t) ≡ true
unfolding data_of
data_written_lem t = real_written (data_written t)

clock_written : (h m s : Option ℕ) → clock h m s ≡ true → are_numbers h m s ≡ true
unfolding clock
clock_written (Some h) (Some m) (Some s) e = refl
clock_written (Some h) (Some m) None e = e
clock_written (Some h) None s e = e
clock_written None m s e = e

-- form and range together: the range says that the numbers are there
both_ways : (s w n r c : Bool) → (r ≡ true → w ≡ true) → (c ≡ true → n ≡ true) → (s && (w && n)) && (r && c) ≡ s && (r && c)
both_ways false w n r c f g = refl
both_ways true true true r c f g = refl
both_ways true true false true true f g = g refl
both_ways true true false true false f g = refl
both_ways true true false false c f g = refl
both_ways true false n true c f g = absurd (let e = f refl in let z : ◌≡◌ {A = ℕ} 0 1 = cc in omega arith)
both_ways true false n false c f g = refl

pub ora_both : (t : List ℕ) → data_ora t ≡ signs t && (is_on (data_of (date_in t)) && time_in clock t)
unfolding data_ora data_ora_written data_ora_within
ora_both t = both_ways (signs t) _ _ _ _ (data_written_lem (date_in t)) (clock_written _ _ _)

-- how long a text of a form is
pub data_10 : (t : List ℕ) → is_on (data_written t) ≡ true → length t ≡ 10
data_10 t e = go (eqb (length t) 10) _ _ refl e
  where
    go : (b x : Bool) (d : Option Date) → eqb (length t) 10 ≡ b → is_on (cond (b && x) d None) ≡ true → length t ≡ 10
    go true x d f e = eqb-true (length t) 10 f
    go false x d f e = let z : ◌≡◌ {A = ℕ} 0 1 = cc in absurd (omega arith)

pub ora_19 : (t : List ℕ) → data_ora_written t ≡ true → length t ≡ 19
unfolding data_ora_written
ora_19 t e = signs_19 t (both (signs t) _ e).0

-- a date that a field gives is a real one
pub data_real : (t : List ℕ) {d : Date} → data_of t ≡ Some d → is_date d ≡ true
unfolding data_of
data_real t {d} = go (data_written t)
  where
    no : {A : Type 0} → ◌≡◌ {A = Option Date} (None) (Some d) → A
    no e = let z : ◌≡◌ {A = ℕ} 0 1 = cc in absurd (omega arith)

    on : (x : Date) (b : Bool) → is_date x ≡ b → cond b (Some x) None ≡ Some d → is_date d ≡ true
    on x true f e = let z : x ≡ d = cc in rw z at f
    on x false f e = no e

    go : (x : Option Date) → real x ≡ Some d → is_date d ≡ true
    go (Some x) e = on x (is_date x) refl e
    go None e = no e

-- a zone
pub zone_6 : (z : List ℕ) → zone_signs z ≡ true → length z ≡ 6
unfolding zone_signs
zone_6 z e = eqb-true (length z) 6 (both (eqb (length z) 6) _ e).0

-- a zone of numbers in their range is one of numbers
zona_written : (z : List ℕ) → zona_by clock z ≡ true → zona_by are_numbers z ≡ true
unfolding zona_by
zona_written z = go (text_is (bytes "Z") z) (zone_signs z) _ _ (clock_written (digits 2 2 (part z 1 3)) (digits 2 2 (part z 4 6)) (Some 0))
  where
    go : (b s c n : Bool) → (c ≡ true → n ≡ true) → b || (s && c) ≡ true → b || (s && n) ≡ true
    go true s c n h e = refl
    go false true c n h e = h e
    go false false c n h e = e

-- form and range together
zoned : (w r n c : Bool) → (c ≡ true → n ≡ true) → (w && r) && c ≡ (w && n) && (r && c)
zoned false r n c h = refl
zoned true r true c h = refl
zoned true true false true h = let e = h refl in let z : ◌≡◌ {A = ℕ} 0 1 = cc in absurd (omega arith)
zoned true true false false h = refl
zoned true false false c h = refl

pub zona_both : (t : List ℕ) → data_ora_zona t ≡ data_ora_zona_written t && data_ora_zona_within t
unfolding data_ora data_ora_zona data_ora_zona_written data_ora_zona_within
zona_both t = zoned (data_ora_written (before_zone t)) (data_ora_within (before_zone t)) _ _ (zona_written (zone_in t))

-- how long a zone is, and a time with one
pub zone_long : (f : Option ℕ → Option ℕ → Option ℕ → Bool) (z : List ℕ) → zona_by f z ≡ true → length z ≤ 6
unfolding zona_by text_is
zone_long f z = go (text_is (bytes "Z") z) refl
  where
    go : (b : Bool) → text_is (bytes "Z") z ≡ b → b || (zone_signs z && f (digits 2 2 (part z 1 3)) (digits 2 2 (part z 4 6)) (Some 0)) ≡ true → length z ≤ 6
    go true e h = let l = eqb-true (length z) 1 (both (eqb (length z) 1) (has_at (bytes "Z") z 0) e).0 in omega arith
    go false e h = let l = zone_6 z (both (zone_signs z) _ h).0 in omega arith

pub ora_zona_long : (t : List ℕ) → data_ora_zona_written t ≡ true → (19 ≤ length t) × (length t ≤ 25)
unfolding data_ora_zona_written
ora_zona_long t e =
    let b = both (data_ora_written (before_zone t)) (zona_by are_numbers (zone_in t)) e in
    let l = ora_19 (before_zone t) b.0 in
    let k = zone_long are_numbers (zone_in t) b.1 in
    let u = length-take 19 t in
    let v = length-take (length t - 19) (drop 19 t) in
    let w = length-drop 19 t in
    (omega arith, omega arith)

-- a text too short for a time
pub short : (real : Bool) (t : List ℕ) → length t < 19 → ora_zona_by real t ≡ false
unfolding ora_by ora_zona_by
short real t h = let l = length-take 19 t in rw (signs_length (before_zone t) (λ e. omega arith))

-- a time with a zone, both real
pub zona_real : (t : List ℕ) → data_ora_zona t ≡ ora_zona_by true t
unfolding data_ora_zona ora_by ora_zona_by
zona_real t = rw (ora_both (before_zone t))
