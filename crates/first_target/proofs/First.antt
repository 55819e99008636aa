-- THE FIRST TARGET DAY on or after any date of the served years is one of the served years, at most four days on, and there is none between.
use mathlib.Core.Path.{◌≡◌, refl, sym, ap, subst, ◌∙◌}
use mathlib.Core.Bool.{Bool, true, false, cond, not, ◌&&◌, ◌||◌}
use Prim.Native.Nat.{ℕ, zero, suc, ◌+◌, ◌-◌, ◌≤◌, ◌<◌}
use native.Mathlib.Omega.{arith}
use borrow.Author.Tests.{eq-eqb, eqb-true, eqb-false, leb-true, leb-false}
use lib.Dec.{T, eqb, leb}
use Rattle.calendar.specs.declared.Date.{Date}
use Rattle.calendar.specs.Calendar.{leap, month_length, is_date}
use Rattle.days.specs.Days.{length_at, month_start, month_of, day_number, weekday, date_by, next_day, served}
use Rattle.days.proofs.Table.{TBoth}
use Rattle.days.proofs.Laws.{one_date, next_number, number_first, number_most}
use Rattle.target_days.specs.Published.{butcher, butcher_mid, butcher_end}
use Rattle.target_days.specs.Target.{weekend, fixed_closing, march_day, closes_on, closing, target_code, first_from, first_target_day}
use Rattle.first_target.specs.First.{FirstOpen, FirstDays}
use Rattle.target_days.proofs.Easter.{by_butcher}
use Rattle.target_days.proofs.Laws.{served_real, code_28, code_0, first_stop}

-- THE TEST: from the date d of day number n, at most f days on, a day that is no closing day, and only served dates on the way
soon : ℕ → Date → ℕ → Bool
soon zero d n = served d && not (closes_on d n (butcher d.year))
soon (suc f) d n = served d && (not (closes_on d n (butcher d.year)) || soon f (next_day d) (suc n))

-- from c days in a row
walk : ℕ → Date → ℕ → Bool
walk zero d n = true
walk (suc c) d n = soon 4 d n && walk c (next_day d) (suc n)

-- at each of the 35,794 days of 2002 to 2099, fourteen years at a time, which takes a quarter of the memory that it takes at once
days_2002 : T (walk 5113 (date_by 2002 1 1) 731)
unfolding walk soon closes_on weekend fixed_closing march_day butcher butcher_mid butcher_end next_day weekday served is_date month_length leap
days_2002 = tt

days_2016 : T (walk 5114 (date_by 2016 1 1) 5844)
unfolding walk soon closes_on weekend fixed_closing march_day butcher butcher_mid butcher_end next_day weekday served is_date month_length leap
days_2016 = tt

days_2030 : T (walk 5113 (date_by 2030 1 1) 10958)
unfolding walk soon closes_on weekend fixed_closing march_day butcher butcher_mid butcher_end next_day weekday served is_date month_length leap
days_2030 = tt

days_2044 : T (walk 5114 (date_by 2044 1 1) 16071)
unfolding walk soon closes_on weekend fixed_closing march_day butcher butcher_mid butcher_end next_day weekday served is_date month_length leap
days_2044 = tt

days_2058 : T (walk 5113 (date_by 2058 1 1) 21185)
unfolding walk soon closes_on weekend fixed_closing march_day butcher butcher_mid butcher_end next_day weekday served is_date month_length leap
days_2058 = tt

days_2072 : T (walk 5114 (date_by 2072 1 1) 26298)
unfolding walk soon closes_on weekend fixed_closing march_day butcher butcher_mid butcher_end next_day weekday served is_date month_length leap
days_2072 = tt

days_2086 : T (walk 5113 (date_by 2086 1 1) 31412)
unfolding walk soon closes_on weekend fixed_closing march_day butcher butcher_mid butcher_end next_day weekday served is_date month_length leap
days_2086 = tt

T_true : (b : Bool) → T b → b ≡ true
T_true true t = refl
T_true false t = absurd t

soon_served : (f : ℕ) (d : Date) (n : ℕ) → T (soon f d n) → served d ≡ true
unfolding soon
soon_served zero d n t = T_true (served d) (TBoth (served d) _ t).0
soon_served (suc f) d n t = T_true (served d) (TBoth (served d) _ t).0

each_day : (c : ℕ) (d : Date) → T (walk c d (day_number d)) → (e : Date) → is_date e ≡ true → day_number d ≤ day_number e → day_number e < day_number d + c → T (soon 4 e (day_number e))
unfolding walk
each_day zero d t e r h k = absurd (omega arith)
each_day (suc c) d t e r h k =
    let b = TBoth (soon 4 d (day_number d)) (walk c (next_day d) (suc (day_number d))) t in
    let s = (served_real d (soon_served 4 d (day_number d) b.0)).real in
    let q = next_number d s in
    go (eqb (day_number d) (day_number e)) refl s b.0 (λ l. each_day c (next_day d) (rw q b.1) e r (omega arith) (omega arith))
  where
    go : (x : Bool) → eqb (day_number d) (day_number e) ≡ x → is_date d ≡ true → T (soon 4 d (day_number d)) → (day_number d < day_number e → T (soon 4 e (day_number e))) → T (soon 4 e (day_number e))
    go true z s u g = subst (λ (i : Date). T (soon 4 i (day_number i))) (one_date d e s r (eqb-true _ _ z)) u
    go false z s u g = let w = eqb-false (day_number d) (day_number e) z in g (omega arith)

-- from 1 January of the year y on, which has the day number n
part : (y c n : ℕ) → T (walk c (date_by y 1 1) n) → n ≡ day_number (date_by y 1 1) → (d : Date) → is_date d ≡ true → n ≤ day_number d → day_number d < n + c → T (soon 4 d (day_number d))
part y c n t q d r h k = each_day c (date_by y 1 1) (subst (λ (m : ℕ). T (walk c (date_by y 1 1) m)) q t) d r (omega arith) (omega arith)

split : {A : Type 0} (x n : ℕ) → (x < n → A) → (n ≤ x → A) → A
split {A} x n f g = go (leb n x) refl
  where
    go : (b : Bool) → leb n x ≡ b → A
    go true e = g (leb-true n x e)
    go false e = f (leb-false n x e)

every_day : (d : Date) → served d ≡ true → T (soon 4 d (day_number d))
unfolding day_number month_of month_start length_at month_length leap
every_day d s =
    let r = (served_real d s).real in
    let a = number_first d s in
    let z = number_most d r in
    split (day_number d) 5844 (λ l. part 2002 5113 731 days_2002 refl d r (omega arith) (omega arith)) (λ g.
    split (day_number d) 10958 (λ l. part 2016 5114 5844 days_2016 refl d r (omega arith) (omega arith)) (λ g.
    split (day_number d) 16071 (λ l. part 2030 5113 10958 days_2030 refl d r (omega arith) (omega arith)) (λ g.
    split (day_number d) 21185 (λ l. part 2044 5114 16071 days_2044 refl d r (omega arith) (omega arith)) (λ g.
    split (day_number d) 26298 (λ l. part 2058 5113 21185 days_2058 refl d r (omega arith) (omega arith)) (λ g.
    split (day_number d) 31412 (λ l. part 2072 5114 26298 days_2072 refl d r (omega arith) (omega arith)) (λ g.
    part 2086 5113 31412 days_2086 refl d r (omega arith) (omega arith)))))))

-- what the test tests is the definition's closing day
closing_is : (d : Date) → served d ≡ true → closes_on d (day_number d) (butcher d.year) ≡ closing d
unfolding closing
closing_is d s = let r = (served_real d s).ranges.year in ap (closes_on d (day_number d)) (by_butcher d.year r.0 r.1)

-- an open day is its own first
here : (f : ℕ) (d : Date) → served d ≡ true → closing d ≡ false → FirstOpen d (first_from f d) × (day_number (first_from f d) ≤ day_number d + f)
here f d s e =
    let c = code_0 d s e in
    let q = first_stop d f (λ z. let x = c ∙ z in omega arith) in
    rw q (record { open_day = sym c; after = omega arith; before = λ b r h k. absurd (omega arith) }, omega arith)

-- a closing day's first is that of the day after
past : (d r : Date) → is_date d ≡ true → closing d ≡ true → FirstOpen (next_day d) r → FirstOpen d r
past d r s k w =
    let q = next_number d s in
    let a = w.after in
    record { open_day = w.open_day; after = omega arith; before = λ e p h l. go e p l (eqb (day_number d) (day_number e)) refl h (w.before e p) }
  where
    go : (e : Date) → is_date e ≡ true → day_number e < day_number r → (x : Bool) → eqb (day_number d) (day_number e) ≡ x → day_number d ≤ day_number e
        → (day_number (next_day d) ≤ day_number e → day_number e < day_number r → closing e ≡ true) → closing e ≡ true
    go e p l true z h g = ap closing (sym (one_date d e s p (eqb-true (day_number d) (day_number e) z))) ∙ k
    go e p l false z h g = let y = eqb-false (day_number d) (day_number e) z in let q = next_number d s in g (omega arith) l

TOpen : (b : Bool) → T (not b) → b ≡ false
TOpen true t = absurd t
TOpen false t = refl

TOn : (b x : Bool) → b ≡ true → T (not b || x) → T x
TOn true x e t = t
TOn false x e t = let z : ◌≡◌ {A = ℕ} 0 1 = cc in absurd (omega arith)

on : (f : ℕ) (d : Date) → target_code d ≡ 28 → first_from (suc f) d ≡ first_from f (next_day d)
unfolding first_from
on f d h = rw (eq-eqb (target_code d) 28 h)

found : (f : ℕ) (d : Date) → T (soon f d (day_number d)) → FirstOpen d (first_from f d) × (day_number (first_from f d) ≤ day_number d + f)
unfolding soon
found zero d t =
    let s = soon_served 0 d (day_number d) t in
    let u = (TBoth (served d) (not (closes_on d (day_number d) (butcher d.year))) t).1 in
    here 0 d s (sym (closing_is d s) ∙ TOpen _ u)
found (suc f) d t = go (closing d) refl (found f (next_day d))
  where
    s : served d ≡ true
    s = soon_served (suc f) d (day_number d) t

    go : (x : Bool) → closing d ≡ x
        → (T (soon f (next_day d) (day_number (next_day d))) → FirstOpen (next_day d) (first_from f (next_day d)) × (day_number (first_from f (next_day d)) ≤ day_number (next_day d) + f))
        → FirstOpen d (first_from (suc f) d) × (day_number (first_from (suc f) d) ≤ day_number d + suc f)
    go false e g = here (suc f) d s e
    go true e g =
        let r = (served_real d s).real in
        let q = next_number d r in
        let u = (TBoth (served d) (not (closes_on d (day_number d) (butcher d.year)) || soon f (next_day d) (suc (day_number d))) t).1 in
        let v = TOn (closes_on d (day_number d) (butcher d.year)) (soon f (next_day d) (suc (day_number d))) (closing_is d s ∙ e) u in
        let w = g (subst (λ (n : ℕ). T (soon f (next_day d) n)) (sym q) v) in
        let l = w.1 in
        rw (on f d (sym (code_28 d s e))) (past d (first_from f (next_day d)) r e w.0, omega arith)

-- of every date of the served years
pub first_is : (d : Date) → served d ≡ true → FirstOpen d (first_from 4 d)
first_is d s = (found 4 d (every_day d s)).0

pub first_near : (d : Date) → served d ≡ true → day_number (first_from 4 d) ≤ day_number d + 4
first_near d s = (found 4 d (every_day d s)).1

-- it falls in the served years: what gets the code 0 does
pub open_served : (r : Date) → target_code r ≡ 0 → served r ≡ true
unfolding target_code
open_served r e = go (served r) (closing r) refl e
  where
    go : (a b : Bool) → served r ≡ a → ◌≡◌ {A = ℕ} (cond a (cond b 28 0) 27) 0 → served r ≡ true
    go true b q z = q
    go false b q z = absurd (omega arith)

pub first_served : (d : Date) → served d ≡ true → served (first_from 4 d) ≡ true
first_served d s = open_served (first_from 4 d) (first_is d s).open_day

-- and there is no other
not_after : (d a b : Date) → FirstOpen d a → FirstOpen d b → day_number b ≤ day_number a
not_after d a b f g = go (leb (day_number b) (day_number a)) refl
  where
    go : (x : Bool) → leb (day_number b) (day_number a) ≡ x → day_number b ≤ day_number a
    go true e = leb-true (day_number b) (day_number a) e
    go false e =
        let s = open_served a f.open_day in
        let k = g.before a (served_real a s).real f.after (leb-false (day_number b) (day_number a) e) in
        let z = code_28 a s k ∙ f.open_day in
        absurd (omega arith)

pub first_one : (d a b : Date) → FirstOpen d a → FirstOpen d b → a ≡ b
first_one d a b f g =
    let x = not_after d a b f g in
    let y = not_after d b a g f in
    let r = (served_real a (open_served a f.open_day)).real in
    let q = (served_real b (open_served b g.open_day)).real in
    one_date a b r q (omega arith)

-- THE ANSWER of the call
told_served : (d : Date) → served d ≡ true → first_target_day d ≡ record { code = 0; date = first_from 4 d }
unfolding first_target_day
told_served d s = rw s refl

pub first_days : FirstDays
first_days d s =
    let q = told_served d s in
    let e : (first_target_day d).date ≡ first_from 4 d = ap (λ r. r.date) q in
    record {
      code = ap (λ r. r.code) q;
      first = subst (FirstOpen d) (sym e) (first_is d s);
      alone = λ r f. first_one d r (first_from 4 d) f (first_is d s) ∙ sym e;
      near = subst (λ r. day_number r ≤ day_number d + 4) (sym e) (first_near d s);
      inside = ap served e ∙ first_served d s;
    }
