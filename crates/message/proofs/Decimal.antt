-- Numbers written out read back as themselves, and are plain text.
use Rattle.std.specs.Prelude.{Option, Some, None}
use mathlib.Core.Path.{◌≡◌, refl, sym, ap, ◌∙◌}
use mathlib.Core.List.{List, [], ◌∷◌, ◌++◌}
use mathlib.Core.Bool.{Bool, true, false, cond, not, ◌&&◌, ◌||◌, and-false}
use Prim.Native.Nat.{ℕ, zero, suc, ◌+◌, ◌*◌, ◌-◌, ◌/◌, ◌%◌, ◌≤◌, ◌<◌}
use native.Mathlib.Omega.{arith}
use lib.ListN.{length, get_or, take, drop, length-append}
use lib.Seq.{take_at, drop_at, get_or-append-add}
use lib.Dec.{eqb, leb}
use borrow.Author.Tests.{eq-eqb, ne_eqb, le-leb, lt-leb, leb-true, leb-false}
use Rattle.scan.specs.Bytes.{bytes, byte_at, part, between, is_digit, all}
use Rattle.scan.proofs.Laws.{both, in_range}
use Rattle.bounds.specs.Bounds.{is_year, is_numero, max_cents}
use Rattle.calendar.specs.declared.Date.{Date}
use Rattle.calendar.specs.Calendar.{leap, month_length, is_date}
use Rattle.tokens.specs.Tokens.{is_plain}
use Rattle.grammar.specs.Grammar.{Text}
use Rattle.digits.specs.Digits.{within, digits_after, digits, esercizio, numero, importo, codice_errore, is_refusal}
use Rattle.digits.specs.Inner.{zero_first}
use Rattle.digits.proofs.Laws.{p10, whole, cents, digits_within, importo_cents, refusal_in}
use Rattle.dates.specs.Dates.{data_of, real}
use Rattle.dates.proofs.Laws.{data_day}
use Rattle.tree.proofs.Laid.{plain, plain_text}
use Rattle.pen.specs.Decimal.{digit, fixed, decimal_by, decimal, amount, dated}

-- ONE DIGIT
digit_is : (n : ℕ) → is_digit (digit n) ≡ true
unfolding is_digit
digit_is n = rw (le-leb 48 (digit n) (omega arith), le-leb (digit n) 57 (omega arith))

never : {n : ℕ} {A : Type 0} → ◌≡◌ {A = Option ℕ} (None) (Some n) → A
never e = let z : ◌≡◌ {A = ℕ} 0 1 = cc in absurd (omega arith)

-- one more digit
after_one : (t : List ℕ) (v m d : ℕ) → digits_after v t ≡ Some m → digits_after v (t ++ (digit d ∷ [])) ≡ Some (m * 10 + d % 10)
unfolding digits_after
after_one [] v m d e = let z : v ≡ m = cc in let y : v * 10 + (digit d - 48) ≡ m * 10 + d % 10 = omega arith in rw (digit_is d, y)
after_one (b ∷ t) v m d e = go (is_digit b) e (after_one t (v * 10 + (b - 48)) m d)
  where
    go : (k : Bool) → cond k (digits_after (v * 10 + (b - 48)) t) None ≡ Some m → (digits_after (v * 10 + (b - 48)) t ≡ Some m → digits_after (v * 10 + (b - 48)) (t ++ (digit d ∷ [])) ≡ Some (m * 10 + d % 10))
        → cond k (digits_after (v * 10 + (b - 48)) (t ++ (digit d ∷ []))) None ≡ Some (m * 10 + d % 10)
    go true f ih = ih f
    go false f ih = never f

one_digit : (n : ℕ) → n ≤ 9 → digits_after 0 (digit n ∷ []) ≡ Some n
unfolding digits_after
one_digit n h = let y : 0 * 10 + (digit n - 48) ≡ n = omega arith in rw (digit_is n, y)

-- FIXED WIDTH
pub fixed_length : (w n : ℕ) → length (fixed w n) ≡ w
fixed_length zero n = refl
fixed_length (suc w) n = length-append (fixed w (n / 10)) (digit n ∷ []) ∙ (let i = fixed_length w (n / 10) in omega arith)

fixed_value : (w n : ℕ) → n < p10 w → digits_after 0 (fixed w n) ≡ Some n
unfolding digits_after p10
fixed_value zero n h = let z : 0 ≡ n = omega arith in ap Some z
fixed_value (suc w) n h =
    let i = after_one (fixed w (n / 10)) 0 (n / 10) n (fixed_value w (n / 10) (omega arith)) in
    let z : n / 10 * 10 + n % 10 ≡ n = omega arith in
    i ∙ ap Some z

pub fixed_digits : (w n : ℕ) → n < p10 w → digits w w (fixed w n) ≡ Some n
fixed_digits w n h = let l = fixed_length w n in digits_within w w (fixed w n) (omega arith) (omega arith) ∙ fixed_value w n h

-- WITHOUT LEADING ZEROS
decimal_value : (w n : ℕ) → n < p10 (suc w) → digits_after 0 (decimal_by w n) ≡ Some n
unfolding decimal_by p10
decimal_value zero n h = one_digit n (omega arith)
decimal_value (suc w) n h = go (leb n 9) refl (decimal_value w (n / 10) (omega arith))
  where
    go : (b : Bool) → leb n 9 ≡ b → digits_after 0 (decimal_by w (n / 10)) ≡ Some (n / 10) → digits_after 0 (cond b (digit n ∷ []) (decimal_by w (n / 10) ++ (digit n ∷ []))) ≡ Some n
    go true e i = one_digit n (leb-true n 9 e)
    go false e i = let z : n / 10 * 10 + n % 10 ≡ n = omega arith in after_one (decimal_by w (n / 10)) 0 (n / 10) n i ∙ ap Some z

pub decimal_length : (w k n : ℕ) → n < p10 (suc k) → (1 ≤ length (decimal_by w n)) × (length (decimal_by w n) ≤ suc k)
unfolding decimal_by p10
decimal_length zero k n h = (omega arith, omega arith)
decimal_length (suc w) k n h = go (leb n 9) refl k h (decimal_length w)
  where
    go : (b : Bool) → leb n 9 ≡ b → (k : ℕ) → n < p10 (suc k) → ((k m : ℕ) → m < p10 (suc k) → (1 ≤ length (decimal_by w m)) × (length (decimal_by w m) ≤ suc k))
        → (1 ≤ length (cond b (digit n ∷ []) (decimal_by w (n / 10) ++ (digit n ∷ [])))) × (length (cond b (digit n ∷ []) (decimal_by w (n / 10) ++ (digit n ∷ []))) ≤ suc k)
    go true e k h ih = (omega arith, omega arith)
    go false e zero h ih = let z = leb-false n 9 e in absurd (omega arith)
    go false e (suc k) h ih =
        let l = length-append (decimal_by w (n / 10)) (digit n ∷ []) in
        let i = ih k (n / 10) (omega arith) in
        let a = i.0 in
        let b = i.1 in
        (omega arith, omega arith)

head_append : (x y : List ℕ) → 1 ≤ length x → get_or (x ++ y) 0 0 ≡ get_or x 0 0
head_append [] y h = absurd (omega arith)
head_append (b ∷ x) y h = refl

-- the first digit of a number that isn't 0 isn't 0
decimal_front : (w n : ℕ) → 1 ≤ n → n < p10 (suc w) → get_or (decimal_by w n) 0 0 ≡ 48 → ⊥
unfolding decimal_by p10
decimal_front zero n l h e = omega arith
decimal_front (suc w) n l h e = go (leb n 9) refl e (decimal_front w (n / 10))
  where
    go : (b : Bool) → leb n 9 ≡ b → get_or (cond b (digit n ∷ []) (decimal_by w (n / 10) ++ (digit n ∷ []))) 0 0 ≡ 48 → (1 ≤ n / 10 → n / 10 < p10 (suc w) → get_or (decimal_by w (n / 10)) 0 0 ≡ 48 → ⊥) → ⊥
    go true f e ih = let z = leb-true n 9 f in omega arith
    go false f e ih =
        let z = leb-false n 9 f in
        let i = (decimal_length w w (n / 10) (omega arith)).0 in
        ih (omega arith) (omega arith) (sym (head_append (decimal_by w (n / 10)) (digit n ∷ []) i) ∙ e)

-- NUMBERS
p10_9 : p10 9 ≡ 1000000000
unfolding p10
p10_9 = refl

p10_7 : p10 7 ≡ 10000000
unfolding p10
p10_7 = refl

p10_4 : p10 4 ≡ 10000
unfolding p10
p10_4 = refl

p10_2 : p10 2 ≡ 100
unfolding p10
p10_2 = refl

within_is : (f : ℕ → Bool) (n : ℕ) (x : Option ℕ) → x ≡ Some n → f n ≡ true → within f x ≡ Some n
within_is f n x e h = rw (e, h)

pub numero_decimal : (n : ℕ) → is_numero n ≡ true → numero (decimal n) ≡ Some n
unfolding numero decimal
numero_decimal n h =
    let r = in_range 1 9999999 n h in
    let u = r.1 in
    let p = p10_7 in
    let q = p10_9 in
    let k = decimal_length 8 6 n (omega arith) in
    let a = k.0 in
    let b = k.1 in
    within_is is_numero n (digits 1 7 (decimal_by 8 n)) (digits_within 1 7 (decimal_by 8 n) a b ∙ decimal_value 8 n (omega arith)) h

pub esercizio_fixed : (n : ℕ) → is_year n ≡ true → esercizio (fixed 4 n) ≡ Some n
unfolding esercizio
esercizio_fixed n h = let r = in_range 2000 2099 n h in let u = r.1 in let p = p10_4 in within_is is_year n (digits 4 4 (fixed 4 n)) (fixed_digits 4 n (omega arith)) h

pub code_fixed : (n : ℕ) → is_refusal n ≡ true → codice_errore (fixed 2 n) ≡ Some n
unfolding codice_errore
code_fixed n h = let r = refusal_in n h in let u = r.1 in let p = p10_2 in within_is is_refusal n (digits 2 2 (fixed 2 n)) (fixed_digits 2 n (omega arith)) h

-- AMOUNTS
small : (w n : ℕ) → n ≤ 9 → decimal_by w n ≡ digit n ∷ []
unfolding decimal_by
small zero n h = refl
small (suc w) n h = rw (le-leb n 9 h)

no_zero : (n : ℕ) → n ≤ max_cents → zero_first (decimal_by 8 (n / 100) ++ (bytes "." ++ fixed 2 (n % 100))) ≡ false
unfolding zero_first
no_zero n h = go (leb (n / 100) 9) refl
  where
    go : (b : Bool) → leb (n / 100) 9 ≡ b → zero_first (decimal_by 8 (n / 100) ++ (bytes "." ++ fixed 2 (n % 100))) ≡ false
    go true e = rw (small 8 (n / 100) (leb-true (n / 100) 9 e)) (and-false (eqb (digit (n / 100)) 48))
    go false e =
        let z = leb-false (n / 100) 9 e in
        let p = p10_9 in
        let a = (decimal_length 8 8 (n / 100) (omega arith)).0 in
        let w = decimal_by 8 (n / 100) in
        let f = head_append w (bytes "." ++ fixed 2 (n % 100)) a in
        let g = ne_eqb (get_or w 0 0) 48 (decimal_front 8 (n / 100) (omega arith) (omega arith)) in
        rw (f, g)

pub importo_amount : (n : ℕ) → n ≤ max_cents → importo (amount n) ≡ Some n
unfolding amount decimal
importo_amount n h =
    let w = decimal_by 8 (n / 100) in
    let c = fixed 2 (n % 100) in
    let t = w ++ (bytes "." ++ c) in
    let p = p10_9 in
    let q = p10_2 in
    let k = decimal_length 8 8 (n / 100) (omega arith) in
    let a = k.0 in
    let b = k.1 in
    let l : length t ≡ length w + 3 = length-append w (bytes "." ++ c) in
    let x : byte_at t (length t - 3) ≡ 46 = let z : length t - 3 ≡ length w + 0 = omega arith in rw z (get_or-append-add w (bytes "." ++ c) 0 0) in
    let y : part t 0 (length t - 3) ≡ w = take_at w (bytes "." ++ c) (length t - 3 - 0) (omega arith) in
    let f : (w ++ bytes ".") ++ c ≡ t = append_dot w c in
    let g = length-append w (bytes ".") in
    let i : length (w ++ bytes ".") ≡ length t - 2 = omega arith in
    let d : drop (length t - 2) t ≡ c = ap (drop (length t - 2)) (sym f) ∙ drop_at (w ++ bytes ".") c (length t - 2) i in
    let e : part t (length t - 2) (length t) ≡ c = let i : length t - (length t - 2) ≡ 2 = omega arith in rw (d, i) in
    let u : whole t ≡ Some (n / 100) = rw y (digits_within 1 9 w a b ∙ decimal_value 8 (n / 100) (omega arith)) in
    let v : cents t ≡ Some (n % 100) = rw e (fixed_digits 2 (n % 100) (omega arith)) in
    let z : n / 100 * 100 + n % 100 ≡ n = omega arith in
    importo_cents t (omega arith) (omega arith) x (no_zero n h) u v ∙ ap Some z
  where
    append_dot : (w c : List ℕ) → (w ++ bytes ".") ++ c ≡ w ++ (bytes "." ++ c)
    append_dot [] c = refl
    append_dot (b ∷ w) c = rw (append_dot w c)

-- DATES
month_most : (y m : ℕ) → month_length y m ≤ 31
unfolding month_length
month_most y m = go (eqb m 2) (leap y) (eqb m 4 || (eqb m 6 || (eqb m 9 || eqb m 11)))
  where
    go : (a b c : Bool) → cond a (cond b 29 28) (cond c 30 31) ≤ 31
    go true true c = omega arith
    go true false c = omega arith
    go false b true = omega arith
    go false b false = omega arith

record Ranged (d : Date) : Type 0 where
  year : d.year ≤ 2099
  month : d.month ≤ 12
  day : d.day ≤ 31

ranged : (d : Date) → is_date d ≡ true → Ranged d
unfolding is_date
ranged d e =
    let a = both (between 2000 2099 d.year) (between 1 12 d.month && between 1 (month_length d.year d.month) d.day) e in
    let b = both (between 1 12 d.month) (between 1 (month_length d.year d.month) d.day) a.1 in
    let y = (in_range 2000 2099 d.year a.0).1 in
    let m = (in_range 1 12 d.month b.0).1 in
    let x = (in_range 1 (month_length d.year d.month) d.day b.1).1 in
    let k = month_most d.year d.month in
    record { year = y; month = m; day = omega arith }

pub data_dated : (d : Date) → is_date d ≡ true → data_of (dated d) ≡ Some d
unfolding dated data_of
data_dated d e =
    let r = ranged d e in
    let a = r.year in
    let b = r.month in
    let c = r.day in
    let p = p10_4 in
    let q = p10_2 in
    ap real (data_day (dated d) refl refl refl (sym (fixed_digits 4 d.year (omega arith))) (sym (fixed_digits 2 d.month (omega arith))) (sym (fixed_digits 2 d.day (omega arith)))) ∙ rw e

-- ALL OF IT IS TEXT
digit_plain : (n : ℕ) → plain (digit n) ≡ true
unfolding is_plain
digit_plain n =
    rw (le-leb 0x20 (digit n) (omega arith), le-leb (digit n) 0x7f (omega arith), ne_eqb (digit n) 38 (λ z. omega arith), ne_eqb (digit n) 93 (λ z. omega arith), ne_eqb (digit n) 60 (λ z. omega arith))

pub all_both : (f : ℕ → Bool) (x y : List ℕ) → all f x ≡ true → all f y ≡ true → all f (x ++ y) ≡ true
unfolding all
all_both f [] y a b = b
all_both f (c ∷ x) y a b = let e = both (f c) (all f x) a in rw (e.0, all_both f x y e.1 b)

one_plain : (n : ℕ) → all plain (digit n ∷ []) ≡ true
unfolding all
one_plain n = rw (digit_plain n)

fixed_plain : (w n : ℕ) → all plain (fixed w n) ≡ true
unfolding all
fixed_plain zero n = refl
fixed_plain (suc w) n = all_both plain (fixed w (n / 10)) (digit n ∷ []) (fixed_plain w (n / 10)) (one_plain n)

decimal_plain : (w n : ℕ) → all plain (decimal_by w n) ≡ true
unfolding decimal_by
decimal_plain zero n = one_plain n
decimal_plain (suc w) n = go (leb n 9) (decimal_plain w (n / 10))
  where
    go : (b : Bool) → all plain (decimal_by w (n / 10)) ≡ true → all plain (cond b (digit n ∷ []) (decimal_by w (n / 10) ++ (digit n ∷ []))) ≡ true
    go true i = one_plain n
    go false i = all_both plain (decimal_by w (n / 10)) (digit n ∷ []) i (one_plain n)

dot_plain : all plain (bytes ".") ≡ true
unfolding all is_plain
dot_plain = refl

dash_plain : all plain (bytes "-") ≡ true
unfolding all is_plain
dash_plain = refl

pub fixed_text : (w n : ℕ) → Text (fixed w n)
fixed_text w n = plain_text (fixed w n) (fixed_plain w n)

pub decimal_text : (n : ℕ) → Text (decimal n)
unfolding decimal
decimal_text n = plain_text (decimal_by 8 n) (decimal_plain 8 n)

pub amount_text : (n : ℕ) → Text (amount n)
unfolding amount decimal
amount_text n = plain_text _ (all_both plain (decimal_by 8 (n / 100)) (bytes "." ++ fixed 2 (n % 100)) (decimal_plain 8 (n / 100)) (all_both plain (bytes ".") (fixed 2 (n % 100)) dot_plain (fixed_plain 2 (n % 100))))

pub dated_text : (d : Date) → Text (dated d)
unfolding dated
dated_text d =
    let a = fixed_plain 2 d.day in
    let b = all_both plain (bytes "-") (fixed 2 d.day) dash_plain a in
    let c = all_both plain (fixed 2 d.month) (bytes "-" ++ fixed 2 d.day) (fixed_plain 2 d.month) b in
    let e = all_both plain (bytes "-") (fixed 2 d.month ++ bytes "-" ++ fixed 2 d.day) dash_plain c in
    plain_text _ (all_both plain (fixed 4 d.year) (bytes "-" ++ fixed 2 d.month ++ bytes "-" ++ fixed 2 d.day) (fixed_plain 4 d.year) e)

-- HOW LONG they are
pub decimal_short : (n : ℕ) → is_numero n ≡ true → length (decimal n) ≤ 7
unfolding decimal
decimal_short n h = let r = in_range 1 9999999 n h in let u = r.1 in let p = p10_7 in (decimal_length 8 6 n (omega arith)).1

pub amount_short : (n : ℕ) → n ≤ max_cents → length (amount n) ≤ 12
unfolding amount decimal
amount_short n h =
    let p = p10_9 in
    let l = length-append (decimal_by 8 (n / 100)) (bytes "." ++ fixed 2 (n % 100)) in
    let k = (decimal_length 8 8 (n / 100) (omega arith)).1 in
    omega arith

pub dated_length : (d : Date) → length (dated d) ≡ 10
unfolding dated
dated_length d = refl
