-- Laws of numbers in digits: one for each way out of the code, and the ranges that the crates above rely on.
use Rattle.std.specs.Prelude.{Option, Some, None}
use mathlib.Core.Path.{◌≡◌, refl, sym, ap, ◌∙◌}
use mathlib.Core.List.{List, [], ◌∷◌}
use mathlib.Core.Bool.{Bool, true, false, cond, not, ◌&&◌}
use Prim.Native.Nat.{ℕ, zero, suc, ◌+◌, ◌*◌, ◌-◌, ◌≤◌, ◌<◌}
use native.Mathlib.Nat.{add-zero}
use native.Mathlib.Numerals.{add-one}
use native.Mathlib.Omega.{arith}
use lib.ListN.{length, get_or, take, drop, drop_of_length-le, length-drop}
use lib.Seq.{drop-cons, drop-drop, length-take-le, take_all, get_or-take, get_or-drop}
use lib.Dec.{eqb, leb}
use borrow.Author.Tests.{eqb-true, eqb-false, eq-eqb, ne_eqb, le-leb, leb-true, leb-false}
use Rattle.scan.specs.Bytes.{byte_at, part, between, is_digit, run}
use Rattle.scan.proofs.Laws.{both, in_range}
use Rattle.digits.specs.Digits.{is_value, within, digits_after, digits, esercizio, numero, in_cents, zero_in_front, importo, progressivo, is_refusal}
use Rattle.digits.specs.Inner.{zero_first, importo_back}

-- INVERSIONS: what a number says of the tests that led to it
never : {n : ℕ} {A : Type 0} → ◌≡◌ {A = Option ℕ} (None) (Some n) → A
never e = let z : ◌≡◌ {A = ℕ} 0 1 = cc in absurd (omega arith)

cond_value : (b : Bool) (x : Option ℕ) {n : ℕ} → cond b x None ≡ Some n → (b ≡ true) × (x ≡ Some n)
cond_value true x e = (refl, e)
cond_value false x e = never e

-- DIGITS

-- 1 followed by n zeros
unfoldable pub p10 : ℕ → ℕ
p10 zero = 1
p10 (suc n) = 10 * p10 n

p10_one : (n : ℕ) → p10 (n + 1) ≡ 10 * p10 n
unfolding p10
p10_one n = rw add-one

p10_pos : (n : ℕ) → 1 ≤ p10 n
unfolding p10
p10_pos zero = omega arith
p10_pos (suc n) = let h = p10_pos n in omega arith

p10_le : (n m : ℕ) → n ≤ m → p10 n ≤ p10 m
unfolding p10
p10_le zero m h = p10_pos m
p10_le (suc n) zero h = absurd (omega arith)
p10_le (suc n) (suc m) h = let g = p10_le n m (omega arith) in omega arith

pub p10_zero : p10 0 ≡ 1
unfolding p10
p10_zero = refl

p10_9 : p10 9 ≡ 1000000000
unfolding p10
p10_9 = refl

digit_range : (b : ℕ) → is_digit b ≡ true → (48 ≤ b) × (b ≤ 57)
unfolding is_digit
digit_range b = in_range 48 57 b

pub digit_low : (b : ℕ) → is_digit b ≡ true → 48 ≤ b
digit_low b d = (digit_range b d).0

pub p10_small : (i : ℕ) → i < 9 → p10 i ≤ 100000000
unfolding p10
p10_small i h = p10_le i 8 (omega arith)

-- one digit more keeps a number of i digits below 1 followed by i zeros, and in a word while there are at most nine
pub record OneMore (b i v : ℕ) : Type 0 where
  pub low : 48 ≤ b
  pub next : v * 10 + (b - 48) < p10 (i + 1)
  pub small : v * 10 + (b - 48) < 1000000000

pub one_more : (b i v : ℕ) → is_digit b ≡ true → v < p10 i → i < 9 → OneMore b i v
one_more b i v d h l =
    let r = digit_range b d in
    let o = p10_one i in
    let q = p10_le (i + 1) 9 (omega arith) in
    let y = p10_9 in
    record { low = r.0; next = omega arith; small = omega arith }

-- the loop over a text's digits
module _ (t : List ℕ) (i v : ℕ) where
  pub digits_more : i < length t → is_digit (get_or t i 0) ≡ true → digits_after v (drop i t) ≡ digits_after (v * 10 + (get_or t i 0 - 48)) (drop (i + 1) t)
  unfolding digits_after
  digits_more h e = rw (drop-cons t i 0 h, e, add-one)

  pub digits_not : i < length t → is_digit (get_or t i 0) ≡ false → digits_after v (drop i t) ≡ None
  unfolding digits_after
  digits_not h e = rw (drop-cons t i 0 h, e)

  pub digits_end : length t ≤ i → digits_after v (drop i t) ≡ Some v
  unfolding digits_after
  digits_end h = rw (drop_of_length-le t h)

pub digits_within : (lo hi : ℕ) (t : List ℕ) → lo ≤ length t → length t ≤ hi → digits lo hi t ≡ digits_after 0 t
unfolding digits
digits_within lo hi t h k = rw (le-leb lo (length t) h, le-leb (length t) hi k)

-- n digits write less than 1 followed by n zeros
digits_below : (t : List ℕ) (i v n : ℕ) → v < p10 i → digits_after v t ≡ Some n → n < p10 (i + length t)
unfolding digits_after
digits_below [] i v n h e = let z : v ≡ n = cc in let y : i + 0 ≡ i = omega arith in rw (y, ← z) h
digits_below (b ∷ t) i v n h e = go (is_digit b) refl e (digits_below t (i + 1))
  where
    go : (k : Bool) → is_digit b ≡ k → cond k (digits_after (v * 10 + (b - 48)) t) None ≡ Some n
        → ((v n : ℕ) → v < p10 (i + 1) → digits_after v t ≡ Some n → n < p10 (i + 1 + length t)) → n < p10 (i + suc (length t))
    go true d f ih =
        let r = digit_range b d in
        let q = p10_one i in
        let y : i + 1 + length t ≡ i + suc (length t) = omega arith in
        rw y at (ih (v * 10 + (b - 48)) n (omega arith) f)
    go false d f ih = never f

pub digits_under : (lo hi : ℕ) (t : List ℕ) (n : ℕ) → digits lo hi t ≡ Some n → n < p10 hi
unfolding digits
digits_under lo hi t n e =
    let h = cond_value (between lo hi (length t)) (digits_after 0 t) e in
    let k = in_range lo hi (length t) h.0 in
    let z = p10_zero in
    let b = digits_below t 0 0 n (omega arith) h.1 in
    let l = p10_le (0 + length t) hi (omega arith) in
    omega arith

pub digits_small : (lo hi : ℕ) (t : List ℕ) (n : ℕ) → hi ≤ 9 → digits lo hi t ≡ Some n → n < 1000000000
digits_small lo hi t n h e = omega (arith, digits_under lo hi t n e, p10_le hi 9 h, p10_9)

-- AMOUNTS

-- what an amount's digits are asked for, once its length, its point and its first digit stand
abbrev pub whole : List ℕ → Option ℕ
whole t = digits 1 9 (part t 0 (length t - 3))

abbrev pub cents : List ℕ → Option ℕ
cents t = digits 2 2 (part t (length t - 2) (length t))

-- BOTH WAYS TO TAKE AN AMOUNT APART are one: by the digits at its front, and from its end

no_cents : (b : Bool) (w c : Option ℕ) → c ≡ None → cond b (in_cents w c) None ≡ None
no_cents true (Some w) c e = rw e
no_cents true None c e = refl
no_cents false w c e = refl

no_whole : (b : Bool) (w c : Option ℕ) → w ≡ None → cond b (in_cents w c) None ≡ None
no_whole true w c e = rw e
no_whole false w c e = refl

-- a text of another length than lo to hi is no number
digits_sized : (lo hi : ℕ) (t : List ℕ) → between lo hi (length t) ≡ false → digits lo hi t ≡ None
unfolding digits
digits_sized lo hi t e = rw e

digits_broken : (lo hi : ℕ) (t : List ℕ) → digits_after 0 t ≡ None → digits lo hi t ≡ None
unfolding digits
digits_broken lo hi t e = go (between lo hi (length t))
  where
    go : (b : Bool) → cond b (digits_after 0 t) None ≡ None
    go true = e
    go false = refl

outside : (lo hi n : ℕ) → ((lo ≤ n) × (n ≤ hi) → ⊥) → between lo hi n ≡ false
outside lo hi n h = go (leb lo n) refl (leb n hi) refl
  where
    go : (x : Bool) → leb lo n ≡ x → (y : Bool) → leb n hi ≡ y → x && y ≡ false
    go true e true f = absurd (h (leb-true lo n e, leb-true n hi f))
    go true e false f = refl
    go false e y f = refl

-- within the run stand digits, and a byte past it that is asked for is none
run_digit : (t : List ℕ) (p : ℕ) → p < run is_digit t → is_digit (get_or t p 0) ≡ true
unfolding run
run_digit [] p h = absurd (omega arith)
run_digit (b ∷ t) p h = go (is_digit b) refl p h (run_digit t)
  where
    go : (x : Bool) → is_digit b ≡ x → (p : ℕ) → p < cond x (suc (run is_digit t)) 0 → ((p : ℕ) → p < run is_digit t → is_digit (get_or t p 0) ≡ true) → is_digit (get_or (b ∷ t) p 0) ≡ true
    go true e zero h ih = e
    go true e (suc p) h ih = ih p (omega arith)
    go false e p h ih = absurd (omega arith)

past_run : (t : List ℕ) (p v : ℕ) → run is_digit t < p → p ≤ length t → digits_after v (take p t) ≡ None
unfolding run digits_after
past_run t zero v h l = absurd (omega arith)
past_run [] (suc p) v h l = absurd (omega arith)
past_run (b ∷ t) (suc p) v h l = go (is_digit b) h (past_run t p (v * 10 + (b - 48)))
  where
    go : (x : Bool) → cond x (suc (run is_digit t)) 0 < suc p → (run is_digit t < p → p ≤ length t → digits_after (v * 10 + (b - 48)) (take p t) ≡ None)
        → cond x (digits_after (v * 10 + (b - 48)) (take p t)) None ≡ None
    go true h ih = ih (omega arith) (omega arith)
    go false h ih = refl

run_length : (t : List ℕ) → run is_digit t ≤ length t
unfolding run
run_length [] = omega arith
run_length (b ∷ t) = go (is_digit b) (run_length t)
  where
    go : (x : Bool) → run is_digit t ≤ length t → cond x (suc (run is_digit t)) 0 ≤ suc (length t)
    go true h = omega arith
    go false h = omega arith

not_between : (lo hi n : ℕ) → between lo hi n ≡ false → (lo ≤ n) × (n ≤ hi) → ⊥
not_between lo hi n e k = let z : ◌≡◌ {A = Bool} true false = sym (rw (le-leb lo n k.0, le-leb n hi k.1)) ∙ e in let y : ◌≡◌ {A = ℕ} 0 1 = cc in omega arith

same_test : (n : ℕ) → eqb (n + 3) 4 ≡ eqb n 1
same_test n = go (eqb n 1) refl
  where
    go : (x : Bool) → eqb n 1 ≡ x → eqb (n + 3) 4 ≡ x
    go true e = eq-eqb (n + 3) 4 (omega (arith, eqb-true n 1 e))
    go false e = ne_eqb (n + 3) 4 (λ z. eqb-false n 1 e (omega arith))

module _ (t : List ℕ) (n : ℕ) (r : run is_digit t ≡ n) where
  -- the digits at the front end at the point, three bytes before the end
  fits_front : length t ≡ n + 3 → 1 ≤ n → n ≤ 9 → importo t ≡ importo_back t
  unfolding importo zero_in_front zero_first
  fits_front l lo hi =
      let f : byte_at (take n t) 0 ≡ byte_at t 0 = get_or-take n t 0 0 (omega arith) in
      let m : length (take n t) ≡ n = length-take-le n t (omega arith) in
      let p : length t - 3 ≡ n = omega arith in
      let q : length t - 2 ≡ n + 1 = omega arith in
      let z : byte_at t (length t - 3) ≡ byte_at (drop n t) 0 = rw p (sym (get_or-drop n t 0 0 ∙ ap (λ (i : ℕ). get_or t i 0) (add-zero n))) in
      let u : n - 0 ≡ n = omega arith in
      let w : part t 0 (length t - 3) ≡ take n t = rw (p, u) in
      let d : part t (length t - 2) (length t) ≡ drop 1 (drop n t) =
      rw q (take_all (length t - (n + 1)) (drop (n + 1) t) (omega (arith, length-drop (n + 1) t)) ∙ sym (drop-drop 1 n t)) in
      let e : eqb (length t) 4 ≡ eqb n 1 = rw l (same_test n) in
      rw (r, f, m, le-leb 4 (length t) (omega arith), le-leb (length t) 12 (omega arith), z, e, w, d)

  -- too few or too many of them
  fits_not : length t ≡ n + 3 → ((1 ≤ n) × (n ≤ 9) → ⊥) → importo t ≡ importo_back t
  unfolding importo
  fits_not l h =
      let m : length (take n t) ≡ n = length-take-le n t (omega arith) in
      let w : digits 1 9 (take n t) ≡ None = digits_sized 1 9 (take n t) (rw m (outside 1 9 n h)) in
      let b = outside 4 12 (length t) (λ k. h (omega arith, omega arith)) in
      rw (r, b) (no_whole (eqb (byte_at (drop n t) 0) 46 && not (zero_in_front (take n t))) (digits 1 9 (take n t)) (digits 2 2 (drop 1 (drop n t))) w)

  -- elsewhere
  front_not : (length t ≡ n + 3 → ⊥) → importo t ≡ None
  unfolding importo
  front_not h =
      let k : length (drop 1 (drop n t)) ≡ length t - (n + 1) = ap length (drop-drop 1 n t) ∙ length-drop (n + 1) t in
      let g = run_length t in
      rw r (no_cents (eqb (byte_at (drop n t) 0) 46 && not (zero_in_front (take n t))) (digits 1 9 (take n t)) (digits 2 2 (drop 1 (drop n t)))
      (digits_sized 2 2 (drop 1 (drop n t)) (outside 2 2 (length (drop 1 (drop n t))) (λ b. h (omega arith)))))

  back_not : (length t ≡ n + 3 → ⊥) → (x : Bool) → between 4 12 (length t) ≡ x → (y : Bool) → leb n (length t - 3) ≡ y → importo_back t ≡ None
  back_not h false e y f = rw e
  back_not h true e true f =
      let k = in_range 4 12 (length t) e in
      let u : length t - 3 - 0 ≡ length t - 3 = omega arith in
      let w : whole t ≡ None =
      rw u (digits_broken 1 9 (take (length t - 3) t) (past_run t (length t - 3) 0 (omega (arith, leb-true n (length t - 3) f)) (omega arith))) in
      no_whole (between 4 12 (length t) && (eqb (byte_at t (length t - 3)) 46 && not (zero_first t))) (whole t) (cents t) w
  back_not h true e false f =
      let d = run_digit t (length t - 3) (omega (arith, leb-false n (length t - 3) f)) in
      let c = digit_range (byte_at t (length t - 3)) d in
      rw (e, ne_eqb (byte_at t (length t - 3)) 46 (λ z. omega arith))

pub importo_is_back : (t : List ℕ) → importo t ≡ importo_back t
importo_is_back t = go (run is_digit t) refl (eqb (length t) (run is_digit t + 3)) refl (between 1 9 (run is_digit t)) refl
  where
    go : (n : ℕ) → run is_digit t ≡ n → (x : Bool) → eqb (length t) (run is_digit t + 3) ≡ x → (y : Bool) → between 1 9 (run is_digit t) ≡ y → importo t ≡ importo_back t
    go n r true e true f = let k = in_range 1 9 (run is_digit t) f in fits_front t n r (eqb-true (length t) (run is_digit t + 3) e ∙ ap (λ (i : ℕ). i + 3) r) (omega arith) (omega arith)
    go n r true e false f = fits_not t n r (eqb-true (length t) (run is_digit t + 3) e ∙ ap (λ (i : ℕ). i + 3) r) (not_between 1 9 n (ap (between 1 9) (sym r) ∙ f))
    go n r false e y f =
        let h : length t ≡ n + 3 → ⊥ = λ l. eqb-false (length t) (run is_digit t + 3) e (l ∙ ap (λ (i : ℕ). i + 3) (sym r)) in
        front_not t n r h ∙ sym (back_not t n r h (between 4 12 (length t)) refl (leb n (length t - 3)) refl)

module _ (t : List ℕ) (a : 4 ≤ length t) (b : length t ≤ 12) (p : byte_at t (length t - 3) ≡ 46) where
  pub importo_cents : {w c : Option ℕ} → zero_first t ≡ false → whole t ≡ w → cents t ≡ c → importo t ≡ in_cents w c
  importo_cents h ew ec = importo_is_back t ∙ rw (le-leb 4 (length t) a, le-leb (length t) 12 b, eq-eqb (byte_at t (length t - 3)) 46 p, h, ew, ec)

-- RANGES of the values that fields give

within_range : (lo hi : ℕ) (x : Option ℕ) {n : ℕ} → within (between lo hi) x ≡ Some n → (lo ≤ n) × (n ≤ hi)
within_range lo hi (Some v) {n} e =
    let h = cond_value (between lo hi v) (Some v) e in
    let z : v ≡ n = let f = h.1 in cc in
    rw z at (in_range lo hi v h.0)
within_range lo hi None e = never e

pub esercizio_range : (t : List ℕ) {n : ℕ} → esercizio t ≡ Some n → (2000 ≤ n) × (n ≤ 2099)
unfolding esercizio
esercizio_range t = within_range 2000 2099 (digits 4 4 t)

pub numero_range : (t : List ℕ) {n : ℕ} → numero t ≡ Some n → (1 ≤ n) × (n ≤ 9999999)
unfolding numero
numero_range t = within_range 1 9999999 (digits 1 7 t)

pub progressivo_range : (t : List ℕ) {n : ℕ} → progressivo t ≡ Some n → n < 1000
unfolding progressivo p10
progressivo_range t {n} = digits_under 1 3 t n

pub importo_range : (t : List ℕ) {n : ℕ} → importo t ≡ Some n → n < 100000000000
unfolding p10
importo_range t {n} e =
    let stands = between 4 12 (length t) && (eqb (byte_at t (length t - 3)) 46 && not (zero_first t)) in
    go (whole t) (cents t) (digits_under 1 9 _) (digits_under 2 2 _) (cond_value stands (in_cents (whole t) (cents t)) (sym (importo_is_back t) ∙ e)).1
  where
    go : (w c : Option ℕ) → ((n : ℕ) → w ≡ Some n → n < p10 9) → ((n : ℕ) → c ≡ Some n → n < p10 2) → in_cents w c ≡ Some n → n < 100000000000
    go (Some w) (Some c) f g e =
        let z : w * 100 + c ≡ n = cc in
        let a = f w refl in
        let b = g c refl in
        omega arith
    go (Some w) None f g e = never e
    go None c f g e = never e

-- HOW LONG a text of a form is

cond_is : (b : Bool) (x : Option ℕ) → is_value (cond b x None) ≡ true → b ≡ true
cond_is true x e = refl
cond_is false x e = e

pub digits_length : (lo hi : ℕ) (t : List ℕ) → is_value (digits lo hi t) ≡ true → (lo ≤ length t) × (length t ≤ hi)
unfolding digits
digits_length lo hi t e = in_range lo hi (length t) (cond_is (between lo hi (length t)) (digits_after 0 t) e)

pub importo_length : (t : List ℕ) → is_value (importo t) ≡ true → (4 ≤ length t) × (length t ≤ 12)
importo_length t e =
    let stands = eqb (byte_at t (length t - 3)) 46 && not (zero_first t) in
    let b = cond_is (between 4 12 (length t) && stands) (in_cents (whole t) (cents t)) (ap is_value (sym (importo_is_back t)) ∙ e) in
    in_range 4 12 (length t) (both (between 4 12 (length t)) stands b).0

-- THE CODES OF A REFUSED ORDER
pub refusal_in : (c : ℕ) → is_refusal c ≡ true → (12 ≤ c) × (c ≤ 26)
refusal_in c e = go (between 12 19 c) refl
  where
    go : (b : Bool) → between 12 19 c ≡ b → (12 ≤ c) × (c ≤ 26)
    go true f = let r = in_range 12 19 c f in let a = r.0 in let z = r.1 in (a, omega arith)
    go false f = let r = in_range 24 26 c (rw f at e) in let a = r.0 in let z = r.1 in (omega arith, z)
