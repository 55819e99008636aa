-- Laws of the bytes and characters of a flow, which the crates above cite instead of the definitions' text.
use Rattle.std.specs.Prelude.{Result, Ok, Err}
use mathlib.Core.Path.{◌≡◌, refl, sym, ◌∙◌}
use mathlib.Core.List.{List, [], ◌∷◌}
use mathlib.Core.Option.{Option, none, some}
use mathlib.Core.Bool.{Bool, true, false, cond, not, ◌&&◌, and-false}
use Prim.Native.Nat.{ℕ, zero, suc, ◌+◌, ◌-◌, ◌*◌, ◌≤◌, ◌<◌}
use native.Mathlib.Nat.{add-zero}
use native.Mathlib.Numerals.{add-one}
use native.Mathlib.Omega.{arith}
use Rattle.std.specs.List.{prefix_len, take_while, slice_range, starts_with as begins}
use Rattle.std.proofs.lemmas.Slice.{between_to_end}
use Rattle.std.specs.Cmp.Lexicographic.{pointwise}
use Rattle.std.proofs.lemmas.List.Folds.{length-prefix_len}
use Rattle.std.proofs.lemmas.Bool.Decides.{nat_tests}
use lib.ListN.{length, get_or, take, drop, drop_of_length-le, length-drop, get_or-eq_default}
use lib.Seq.{drop-cons}
use lib.Dec.{leb, eqb, eqb-zero-suc, eqb-suc-zero, eqb-suc-suc}
use borrow.Author.Tests.{eq-eqb, leb-true, leb-false, le-leb, lt-leb}
use Rattle.scan.specs.Bytes.{byte_at, between, run, run_end, starts_with, has_at, text_is}
use Rattle.scan.specs.Characters.{is_char, sized, is_tail, char_size, char_size_at, past_or, char_at}
use Rattle.scan.specs.References.{Reference, references, which_at, past_ref, ref_at}

-- a run goes on over a byte of its kind, and ends at another one and at the end of the flow
module _ (p : ℕ → Bool) (s : List ℕ) (i : ℕ) where
  pub run_more : i < length s → p (get_or s i 0) ≡ true → run_end p s i ≡ run_end p s (i + 1)
  unfolding run_end run
  run_more h e = rw (drop-cons s i 0 h, e, add-one) (omega arith)

  pub run_stop : i < length s → p (get_or s i 0) ≡ false → run_end p s i ≡ i
  unfolding run_end run
  run_stop h e = rw (drop-cons s i 0 h, e) (add-zero i)

  pub run_end_lem : length s ≤ i → run_end p s i ≡ i
  unfolding run_end run
  run_end_lem h = rw (drop_of_length-le s h) (add-zero i)

-- a run counted by std's `take_while`
run_counted : (p : ℕ → Bool) (t : List ℕ) → run p t ≡ prefix_len p t
unfolding run
run_counted p [] = refl
run_counted p (b ∷ t) = let e : suc (run p t) ≡ 1 + prefix_len p t = omega (arith, run_counted p t) in rw e refl

pub run_end_is : (p : ℕ → Bool) (s : List ℕ) (at n : ℕ) → n ≡ length (take_while p (slice_range s at (length s))) → at + n ≡ run_end p s at
unfolding run_end
run_end_is p s at n e =
    let h : n ≡ length (take_while p (drop at s)) = (rw (between_to_end s at (length s) (omega arith)) at e) in
    omega (arith, run_counted p (drop at s), length-prefix_len p (drop at s))

-- bytes compared by std's `starts_with` and `==`
eqb_flip : (a b : ℕ) → eqb a b ≡ eqb b a
eqb_flip a b = grind (arith, nat_tests)

starts_is : (x t : List ℕ) → pointwise eqb x (take (length x) t) ≡ starts_with x t
unfolding starts_with
starts_is [] t = refl
starts_is (a ∷ x) [] = refl
starts_is (a ∷ x) (b ∷ t) = rw (eqb_flip a b, starts_is x t) refl

pub has_is : (x s : List ℕ) (at : ℕ) → begins eqb (slice_range s at (length s)) x ≡ has_at x s at
unfolding has_at
has_is x s at = rw (between_to_end s at (length s) (omega arith)) (starts_is x (drop at s))

pub text_is_eq : (x t : List ℕ) → pointwise eqb t x ≡ text_is x t
unfolding text_is has_at starts_with
text_is_eq [] [] = refl
text_is_eq [] (b ∷ t) = rw (eqb-suc-zero (length t)) refl
text_is_eq (a ∷ x) [] = rw (eqb-zero-suc (length x)) refl
text_is_eq (a ∷ x) (b ∷ t) = go (eqb b a) (text_is_eq x t)
  where
    go : (k : Bool) → pointwise eqb t x ≡ (eqb (length t) (length x) && starts_with x t) → (k && pointwise eqb t x) ≡ (eqb (suc (length t)) (suc (length x)) && (k && starts_with x t))
    go true h = rw (eqb-suc-suc (length t) (length x)) h
    go false h = sym (and-false (eqb (suc (length t)) (suc (length x))))

-- x at a position, from its byte i on: the test of one byte more, and its ends
module _ (x s : List ℕ) (at i : ℕ) where
  pub has_more : i < length x → at + i < length s → get_or s (at + i) 0 ≡ get_or x i 0 → has_at (drop i x) s (at + i) ≡ has_at (drop (i + 1) x) s (at + (i + 1))
  unfolding has_at starts_with
  has_more h k e = let q : at + suc i ≡ suc (at + i) = omega arith in rw (add-one, q, drop-cons x i 0 h, drop-cons s (at + i) 0 k, eq-eqb _ _ e)

  pub has_all : length x ≤ i → has_at (drop i x) s (at + i) ≡ true
  unfolding has_at starts_with
  has_all h = rw (drop_of_length-le x h)

-- INVERSIONS: what an answer says of the tests that led to it
pub never : {p q : ℕ} {A : Type 0} → ◌≡◌ {A = Result ℕ ℕ} (Err p) (Ok q) → A
never e = let z : ◌≡◌ {A = ℕ} 0 1 = cc in absurd (omega arith)

pub both : (a b : Bool) → (a && b) ≡ true → (a ≡ true) × (b ≡ true)
both true b e = (refl, e)
both false b e = let z : ◌≡◌ {A = ℕ} 0 1 = cc in absurd (omega arith)

pub not_is : (b : Bool) → not b ≡ true → b ≡ false
not_is true e = let z : ◌≡◌ {A = ℕ} 0 1 = cc in absurd (omega arith)
not_is false e = refl

pub in_range : (lo hi b : ℕ) → between lo hi b ≡ true → (lo ≤ b) × (b ≤ hi)
in_range lo hi b e = let h = both (leb lo b) (leb b hi) e in (leb-true lo b h.0, leb-true b hi h.1)

-- a choice of two: what follows from the one that is taken
pub choose : {W A : Type 0} (b : Bool) {x y n : W} → (b ≡ true → x ≡ n → A) → (y ≡ n → A) → cond b x y ≡ n → A
choose true f g e = f refl e
choose false f g e = g e

pub cond_past : (b : Bool) (x : Result ℕ ℕ) (p : ℕ) {q : ℕ} → cond b x (Err p) ≡ Ok q → (b ≡ true) × (x ≡ Ok q)
cond_past true x p e = (refl, e)
cond_past false x p e = never e

-- A CHAIN OF TESTS, each read from the answer of the function that made it
module _ {A : Type 0} (x y : A) {b r : Bool} (e : r ≡ b) where
  pub then_is : r ≡ true → cond b x y ≡ x
  then_is h = rw (sym e ∙ h)

  pub else_is : {z : A} → r ≡ false → y ≡ z → cond b x y ≡ z
  else_is h k = rw (sym e ∙ h) k

-- from p to a later position of s
pub record Advance (s : List ℕ) (p q : ℕ) : Type 0 where
  pub on : p < q
  pub within : q ≤ length s

-- BOUNDS
-- a byte of a kind that 0 is not of lies in the flow
pub inside : (f : ℕ → Bool) (s : List ℕ) (at : ℕ) → f 0 ≡ false → f (byte_at s at) ≡ true → at < length s
inside f s at z e = go (leb (suc at) (length s)) refl
  where
    go : (b : Bool) → leb (suc at) (length s) ≡ b → at < length s
    go true h = leb-true (suc at) (length s) h
    go false h =
        let l : length s ≤ at = omega (arith, leb-false (suc at) (length s) h) in
        let y : byte_at s at ≡ 0 = get_or-eq_default s 0 l in
        let u : f 0 ≡ true = rw y at e in
        let v : ◌≡◌ {A = ℕ} 0 1 = cc in
        absurd (omega arith)

-- the byte n + 1 stands in the flow
pub stands : (n : ℕ) (s : List ℕ) (at : ℕ) → eqb (byte_at s at) (suc n) ≡ true → at < length s
stands n s at e = inside (λ b. eqb b (suc n)) s at (eqb-zero-suc n) e

run_length : (p : ℕ → Bool) (t : List ℕ) → run p t ≤ length t
unfolding run
run_length p [] = omega arith
run_length p (b ∷ t) = go (p b) (run_length p t)
  where
    go : (k : Bool) → run p t ≤ length t → cond k (suc (run p t)) 0 ≤ suc (length t)
    go true h = omega arith
    go false h = omega arith

pub run_from : (p : ℕ → Bool) (s : List ℕ) (at : ℕ) → at ≤ run_end p s at
unfolding run_end
run_from p s at = omega arith

pub run_within : (p : ℕ → Bool) (s : List ℕ) (at : ℕ) → at ≤ length s → run_end p s at ≤ length s
unfolding run_end
run_within p s at h = omega (arith, run_length p (drop at s), length-drop at s)

starts_length : (x t : List ℕ) → starts_with x t ≡ true → length x ≤ length t
unfolding starts_with
starts_length [] t e = omega arith
starts_length (a ∷ x) [] e = let v : ◌≡◌ {A = ℕ} 0 1 = cc in absurd (omega arith)
starts_length (a ∷ x) (b ∷ t) e = let h = starts_length x t (both (eqb b a) (starts_with x t) e).1 in omega arith

pub has_within : (x s : List ℕ) (at : ℕ) → at ≤ length s → has_at x s at ≡ true → at + length x ≤ length s
unfolding has_at
has_within x s at h e = omega (arith, starts_length x (drop at s) e, length-drop at s)

pub has_less : (x s : List ℕ) (at : ℕ) → at ≤ length s → length s - at < length x → has_at x s at ≡ false
has_less x s at h k = go (has_at x s at) refl
  where
    go : (b : Bool) → has_at x s at ≡ b → b ≡ false
    go true e = absurd (omega (arith, has_within x s at h e))
    go false e = refl

-- a string of n + 1 bytes that stands at p leads past it
pub has_past : (x s : List ℕ) (at n : ℕ) → length x ≡ suc n → has_at x s at ≡ true → Advance s at (at + suc n)
unfolding has_at
has_past x s at n l e = let g = starts_length x (drop at s) e in let d = length-drop at s in record { on = omega arith; within = omega arith }

-- CHARACTERS
-- a tail is at least 80
pub tail_low : (b : ℕ) → is_tail b ≡ true → 128 ≤ b
unfolding is_tail
tail_low b e = leb-true 128 b (both (leb 128 b) (leb b 191) e).0

-- char_size, a way out of the code at a time: x y z w are the bytes a b c d
module _ {a b c d x y z w : ℕ} (ex : x ≡ a) (ey : y ≡ b) (ez : z ≡ c) (ew : w ≡ d) where
  pub size_one : x ≤ 127 → char_size a b c d ≡ sized 1 0 x
  unfolding char_size
  size_one h = rw (← ex, le-leb x 127 h)

  module _ (h : 127 < x) (k : 192 ≤ x) (t : is_tail y ≡ true) where
    pub size_two : x ≤ 223 → char_size a b c d ≡ sized 2 128 ((x - 192) * 64 + (y - 128))
    unfolding char_size
    size_two l = rw (← ex, ← ey, lt-leb x 127 h, le-leb 192 x k, le-leb x 223 l, t)

    module _ (l : 223 < x) (u : is_tail z ≡ true) where
      pub size_three : x ≤ 239 → char_size a b c d ≡ sized 3 2048 ((x - 224) * 4096 + (y - 128) * 64 + (z - 128))
      unfolding char_size
      size_three m = rw (← ex, ← ey, ← ez, lt-leb x 127 h, le-leb 192 x k, lt-leb x 223 l, t, u, le-leb 224 x (omega arith), le-leb x 239 m)

      pub size_four : 239 < x → is_tail w ≡ true → x ≤ 247 → char_size a b c d ≡ sized 4 65536 ((x - 240) * 262144 + (y - 128) * 4096 + (z - 128) * 64 + (w - 128))
      unfolding char_size
      size_four m v n = rw (← ex, ← ey, ← ez, ← ew, lt-leb x 127 h, le-leb 192 x k, lt-leb x 223 l, t, u, le-leb 224 x (omega arith), lt-leb x 239 m, v, le-leb 240 x (omega arith), le-leb x 247 n)

-- what has a size is a character
pub sized_is : (n least v m : ℕ) → sized n least v ≡ suc m → (n ≡ suc m) × (is_char v ≡ true)
unfolding sized
sized_is n least v m = go (leb least v) (is_char v) refl
  where
    go : (a b : Bool) → is_char v ≡ b → cond (a && b) n 0 ≡ suc m → (n ≡ suc m) × (is_char v ≡ true)
    go true true f e = (e, f)
    go true false f e = absurd (omega arith)
    go false b f e = absurd (omega arith)

tail_in : (s : List ℕ) (p : ℕ) → is_tail (byte_at s p) ≡ true → p < length s
unfolding is_tail
tail_in s p = inside is_tail s p refl

char_in : (s : List ℕ) (p : ℕ) → is_char (byte_at s p) ≡ true → p < length s
unfolding is_char
char_in s p = inside is_char s p refl

-- a character that is there lies in the flow whole: its last byte is not the 0 that stands for the end
pub size_within : (s : List ℕ) (p m : ℕ) → char_size_at s p ≡ suc m → p + suc m ≤ length s
unfolding char_size
size_within s p m =
    go (leb (byte_at s p) 127) (is_tail (byte_at s (p + 1))) (is_tail (byte_at s (p + 2))) (is_tail (byte_at s (p + 3)))
    (leb 192 (byte_at s p) && leb (byte_at s p) 223) (leb 224 (byte_at s p) && leb (byte_at s p) 239) (leb 240 (byte_at s p) && leb (byte_at s p) 247)
    refl refl refl
  where
    go : (a b c d r2 r3 r4 : Bool) → is_tail (byte_at s (p + 1)) ≡ b → is_tail (byte_at s (p + 2)) ≡ c → is_tail (byte_at s (p + 3)) ≡ d
        → cond a (sized 1 0 (byte_at s p))
        (cond (r2 && b) (sized 2 128 ((byte_at s p - 192) * 64 + (byte_at s (p + 1) - 128)))
        (cond (r3 && (b && c)) (sized 3 2048 ((byte_at s p - 224) * 4096 + (byte_at s (p + 1) - 128) * 64 + (byte_at s (p + 2) - 128)))
        (cond (r4 && (b && (c && d))) (sized 4 65536 ((byte_at s p - 240) * 262144 + (byte_at s (p + 1) - 128) * 4096 + (byte_at s (p + 2) - 128) * 64 + (byte_at s (p + 3) - 128))) 0))) ≡ suc m
        → p + suc m ≤ length s
    go true b c d r2 r3 r4 eb ec ed h = let z = sized_is 1 0 (byte_at s p) m h in let i = char_in s p z.1 in omega arith
    go false true c d true r3 r4 eb ec ed h =
        let z = sized_is 2 128 ((byte_at s p - 192) * 64 + (byte_at s (p + 1) - 128)) m h in let i = tail_in s (p + 1) eb in omega arith
    go false true true d false true r4 eb ec ed h =
        let z = sized_is 3 2048 ((byte_at s p - 224) * 4096 + (byte_at s (p + 1) - 128) * 64 + (byte_at s (p + 2) - 128)) m h in
        let i = tail_in s (p + 2) ec in
        omega arith
    go false true true true false false true eb ec ed h =
        let z = sized_is 4 65536 ((byte_at s p - 240) * 262144 + (byte_at s (p + 1) - 128) * 4096 + (byte_at s (p + 2) - 128) * 64 + (byte_at s (p + 3) - 128)) m h in
        let i = tail_in s (p + 3) ed in
        omega arith
    go false true true true false false false eb ec ed h = absurd (omega arith)
    go false true true false false false true eb ec ed h = absurd (omega arith)
    go false true true false false false false eb ec ed h = absurd (omega arith)
    go false true false d false true true eb ec ed h = absurd (omega arith)
    go false true false d false true false eb ec ed h = absurd (omega arith)
    go false true false d false false true eb ec ed h = absurd (omega arith)
    go false true false d false false false eb ec ed h = absurd (omega arith)
    go false false c d true true true eb ec ed h = absurd (omega arith)
    go false false c d true true false eb ec ed h = absurd (omega arith)
    go false false c d true false true eb ec ed h = absurd (omega arith)
    go false false c d true false false eb ec ed h = absurd (omega arith)
    go false false c d false true true eb ec ed h = absurd (omega arith)
    go false false c d false true false eb ec ed h = absurd (omega arith)
    go false false c d false false true eb ec ed h = absurd (omega arith)
    go false false c d false false false eb ec ed h = absurd (omega arith)

pub char_past : (s : List ℕ) (p q : ℕ) → char_at s p ≡ Ok q → Advance s p q
unfolding char_at past_or
char_past s p q = go (char_size_at s p) refl
  where
    go : (n : ℕ) → char_size_at s p ≡ n → past_or n p ≡ Ok q → Advance s p q
    go zero f e = never e
    go (suc m) f e = let w = size_within s p m f in let z : p + suc m ≡ q = cc in record { on = omega arith; within = omega arith }

-- char_at, a way out of the code at a time
module _ (s : List ℕ) (p n : ℕ) (f : n ≡ char_size_at s p) where
  pub char_none : n ≡ 0 → char_at s p ≡ Err p
  unfolding char_at past_or
  char_none e = rw (← f, e)

  pub char_some : (n ≡ 0 → ⊥) → char_at s p ≡ Ok (p + n)
  unfolding char_at past_or
  char_some e = rw (← f) (go n e)
    where
      go : (k : ℕ) → (k ≡ 0 → ⊥) → past_or k p ≡ Ok (p + k)
      go zero h = absurd (h refl)
      go (suc k) h = refl

  pub char_in_flow : (n ≡ 0 → ⊥) → p + n ≤ length s
  char_in_flow e = go n f e
    where
      go : (k : ℕ) → k ≡ char_size_at s p → (k ≡ 0 → ⊥) → p + k ≤ length s
      go zero g h = absurd (h refl)
      go (suc k) g h = size_within s p k (sym g)

-- what char_at says of the size
pub char_sized : (s : List ℕ) (p q : ℕ) → char_at s p ≡ Ok q → p + char_size_at s p ≡ q
unfolding char_at past_or
char_sized s p q = go (char_size_at s p)
  where
    go : (n : ℕ) → past_or n p ≡ Ok q → p + n ≡ q
    go zero e = never e
    go (suc n) e = cc

pub char_unsized : (s : List ℕ) (p q : ℕ) → char_at s p ≡ Err q → char_size_at s p ≡ 0
unfolding char_at past_or
char_unsized s p q = go (char_size_at s p)
  where
    go : (n : ℕ) → past_or n p ≡ Err q → n ≡ 0
    go zero e = refl
    go (suc n) e = never (sym e)

-- past the end stands no character
pub char_end : (s : List ℕ) (p : ℕ) → length s ≤ p → char_at s p ≡ Err p
unfolding char_at past_or
char_end s p h = go (char_size_at s p) refl
  where
    go : (n : ℕ) → char_size_at s p ≡ n → past_or n p ≡ Err p
    go zero e = refl
    go (suc m) e = let w = size_within s p m e in absurd (omega arith)

-- REFERENCES
-- P of each of rs
abbrev pub Each : (Reference → Type 0) → List Reference → Type 0
Each P [] = Unit
Each P (r ∷ rs) = P r × Each P rs

-- the reference of rs that stands from p up to q, and P of it
pub record Referred (P : Reference → Type 0) (rs : List Reference) (s : List ℕ) (p q : ℕ) : Type 0 where
  pub which : Reference
  pub is : which_at rs s p ≡ some which
  pub holds : P which
  pub there : has_at which.written s p ≡ true
  pub past : p + length which.written ≡ q

module _ (P : Reference → Type 0) (s : List ℕ) (p q : ℕ) where
  which_is : (rs : List Reference) → Each P rs → past_ref (which_at rs s p) p ≡ Ok q → Referred P rs s p q
  unfolding which_at
  which_is [] h e = never e
  which_is (r ∷ rs) h e = go (has_at r.written s p) refl (which_is rs h.1) e
    where
      go : (b : Bool) → has_at r.written s p ≡ b → (past_ref (which_at rs s p) p ≡ Ok q → Referred P rs s p q) → past_ref (cond b (some r) (which_at rs s p)) p ≡ Ok q → Referred P (r ∷ rs) s p q
      go true f more k = record { which = r; is = rw f; holds = h.0; there = f; past = cc }
      go false f more k = let m = more k in record { which = m.which; is = rw f m.is; holds = m.holds; there = m.there; past = m.past }

  pub ref_is : Each P references → ref_at s p ≡ Ok q → Referred P references s p q
  unfolding ref_at
  ref_is = which_is references

-- where none is passed over none stands
pub ref_is_none : (s : List ℕ) (p q : ℕ) → ref_at s p ≡ Err q → which_at references s p ≡ none
unfolding ref_at
ref_is_none s p q = go (which_at references s p)
  where
    go : (o : Option Reference) → past_ref o p ≡ Err q → o ≡ none
    go none e = refl
    go (some r) e = never (sym e)

pub ref_past : (s : List ℕ) (p q : ℕ) → ref_at s p ≡ Ok q → Advance s p q
ref_past s p q e =
    let r = ref_is (λ (r : Reference). (n : ℕ) × (length r.written ≡ suc n)) s p q ((4, refl), ((3, refl), ((3, refl), ((5, refl), ((5, refl), tt))))) e in
    let g = has_past r.which.written s p r.holds.0 r.holds.1 r.there in
    record { on = omega arith; within = omega arith }
