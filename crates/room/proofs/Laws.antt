-- Laws of the training room: an array of which the first ones count and the lists that they stand for, then the search for a code.
use Rattle.std.specs.Prelude.{Some, None}
use Prim.Native.Nat.{ℕ, zero, suc, ◌+◌, ◌≤◌, ◌<◌}
use mathlib.Core.Bool.{Bool, true, false, cond}
use mathlib.Core.List.{List, [], ◌∷◌, map}
use mathlib.Core.Path.{◌≡◌, refl, sym, ap, ◌∙◌}
use native.Mathlib.Omega.{arith}
use native.Mathlib.Numerals.{add-one}
use lib.ListN.{length, get_or, take, drop, set, length-map, drop_of_length-le, get_or-map}
use lib.Seq.{drop-cons}
use Rattle.scan.specs.Bytes.{text_is}
use Rattle.entries.specs.Entry.{find_code}
use Rattle.entries.proofs.Codes.{find_is}
use Rattle.plain.specs.Plain.{Listed, Plain, no_body, body_in, numbered}

-- THE ARRAY: the first n of l, each by what it stands for
module _ {A B : Type 0} (f : A → B) where
  pub mapped_low : (n : ℕ) (l : List A) (i : ℕ) → i < length (map f (take n l)) → (i < n) × (i < length l)
  mapped_low zero l i h = absurd (omega arith)
  mapped_low (suc n) [] i h = absurd (omega arith)
  mapped_low (suc n) (x ∷ l) zero h = (omega arith, omega arith)
  mapped_low (suc n) (x ∷ l) (suc i) h = let r = mapped_low n l i (omega arith) in (omega arith, omega arith)

  pub mapped_get : (n : ℕ) (l : List A) (i : ℕ) (d : A) (e : B) → i < length (map f (take n l)) → f (get_or l i d) ≡ get_or (map f (take n l)) i e
  mapped_get zero l i d e h = absurd (omega arith)
  mapped_get (suc n) [] i d e h = absurd (omega arith)
  mapped_get (suc n) (x ∷ l) zero d e h = refl
  mapped_get (suc n) (x ∷ l) (suc i) d e h = mapped_get n l i d e (omega arith)

  pub mapped_set : (n : ℕ) (l : List A) (i : ℕ) (a : A) → i < n → map f (take n (set l i a)) ≡ set (map f (take n l)) i (f a)
  mapped_set zero l i a h = absurd (omega arith)
  mapped_set (suc n) [] i a h = refl
  mapped_set (suc n) (x ∷ l) zero a h = refl
  mapped_set (suc n) (x ∷ l) (suc i) a h = ap (λ (r : List B). f x ∷ r) (mapped_set n l i a (omega arith))

-- another element at i, that stands for what g makes of what stood there
module _ {A B : Type 0} (f : A → B) (n : ℕ) (l : List A) (i : ℕ) (d a : A) (e : B) (g : B → B) (h : i < length (map f (take n l))) where
  pub mapped_changed : f a ≡ g (f (get_or l i d)) → map f (take n (set l i a)) ≡ set (map f (take n l)) i (g (get_or (map f (take n l)) i e))
  mapped_changed q = mapped_set f n l i a (mapped_low f n l i h).0 ∙ ap (set (map f (take n l)) i) (q ∙ ap g (mapped_get f n l i d e h))

-- THE SEARCH: the answer from here is the whole answer
abbrev pub codes_of : Plain → List (List ℕ)
codes_of s = map (λ (l : Listed). l.code) s.bodies

codes_long : (s : Plain) → length (codes_of s) ≡ length s.bodies
codes_long s = length-map s.bodies (λ (l : Listed). l.code)

module _ (s : Plain) (b : ℕ) (code : List ℕ) {p : Listed} {t : Bool} (h : b < length s.bodies) (q : p ≡ body_in s b) (e : t ≡ text_is p.code code) where
  front : drop b (codes_of s) ≡ p.code ∷ drop (b + 1) (codes_of s)
  front =
      let k : b < length (codes_of s) = omega (arith, codes_long s) in
      let own : get_or (codes_of s) b [] ≡ p.code = get_or-map (λ (l : Listed). l.code) s.bodies b no_body ∙ ap (λ (l : Listed). l.code) (sym q) in
      drop-cons (codes_of s) b [] k ∙ (λ j. own j ∷ drop (sym (add-one b) j) (codes_of s))

  met : find_code (drop b (codes_of s)) b code ≡ cond t (Some b) (find_code (drop (b + 1) (codes_of s)) (b + 1) code)
  unfolding find_code
  met = ap (λ (xs : List (List ℕ)). find_code xs b code) front ∙ ap (λ (x : Bool). cond x (Some b) (find_code (drop (b + 1) (codes_of s)) (b + 1) code)) (sym e)

  pub seat_here : t ≡ true → find_code (drop b (codes_of s)) b code ≡ Some b
  seat_here z = met ∙ ap (λ (x : Bool). cond x (Some b) (find_code (drop (b + 1) (codes_of s)) (b + 1) code)) z

  pub seat_later : t ≡ false → find_code (drop b (codes_of s)) b code ≡ find_code (drop (b + 1) (codes_of s)) (b + 1) code
  seat_later z = met ∙ ap (λ (x : Bool). cond x (Some b) (find_code (drop (b + 1) (codes_of s)) (b + 1) code)) z

pub seat_none : (s : Plain) (b : ℕ) (code : List ℕ) → length s.bodies ≤ b → find_code (drop b (codes_of s)) b code ≡ None
unfolding find_code
seat_none s b code h =
    ap (λ (xs : List (List ℕ)). find_code xs b code) (drop_of_length-le (codes_of s) {i = b} (omega (arith, codes_long s)))

-- a body that is found is one of them
pub numbered_low : (s : Plain) (code : List ℕ) (b : ℕ) → numbered s code ≡ Some b → b < length s.bodies
numbered_low s code b e = omega (arith, (find_is (codes_of s) 0 code b e).below, codes_long s)
