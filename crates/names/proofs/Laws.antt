-- Laws of a text's characters, once the five references are replaced.
use Rattle.std.specs.Prelude.{Result, Ok, Err}
use Rattle.std.specs.Result.{result_unwrap_or}
use mathlib.Core.Path.{◌≡◌, refl, sym, ap, subst, ◌∙◌}
use mathlib.Core.List.{List, [], ◌∷◌}
use mathlib.Core.Option.{none, some}
use mathlib.Core.Bool.{Bool, true, false, cond, ◌&&◌, and-false}
use Prim.Native.Nat.{ℕ, zero, suc, ◌+◌, ◌-◌, ◌*◌, ◌≤◌, ◌<◌}
use native.Mathlib.Nat.{add-zero}
use native.Mathlib.Numerals.{sub-one}
use native.Mathlib.Omega.{arith}
use lib.ListN.{length, drop, drop_of_length-le}
use lib.Seq.{drop-cons, drop-drop, get_or-drop}
use lib.Dec.{leb}
use borrow.Author.Tests.{ne_eqb, le-leb, lt-leb}
use Rattle.scan.specs.Bytes.{byte_at, between, starts_with, has_at}
use Rattle.scan.specs.Characters.{is_char, sized, is_tail, char_size, char_size_at, char_at}
use Rattle.scan.specs.References.{Reference, references, which_at, ref_at}
use Rattle.scan.proofs.Laws.{choose, both, in_range, has_within, sized_is, size_one, tail_low, char_past, char_sized, char_unsized, Each, ref_is, ref_is_none, ref_past}
use Rattle.names.specs.Names.{meant, follow, replaced_after, references_replaced, characters_after, characters, anagrafica}
use Rattle.names.specs.Inner.{OnePast}

-- REFERENCES
-- where no & stands there is no reference
pub ref_plain : (b : ℕ) (t : List ℕ) → (b ≡ 38 → ⊥) → which_at references (b ∷ t) 0 ≡ none
unfolding which_at has_at starts_with
ref_plain b t n = rw (ne_eqb b 38 n)

-- a tail stays as it is, and nothing else becomes one
tail_kept : (b : ℕ) (t : List ℕ) → is_tail b ≡ true → references_replaced (b ∷ t) ≡ b ∷ references_replaced t
unfolding replaced_after
tail_kept b t e = let l = tail_low b e in rw (ref_plain b t (λ z. omega arith))

meant_plain : (rs : List Reference) (s : List ℕ) (b : ℕ) → Each (λ (r : Reference). is_tail r.means ≡ false) rs → is_tail b ≡ false → is_tail (meant (which_at rs s 0) b) ≡ false
unfolding which_at
meant_plain [] s b h e = e
meant_plain (r ∷ rs) s b h e = go (has_at r.written s 0) (meant_plain rs s b h.1 e)
  where
    go : (k : Bool) → is_tail (meant (which_at rs s 0) b) ≡ false → is_tail (meant (cond k (some r) (which_at rs s 0)) b) ≡ false
    go true m = h.0
    go false m = m

none_made : (t : List ℕ) → is_tail (byte_at t 0) ≡ false → is_tail (byte_at (references_replaced t) 0) ≡ false
unfolding replaced_after is_tail
none_made [] e = refl
none_made (b ∷ t) e = meant_plain references (b ∷ t) b (refl, (refl, (refl, (refl, (refl, tt))))) e

-- CHARACTERS
-- bytes past one that is no tail don't count
module _ (a b c d y z w : ℕ) where
  no_second : is_tail b ≡ false → is_tail y ≡ false → char_size a b c d ≡ char_size a y z w
  unfolding char_size
  no_second e f = simp (e, f, and-false)

  no_third : is_tail c ≡ false → is_tail z ≡ false → char_size a b c d ≡ char_size a b z w
  unfolding char_size
  no_third e f = simp (e, f, and-false)

  no_fourth : is_tail d ≡ false → is_tail w ≡ false → char_size a b c d ≡ char_size a b c w
  unfolding char_size
  no_fourth e f = simp (e, f, and-false)

-- two texts that are the same up to the first byte that is no tail, and have none there
data Alike : List ℕ → List ℕ → Type 0 where
  stop : {u v : List ℕ} → is_tail (byte_at u 0) ≡ false → is_tail (byte_at v 0) ≡ false → Alike u v
  same : {b : ℕ} {u v : List ℕ} → Alike u v → Alike (b ∷ u) (b ∷ v)

replaced_alike : (t : List ℕ) → Alike (references_replaced t) t
unfolding is_tail
replaced_alike [] = stop (none_made [] refl) refl
replaced_alike (b ∷ t) = go (is_tail b) refl (replaced_alike t)
  where
    go : (k : Bool) → is_tail b ≡ k → Alike (references_replaced t) t → Alike (references_replaced (b ∷ t)) (b ∷ t)
    go true e l = rw (tail_kept b t e) (same l)
    go false e l = stop (none_made (b ∷ t) e) e

alike_size : (a : ℕ) {u v : List ℕ} → Alike u v → char_size_at (a ∷ u) 0 ≡ char_size_at (a ∷ v) 0
alike_size a (stop e f) = no_second a _ _ _ _ _ _ e f
alike_size a (same {b = b} (stop e f)) = no_third a b _ _ 0 _ _ e f
alike_size a (same {b = b} (same {b = c} (stop e f))) = no_fourth a b c _ 0 0 _ e f
alike_size a (same (same (same l))) = refl

-- t begins with k tails
abbrev Tails : ℕ → List ℕ → Type 0
Tails zero t = Unit
Tails (suc k) t = (is_tail (byte_at t 0) ≡ true) × Tails k (drop 1 t)

-- behind a character's first byte stand at most three
abbrev Behind : ℕ → List ℕ → Type 0
Behind k t = (k ≤ 3) × Tails k t

next_byte : (t : List ℕ) (j : ℕ) → byte_at (drop 1 t) j ≡ byte_at t (suc j)
next_byte [] j = refl
next_byte (b ∷ t) j = refl

module _ (a : ℕ) (t : List ℕ) (k : ℕ) where
  sized_tails : (n least v : ℕ) → sized (suc n) least v ≡ suc k → n ≤ 3 → Tails n t → Behind k t
  sized_tails n least v e l h = let z = (sized_is (suc n) least v k e).0 in let q : n ≡ k = omega arith in subst (λ (m : ℕ). Behind m t) q (l, h)

  one_byte : leb a 127 ≡ true → sized 1 0 a ≡ suc k → Behind k t
  one_byte x e = sized_tails 0 0 a e (omega arith) tt

  two_bytes : (r : Bool) (v : ℕ) → (r && is_tail (byte_at t 0)) ≡ true → sized 2 128 v ≡ suc k → Behind k t
  two_bytes r v x e = sized_tails 1 128 v e (omega arith) ((both r (is_tail (byte_at t 0)) x).1, tt)

  three_bytes : (r : Bool) (v : ℕ) → (r && (is_tail (byte_at t 0) && is_tail (byte_at t 1))) ≡ true → sized 3 2048 v ≡ suc k → Behind k t
  three_bytes r v x e =
      let y = both (is_tail (byte_at t 0)) (is_tail (byte_at t 1)) (both r (is_tail (byte_at t 0) && is_tail (byte_at t 1)) x).1 in
      sized_tails 2 2048 v e (omega arith) (y.0, (rw (next_byte t 0) y.1, tt))

  four_bytes : (r : Bool) (v : ℕ) → (r && (is_tail (byte_at t 0) && (is_tail (byte_at t 1) && is_tail (byte_at t 2)))) ≡ true → sized 4 65536 v ≡ suc k → Behind k t
  four_bytes r v x e =
      let y = both (is_tail (byte_at t 0)) (is_tail (byte_at t 1) && is_tail (byte_at t 2)) (both r (is_tail (byte_at t 0) && (is_tail (byte_at t 1) && is_tail (byte_at t 2))) x).1 in
      let z = both (is_tail (byte_at t 1)) (is_tail (byte_at t 2)) y.1 in
      sized_tails 3 65536 v e (omega arith) (y.0, (rw (next_byte t 0) z.0, (rw (next_byte (drop 1 t) 0, next_byte t 1) z.1, tt)))

  size_tails : char_size_at (a ∷ t) 0 ≡ suc k → Behind k t
  unfolding char_size
  size_tails f =
      choose _ one_byte
      (choose _ (two_bytes (between 192 223 a) ((a - 192) * 64 + (byte_at t 0 - 128)))
      (choose _ (three_bytes (between 224 239 a) ((a - 224) * 4096 + (byte_at t 0 - 128) * 64 + (byte_at t 1 - 128)))
      (choose _ (four_bytes (between 240 247 a) ((a - 240) * 262144 + (byte_at t 0 - 128) * 4096 + (byte_at t 1 - 128) * 64 + (byte_at t 2 - 128))) (λ e. absurd (omega arith))))) f

-- the rest of a character is passed over as it stands in the text
pub none_left : (k : ℕ) → characters_after k (references_replaced []) ≡ 0
unfolding replaced_after characters_after
none_left k = refl

tails_past : (k : ℕ) (t : List ℕ) → Tails k t → characters_after k (references_replaced t) ≡ characters (references_replaced (drop k t))
unfolding characters_after
tails_past zero t h = refl
tails_past (suc k) [] h = none_left (suc k) ∙ sym (none_left 0)
tails_past (suc k) (b ∷ t) h = rw (tail_kept b t h.0) (tails_past k t h.1)

rest_tails : (b : ℕ) (t : List ℕ) → Tails (char_size_at (b ∷ t) 0 - 1) t
rest_tails b t = go (char_size_at (b ∷ t) 0) refl
  where
    go : (n : ℕ) → char_size_at (b ∷ t) 0 ≡ n → Tails (n - 1) t
    go zero e = tt
    go (suc k) e = rw sub-one (size_tails b t k e).1

-- where no reference stands, one character is counted
pub one_char : (b : ℕ) (t : List ℕ) → which_at references (b ∷ t) 0 ≡ none → characters (references_replaced (b ∷ t)) ≡ suc (characters (references_replaced (drop (char_size_at (b ∷ t) 0 - 1) t)))
unfolding replaced_after characters_after
one_char b t e = rw (e, alike_size b (replaced_alike t)) (ap suc (tails_past (char_size_at (b ∷ t) 0 - 1) t (rest_tails b t)))

-- an ASCII byte is at most a character of one byte
pub ascii_size : (a b c d : ℕ) → a ≤ 127 → char_size a b c d - 1 ≡ 0
unfolding sized
ascii_size a b c d h = rw (size_one refl refl refl refl h) (go (leb 0 a && is_char a))
  where
    go : (k : Bool) → cond k 1 0 - 1 ≡ 0
    go true = refl
    go false = refl

-- A TEXT FROM A POSITION ON
replaced_skip : (k : ℕ) (t : List ℕ) (j : ℕ) → j + k ≤ length t → replaced_after k (drop j t) ≡ replaced_after 0 (drop (j + k) t)
unfolding replaced_after
replaced_skip zero t j h = rw (add-zero j)
replaced_skip (suc k) t j h =
    let q : suc j + k ≡ j + suc k = omega arith in
    let w : j < length t = omega arith in
    rw (drop-cons t j 0 w, ← q) (replaced_skip k t (suc j) (omega arith))

-- one of the five: its length, and that it stands for an ASCII character
abbrev Written : Reference → Type 0
Written r = (n : ℕ) × (length r.written ≡ suc n) × (r.means ≤ 127)

five : Each Written references
five = ((4, refl, omega arith), ((3, refl, omega arith), ((3, refl, omega arith), ((5, refl, omega arith), ((5, refl, omega arith), tt)))))

module _ (t : List ℕ) (i : ℕ) (h : i < length t) where
  which_from : which_at references (drop i t) 0 ≡ which_at references t i
  unfolding which_at has_at
  which_from = refl

  which_here : which_at references (byte_at t i ∷ drop (suc i) t) 0 ≡ which_at references t i
  which_here = rw (drop-cons t i 0 h) at which_from

  size_here : char_size_at (byte_at t i ∷ drop (suc i) t) 0 ≡ char_size_at t i
  size_here =
      let p : suc i + 0 ≡ i + 1 = omega arith in
      let q : suc i + 1 ≡ i + 2 = omega arith in
      let r : suc i + 2 ≡ i + 3 = omega arith in
      simp get_or-drop (rw (p, q, r))

  pub char_most : char_size_at t i ≤ 4
  char_most = go (char_size_at t i) refl
    where
      go : (n : ℕ) → char_size_at t i ≡ n → n ≤ 4
      go zero e = omega arith
      go (suc k) e = omega (arith, (size_tails (byte_at t i) (drop (suc i) t) k (size_here ∙ e)).0)

  -- a character
  char_counted : which_at references t i ≡ none → characters (references_replaced (drop i t)) ≡ suc (characters (references_replaced (drop (suc i + (char_size_at t i - 1)) t)))
  char_counted e = rw (drop-cons t i 0 h) (one_char (byte_at t i) (drop (suc i) t) (which_here ∙ e) ∙ rw (size_here, drop-drop))

  ascii_past : which_at references t i ≡ none → byte_at t i ≤ 127 → OnePast t i (i + 1)
  ascii_past e l =
      let z = ascii_size (byte_at t i) (byte_at t (i + 1)) (byte_at t (i + 2)) (byte_at t (i + 3)) l in
      let q : suc i + (char_size_at t i - 1) ≡ i + 1 = omega arith in
      record { on = omega arith; within = omega arith; counted = rw q at (char_counted e) }

  plain_here : (byte_at t i ≡ 38 → ⊥) → which_at references t i ≡ none
  plain_here n = sym which_here ∙ ref_plain (byte_at t i) (drop (suc i) t) n

  module _ (n : byte_at t i ≡ 38 → ⊥) where
    pub past_ascii : byte_at t i ≤ 127 → OnePast t i (i + 1)
    past_ascii = ascii_past (plain_here n)

    pub past_char : (q : ℕ) → char_at t i ≡ Ok q → OnePast t i q
    past_char q e =
        let w = char_past t i q e in
        let s = char_sized t i q e in
        let z : suc i + (char_size_at t i - 1) ≡ q = omega arith in
        record { on = w.on; within = w.within; counted = rw z at (char_counted (plain_here n)) }

    pub past_none : (q : ℕ) → char_at t i ≡ Err q → OnePast t i (i + 1)
    past_none q e =
        let s = char_unsized t i q e in
        let z : suc i + (char_size_at t i - 1) ≡ i + 1 = omega arith in
        record { on = omega arith; within = omega arith; counted = rw z at (char_counted (plain_here n)) }

    pub past_char_or : OnePast t i (result_unwrap_or (char_at t i) (i + 1))
    past_char_or = go (char_at t i) refl
      where
        go : (r : Result ℕ ℕ) → char_at t i ≡ r → OnePast t i (result_unwrap_or r (i + 1))
        go (Ok q) e = past_char q e
        go (Err q) e = past_none q e

  -- a reference
  pub past_amp : (q : ℕ) → byte_at t i ≡ 38 → ref_at t i ≡ Err q → OnePast t i (i + 1)
  past_amp q b e = ascii_past (ref_is_none t i q e) (omega arith)

  ref_counted : (r : Reference) (n : ℕ) → length r.written ≡ suc n → r.means ≤ 127 → i + length r.written ≤ length t → which_at references t i ≡ some r → characters (references_replaced (drop i t)) ≡ suc (characters (references_replaced (drop (i + length r.written) t)))
  unfolding replaced_after characters_after
  ref_counted r n l m w e =
      let q : i + suc n ≡ suc i + n = omega arith in
      rw (drop-cons t i 0 h, which_here ∙ e, l, q, sub-one, ascii_size r.means _ _ _ m) (ap (λ (x : List ℕ). suc (characters x)) (replaced_skip n t (suc i) (omega arith)))

  pub past_ref_lem : (q : ℕ) → ref_at t i ≡ Ok q → OnePast t i q
  past_ref_lem q e =
      let r = ref_is Written t i q five e in
      let w = has_within r.which.written t i (omega arith) r.there in
      let c = ref_counted r.which r.holds.0 r.holds.1 r.holds.2 w r.is in
      let g = ref_past t i q e in
      record { on = g.on; within = g.within; counted = rw r.past at c }

  pub past_ref_or : byte_at t i ≡ 38 → OnePast t i (result_unwrap_or (ref_at t i) (i + 1))
  past_ref_or b = go (ref_at t i) refl
    where
      go : (r : Result ℕ ℕ) → ref_at t i ≡ r → OnePast t i (result_unwrap_or r (i + 1))
      go (Ok q) e = past_ref_lem q e
      go (Err q) e = past_amp q b e

pub characters_end : (t : List ℕ) (i : ℕ) → length t ≤ i → characters (references_replaced (drop i t)) ≡ 0
characters_end t i h = rw (drop_of_length-le t h) (none_left 0)

-- BOUNDS: no more characters than bytes, and one where there is a byte
pub after_most : (k : ℕ) (t : List ℕ) → characters_after k t ≤ length t
unfolding characters_after
after_most k [] = omega arith
after_most (suc k) (b ∷ t) = omega (arith, after_most k t)
after_most zero (b ∷ t) = omega (arith, after_most (char_size_at (b ∷ t) 0 - 1) t)

replaced_most : (k : ℕ) (t : List ℕ) → length (replaced_after k t) ≤ length t
unfolding replaced_after
replaced_most k [] = omega arith
replaced_most (suc k) (b ∷ t) = omega (arith, replaced_most k t)
replaced_most zero (b ∷ t) = omega (arith, replaced_most (follow (which_at references (b ∷ t) 0)) t)

pub never_more : (t : List ℕ) → characters (references_replaced t) ≤ length t
never_more t = omega (arith, after_most 0 (references_replaced t), replaced_most 0 t)

pub one_at_least : (t : List ℕ) → 1 ≤ length t → 1 ≤ characters t
unfolding characters_after
one_at_least [] h = absurd (omega arith)
one_at_least (b ∷ t) h = omega arith

replaced_some : (t : List ℕ) → 1 ≤ length t → 1 ≤ length (references_replaced t)
unfolding replaced_after
replaced_some [] h = absurd (omega arith)
replaced_some (b ∷ t) h = omega arith

-- anagrafica, a way out of the code at a time
module _ (t : List ℕ) where
  pub name_empty : length t < 1 → anagrafica t ≡ false
  unfolding anagrafica
  name_empty h = let m = never_more t in rw (lt-leb 1 (characters (references_replaced t)) (omega arith))

  module _ (h : 1 ≤ length t) where
    pub name_counted : anagrafica t ≡ leb (characters (references_replaced t)) 140
    unfolding anagrafica
    name_counted = rw (le-leb 1 (characters (references_replaced t)) (one_at_least (references_replaced t) (replaced_some t h)))

    pub name_short : length t ≤ 140 → anagrafica t ≡ true
    name_short k = name_counted ∙ le-leb (characters (references_replaced t)) 140 (omega (arith, never_more t))

-- how long a name is
pub anagrafica_length : (t : List ℕ) → anagrafica t ≡ true → (1 ≤ length t) × (characters (references_replaced t) ≤ 140)
unfolding anagrafica
anagrafica_length t e = let k = in_range 1 140 (characters (references_replaced t)) e in let m = never_more t in (omega arith, k.1)
