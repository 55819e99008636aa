-- Whatever is of the grammar is accepted, where it stands.
use Rattle.std.specs.Prelude.{Result, Ok}
use mathlib.Core.Path.{◌≡◌, refl, sym, ap, subst, ◌∙◌}
use mathlib.Core.List.{List, [], ◌∷◌, ◌++◌, append_assoc}
use mathlib.Core.Bool.{Bool, true, false, ◌&&◌, ◌||◌}
use mathlib.Core.Logic.{◌⊎◌, inl, inr, ⊎_elim}
use Prim.Native.Nat.{ℕ, zero, suc, ◌+◌, ◌-◌, ◌*◌, ◌≤◌, ◌<◌}
use native.Mathlib.Nat.{add-zero}
use native.Mathlib.Numerals.{sub-one}
use native.Mathlib.Omega.{arith}
use lib.ListN.{length, get_or, drop, length-append, get_or-eq_default}
use lib.Seq.{get_or-drop}
use lib.Dec.{leb, eqb}
use borrow.Author.Tests.{eqb-true, eqb-false, leb-true, leb-false, le-leb, eq-eqb, ne_eqb}
use Rattle.scan.specs.Bytes.{bytes, byte_at, part, is_letter, is_digit, is_name_byte, is_white, all, run, run_end, starts_with, has_at}
use Rattle.scan.specs.Characters.{is_char, sized, is_tail, char_size_at, char_at}
use Rattle.scan.specs.References.{which_at, ref_at}
use Rattle.scan.proofs.Laws.{both, run_more, run_stop, run_end_lem, size_one, size_two, size_three, size_four, char_some}
use Rattle.tokens.specs.Tokens.{name_at, id_at, tag_end_at, white_at, piece_at, text_at, end_tag_at, optional_at}
use Rattle.tokens.proofs.Laws.{name_some, id_some, tag_plain, tag_id, piece_ref, piece_char, text_stop, text_step, end_some}
use Rattle.markup.specs.Markup.{children_by, element_at, content_at, mark, declaration, root_from, markup_of}
use Rattle.markup.proofs.Laws.{content_text, content_empty, content_children, children_stop, children_step, element_ends, root_is, markup_root, root_ends}
use Rattle.grammar.specs.Grammar.{Name, name, White, white, Allowed, Character, one, two, three, four, Piece, char, amp, lt, gt, quot, apos, Pieces, none, more, Without, text, start_tag, end_tag, Element, element, Content, elements, only, Elements, last, next, Optional, absent, present, Mark, Declaration, Id, id, RootTag, plain, with_id, root, Document, document, root_place, name_end, content_place}
use Rattle.grammar.proofs.Parts.{no, not_so, has_part, has_split, has_byte}
use Rattle.grammar.proofs.Pieces.{other, not_other}

-- RUNS: bytes of one kind, with a byte of another kind behind them
run_is : (f : ℕ → Bool) (n t : List ℕ) → all f n ≡ true → starts_with n t ≡ true → f (get_or t (length n) 0) ≡ false → run f t ≡ length n
unfolding run starts_with all
run_is f [] [] a e k = refl
run_is f [] (y ∷ t) a e k = rw k
run_is f (x ∷ n) [] a e k = no (sym e)
run_is f (x ∷ n) (y ∷ t) a e k =
    let c = both (eqb y x) (starts_with n t) e in
    let d = both (f x) (all f n) a in
    let z : y ≡ x = eqb-true y x c.0 in
    let g : f y ≡ true = rw z d.0 in
    let h = run_is f n t d.1 c.1 k in
    rw (g, h)

run_end_is : (s : List ℕ) (f : ℕ → Bool) (n : List ℕ) (p : ℕ) → all f n ≡ true → has_at n s p ≡ true → f (byte_at s (p + length n)) ≡ false → run_end f s p ≡ p + length n
unfolding run_end has_at
run_end_is s f n p a e k = ap (λ (j : ℕ). p + j) (run_is f n (drop p s) a e (rw get_or-drop k))

-- x, where it stands at the front
pub starts_join : (x t : List ℕ) → starts_with x t ≡ true → t ≡ x ++ drop (length x) t
unfolding starts_with
starts_join [] t e = refl
starts_join (a ∷ x) [] e = no (sym e)
starts_join (a ∷ x) (b ∷ t) e =
    let c = both (eqb b a) (starts_with x t) e in
    let z : b ≡ a = eqb-true b a c.0 in
    let h = starts_join x t c.1 in
    cc

-- k stands not in t, if it stands not in u, u stands in t, and behind u stands a < that k has not
not_over : (k u t : List ℕ) → all (other 60) k ≡ true → starts_with u t ≡ true → get_or t (length u) 0 ≡ 60 → starts_with k u ≡ false → starts_with k t ≡ false
unfolding starts_with all
not_over [] u t a e g f = no f
not_over (x ∷ k) [] [] a e g f = refl
not_over (x ∷ k) [] (y ∷ t) a e g f =
    let n = not_other 60 x (both (other 60 x) (all (other 60) k) a).0 in
    rw (ne_eqb y x (λ z. eqb-false x 60 n (sym z ∙ g)))
not_over (x ∷ k) (v ∷ u) [] a e g f = no (sym e)
not_over (x ∷ k) (v ∷ u) (y ∷ t) a e g f =
    let c = both (eqb y v) (starts_with u t) e in
    let z : y ≡ v = eqb-true y v c.0 in
    rw z (go (eqb v x) f (not_over k u t (both (other 60 x) (all (other 60) k) a).1 c.1 g))
  where
    go : (b : Bool) → (b && starts_with k u) ≡ false → (starts_with k u ≡ false → starts_with k t ≡ false) → (b && starts_with k t) ≡ false
    go true h i = i h
    go false h i = refl

-- CHARACTERS
sized_of : (n least v : ℕ) → Allowed least v → sized n least v ≡ n
unfolding sized
sized_of n least v a = rw (le-leb least v a.short, a.xml)

tail_is : (y : ℕ) → y < 64 → is_tail (128 + y) ≡ true
unfolding is_tail
tail_is y h = rw (le-leb 128 (128 + y) (omega arith), le-leb (128 + y) 191 (omega arith))

module _ (s : List ℕ) (p : ℕ) where
  -- a character of n bytes
  sized_at : (n least v : ℕ) → Allowed least v → char_size_at s p ≡ sized (suc n) least v → char_at s p ≡ Ok (p + suc n)
  sized_at n least v a e = char_some s p (suc n) (sym (e ∙ sized_of (suc n) least v a)) (λ z. omega arith)

  one_is : byte_at s p < 128 → Allowed 0 (byte_at s p) → char_at s p ≡ Ok (p + 1)
  one_is h a = sized_at 0 0 (byte_at s p) a (size_one refl refl refl refl (omega arith))

  pub char_is : {c : List ℕ} → Character c → has_at c s p ≡ true → char_at s p ≡ Ok (p + length c)
  char_is (one {x = x} h a) e =
      let z = has_byte s x [] p e in
      one_is (omega arith) (rw z a)
  char_is (two {x = x} {y = y} h k a) e =
      let z = has_byte s (192 + x) ((128 + y) ∷ []) p e in
      let t = has_byte s (128 + y) [] (p + 1) (has_split s ((192 + x) ∷ []) ((128 + y) ∷ []) p (p + 1) refl e).1 in
      let q : 192 + x - 192 ≡ x = omega arith in
      let r : 128 + y - 128 ≡ y = omega arith in
      sized_at 1 128 (x * 64 + y) a (size_two (sym z) (sym t) refl refl (omega arith) (omega arith) (tail_is y k) (omega arith) ∙ rw (q, r))
  char_is (three {x = x} {y = y} {z = v} h k l a) e =
      let z = has_byte s (224 + x) ((128 + y) ∷ (128 + v) ∷ []) p e in
      let t = has_byte s (128 + y) ((128 + v) ∷ []) (p + 1) (has_split s ((224 + x) ∷ []) ((128 + y) ∷ (128 + v) ∷ []) p (p + 1) refl e).1 in
      let u = has_byte s (128 + v) [] (p + 2) (has_split s ((224 + x) ∷ (128 + y) ∷ []) ((128 + v) ∷ []) p (p + 2) refl e).1 in
      let q : 224 + x - 224 ≡ x = omega arith in
      let r : 128 + y - 128 ≡ y = omega arith in
      let i : 128 + v - 128 ≡ v = omega arith in
      sized_at 2 2048 (x * 4096 + y * 64 + v) a (size_three (sym z) (sym t) (sym u) refl (omega arith) (omega arith) (tail_is y k) (omega arith) (tail_is v l) (omega arith) ∙ rw (q, r, i))
  char_is (four {x = x} {y = y} {z = v} {w = w} h k l m a) e =
      let z = has_byte s (240 + x) ((128 + y) ∷ (128 + v) ∷ (128 + w) ∷ []) p e in
      let t = has_byte s (128 + y) ((128 + v) ∷ (128 + w) ∷ []) (p + 1) (has_split s ((240 + x) ∷ []) ((128 + y) ∷ (128 + v) ∷ (128 + w) ∷ []) p (p + 1) refl e).1 in
      let u = has_byte s (128 + v) ((128 + w) ∷ []) (p + 2) (has_split s ((240 + x) ∷ (128 + y) ∷ []) ((128 + v) ∷ (128 + w) ∷ []) p (p + 2) refl e).1 in
      let o = has_byte s (128 + w) [] (p + 3) (has_split s ((240 + x) ∷ (128 + y) ∷ (128 + v) ∷ []) ((128 + w) ∷ []) p (p + 3) refl e).1 in
      let q : 240 + x - 240 ≡ x = omega arith in
      let r : 128 + y - 128 ≡ y = omega arith in
      let i : 128 + v - 128 ≡ v = omega arith in
      let j : 128 + w - 128 ≡ w = omega arith in
      sized_at 3 65536 (x * 262144 + y * 4096 + v * 64 + w) a (size_four (sym z) (sym t) (sym u) (sym o) (omega arith) (omega arith) (tail_is y k) (omega arith) (tail_is v l) (omega arith) (tail_is w m) (omega arith) ∙ rw (q, r, i, j))

  -- an ASCII byte is a character by itself
  pub char_alone : {c : List ℕ} → Character c → has_at c s p ≡ true → byte_at s p < 128 → c ≡ byte_at s p ∷ []
  char_alone (one {x = x} h a) e l = rw (has_byte s x [] p e)
  char_alone (two {x = x} h k a) e l = let z = has_byte s (192 + x) _ p e in absurd (omega arith)
  char_alone (three {x = x} h k i a) e l = let z = has_byte s (224 + x) _ p e in absurd (omega arith)
  char_alone (four {x = x} h k i j a) e l = let z = has_byte s (240 + x) _ p e in absurd (omega arith)

  -- PIECES
  reference : (t : List ℕ) {r : Result ℕ ℕ} → has_at (38 ∷ t) s p ≡ true → ref_at s p ≡ r → (piece_at s p ≡ r) × (byte_at s p ≡ 60 → ⊥)
  reference t e f = let b = has_byte s 38 t p e in (piece_ref s p b ∙ f, λ z. omega arith)

  pub piece_is : {x : List ℕ} → Piece x → has_at x s p ≡ true → has_at (bytes "]]>") s p ≡ false → (piece_at s p ≡ Ok (p + length x)) × (byte_at s p ≡ 60 → ⊥)
  unfolding ref_at which_at has_at starts_with
  piece_is (char c f g) e h =
      let a : byte_at s p ≡ 38 → ⊥ = λ z. g (rw z at (char_alone c e (omega arith))) in
      let l : byte_at s p ≡ 60 → ⊥ = λ z. f (rw z at (char_alone c e (omega arith))) in
      (piece_char s p a h ∙ char_is c e, l)
  piece_is amp e h = reference (bytes "amp;") e (rw (starts_join (bytes "&amp;") (drop p s) e))
  piece_is lt e h = reference (bytes "lt;") e (rw (starts_join (bytes "&lt;") (drop p s) e))
  piece_is gt e h = reference (bytes "gt;") e (rw (starts_join (bytes "&gt;") (drop p s) e))
  piece_is quot e h = reference (bytes "quot;") e (rw (starts_join (bytes "&quot;") (drop p s) e))
  piece_is apos e h = reference (bytes "apos;") e (rw (starts_join (bytes "&apos;") (drop p s) e))

-- TEXT
module _ (s : List ℕ) where
  -- ]]> stands nowhere in a text, and so not over its end either, where a < stands
  no_close : (t : List ℕ) (p : ℕ) → Without (bytes "]]>") t → has_at t s p ≡ true → byte_at s (p + length t) ≡ 60 → has_at (bytes "]]>") s p ≡ false
  unfolding has_at all
  no_close t p w e y = not_over (bytes "]]>") t (drop p s) refl e (rw get_or-drop y) (not_so (starts_with (bytes "]]>") t) (λ h. w [] (drop 3 t) (starts_join (bytes "]]>") t h)))

  pub without_rest : (k x t : List ℕ) → Without k (x ++ t) → Without k t
  without_rest k x t w a b z = w (x ++ a) b (rw z (simp append_assoc))

  pub text_is_lem : {t : List ℕ} (p : ℕ) → Pieces t → Without (bytes "]]>") t → has_at t s p ≡ true → byte_at s (p + length t) ≡ 60 → text_at s p ≡ Ok (p + length t)
  text_is_lem p none w e y = let z : p + 0 ≡ p = add-zero p in rw z (text_stop s p (rw z at y))
  text_is_lem p (more {p = x} {t = t} pc ps) w e y =
      let h = has_split s x t p (p + length x) refl e in
      let l = length-append x t in
      let i = piece_is s p pc h.0 (no_close (x ++ t) p w e y) in
      let q : p + length x + length t ≡ p + length (x ++ t) = omega arith in
      let j = text_is_lem (p + length x) ps (without_rest (bytes "]]>") x t w) h.1 (rw q y) in
      text_step s p (p + length x) i.1 i.0 ∙ j ∙ ap Ok q

  -- white space is text: a text that starts with it goes on behind it
  white_char : (b : ℕ) → is_white b ≡ true → (b < 128) × (is_char b ≡ true)
  unfolding is_white is_char
  white_char b e = go (eqb b 32) refl (eqb b 9) refl (eqb b 10) refl (eqb b 13) refl e
    where
      is : (v : ℕ) → eqb b v ≡ true → v < 128 → is_char v ≡ true → (b < 128) × (is_char b ≡ true)
      is v h l i = let z = eqb-true b v h in (omega arith, rw z i)

      go : (a : Bool) → eqb b 32 ≡ a → (c : Bool) → eqb b 9 ≡ c → (d : Bool) → eqb b 10 ≡ d → (f : Bool) → eqb b 13 ≡ f → (a || (c || (d || f))) ≡ true → (b < 128) × (is_char b ≡ true)
      go true h c i d j f k e = is 32 h (omega arith) refl
      go false h true i d j f k e = is 9 i (omega arith) refl
      go false h false i true j f k e = is 10 j (omega arith) refl
      go false h false i false j true k e = is 13 k (omega arith) refl
      go false h false i false j false k e = no (sym e)

  white_piece : (p : ℕ) → is_white (byte_at s p) ≡ true → (piece_at s p ≡ Ok (p + 1)) × (byte_at s p ≡ 60 → ⊥)
  unfolding is_white
  white_piece p w =
      let a : byte_at s p ≡ 38 → ⊥ = λ z. no (sym (rw z at w)) in
      let b : byte_at s p ≡ 60 → ⊥ = λ z. no (sym (rw z at w)) in
      let c = not_so (has_at (bytes "]]>") s p) (λ h. let z = has_byte s 93 (bytes "]>") p h in no (sym (rw z at w))) in
      let d = white_char (byte_at s p) w in
      (piece_char s p a c ∙ one_is s p d.0 (record { short = omega arith; xml = d.1 }), b)

  pub white_text : (n p : ℕ) → length s - p ≤ n → text_at s p ≡ text_at s (white_at s p)
  unfolding is_white
  white_text zero p h = ap (text_at s) (sym (run_end_lem is_white s p (omega arith)))
  white_text (suc n) p h = go (leb (length s) p) refl (is_white (byte_at s p)) refl (white_text n (p + 1))
    where
      go : (a : Bool) → leb (length s) p ≡ a → (b : Bool) → is_white (byte_at s p) ≡ b → (length s - (p + 1) ≤ n → text_at s (p + 1) ≡ text_at s (white_at s (p + 1))) → text_at s p ≡ text_at s (white_at s p)
      go true f b g ih = ap (text_at s) (sym (run_end_lem is_white s p (leb-true (length s) p f)))
      go false f false g ih = ap (text_at s) (sym (run_stop is_white s p (omega (arith, leb-false (length s) p f)) g))
      go false f true g ih =
          let w = white_piece p g in
          text_step s p (p + 1) w.1 w.0 ∙ ih (omega arith) ∙ ap (text_at s) (sym (run_more is_white s p (omega (arith, leb-false (length s) p f)) g))

  -- </ is a < and a /
  pub open_of : (p : ℕ) → has_at (bytes "</") s p ≡ true → (byte_at s p ≡ 60) × (byte_at s (p + 1) ≡ 47)
  open_of p e = (has_byte s 60 (bytes "/") p e, has_byte s 47 [] (p + 1) (has_split s (bytes "<") (bytes "/") p (p + 1) refl e).1)

  -- text, up to an end tag, is content
  text_content : (d p q : ℕ) → text_at s p ≡ Ok q → has_at (bytes "</") s q ≡ true → content_at d s p ≡ Ok q
  text_content d p q t e = go (eqb (byte_at s (white_at s p)) 60) refl
    where
      go : (b : Bool) → eqb (byte_at s (white_at s p)) 60 ≡ b → content_at d s p ≡ Ok q
      go true h =
          let y : byte_at s (white_at s p) ≡ 60 = eqb-true _ _ h in
          let a : ◌≡◌ {A = Result ℕ ℕ} (Ok (white_at s p)) (Ok q) = sym (text_stop s (white_at s p) y) ∙ sym (white_text (length s) p (omega arith)) ∙ t in
          let z : white_at s p ≡ q = cc in
          content_empty d s p y (open_of (white_at s p) (rw z e)).1 ∙ t
      go false h = content_text d s p (eqb-false _ _ h) ∙ t

  -- white space ends where another byte stands
  pub white_is : {w : List ℕ} (p : ℕ) → White w → has_at w s p ≡ true → is_white (byte_at s (p + length w)) ≡ false → white_at s p ≡ p + length w
  white_is p (white {t = w} a) e y = run_end_is s is_white w p a e y

  -- a name, with another byte behind it
  name_by : {n : List ℕ} (p : ℕ) → Name n → has_at n s p ≡ true → is_name_byte (byte_at s (p + length n)) ≡ false → (name_at s p ≡ Ok (p + length n)) × (is_letter (byte_at s p) ≡ true)
  unfolding is_name_byte is_letter is_digit all
  name_by p (name {b = b} {t = t} l a k) e y =
      let z = has_byte s b t p e in
      let q : is_letter (byte_at s p) ≡ true = rw z l in
      let n : is_name_byte b ≡ true = rw l in
      let m : all is_name_byte (b ∷ t) ≡ true = rw (n, a) in
      let r = run_end_is s is_name_byte (b ∷ t) p m e y in
      (name_some s p q (p + length (b ∷ t)) (sym r) (omega arith), q)

  name_is_lem : {n : List ℕ} (p : ℕ) → Name n → has_at n s p ≡ true → byte_at s (p + length n) ≡ 62 → (name_at s p ≡ Ok (p + length n)) × (is_letter (byte_at s p) ≡ true)
  unfolding is_name_byte is_letter is_digit
  name_is_lem p na e y = name_by p na e (rw y)

  -- an Id and a > behind it
  id_is : (v : List ℕ) (p : ℕ) → all is_name_byte v ≡ true → 1 ≤ length v → length v ≤ 64 → has_at (bytes " Id=\"" ++ (v ++ bytes "\">")) s p ≡ true → id_at s p ≡ Ok (p + 5 + length v + 2)
  unfolding is_name_byte is_letter is_digit
  id_is v p a l k h =
      let b = has_split s (bytes " Id=\"") (v ++ bytes "\">") p (p + 5) refl h in
      let c = has_split s v (bytes "\">") (p + 5) (p + 5 + length v) refl b.1 in
      let y = has_byte s 34 (bytes ">") (p + 5 + length v) c.1 in
      let r = run_end_is s is_name_byte v (p + 5) a c.0 (rw y) in
      id_some s p b.0 (p + 5 + length v) (sym r) (omega arith) (omega arith) c.1

  end_is : (a e p : ℕ) (n : List ℕ) → e ≡ a + length n → has_at n s a ≡ true → has_at (bytes "</") s p ≡ true → has_at n s (p + 2) ≡ true → byte_at s (p + 2 + length n) ≡ 62 → end_tag_at s a e p ≡ Ok (p + 2 + length n + 1)
  end_is a e p n z h o k y =
      let w : part s a e ≡ n = rw z (has_part s n a h) in
      let l : e - a ≡ length n = omega arith in
      end_some s a e p o (rw w k) (rw l y) ∙ rw l

  -- an end tag that stands at p, of the name that stands at a
  end_tag_is : (a p : ℕ) (n : List ℕ) → has_at n s a ≡ true → has_at (end_tag n) s p ≡ true → (has_at (bytes "</") s p ≡ true) × (end_tag_at s a (a + length n) p ≡ Ok (p + length (end_tag n)))
  end_tag_is a p n h k =
      let l = length-append n (bytes ">") in
      let b = has_split s (60 ∷ 47 ∷ n) (bytes ">") p (p + 2 + length n) (omega arith) k in
      let o = has_split s (bytes "</") n p (p + 2) refl b.0 in
      let f : p + 2 + length n + 1 ≡ p + length (end_tag n) = omega arith in
      (o.0, end_is a (a + length n) p n refl h o.0 o.1 (has_byte s 62 [] (p + 2 + length n) b.1) ∙ ap Ok f)

-- AN ELEMENT of name n and content c that stands at p: where its parts stand
pub record Laid (s : List ℕ) (p : ℕ) (n c : List ℕ) : Type 0 where
  pub opens : byte_at s p ≡ 60
  pub letter : is_letter (byte_at s (p + 1)) ≡ true
  pub there : has_at n s (p + 1) ≡ true
  pub name : name_at s (p + 1) ≡ Ok (p + 1 + length n)
  pub tag : byte_at s (p + 1 + length n) ≡ 62
  pub inside : has_at c s (p + 1 + length n + 1) ≡ true
  pub closed : has_at (bytes "</") s (p + 1 + length n + 1 + length c) ≡ true
  pub ends : end_tag_at s (p + 1) (p + 1 + length n) (p + 1 + length n + 1 + length c) ≡ Ok (p + length (start_tag n ++ c ++ end_tag n))

pub laid : (s : List ℕ) (p : ℕ) (n c : List ℕ) → Name n → has_at (start_tag n ++ c ++ end_tag n) s p ≡ true → Laid s p n c
laid s p n c na h =
    let e = p + 1 + length n in
    let m = e + 1 + length c in
    let l₁ = length-append (start_tag n ++ c) (end_tag n) in
    let l₂ = length-append (start_tag n) c in
    let l₃ = length-append n (bytes ">") in
    let a₁ = has_split s (start_tag n ++ c) (end_tag n) p m (omega arith) h in
    let a₂ = has_split s (start_tag n) c p (e + 1) (omega arith) a₁.0 in
    let a₃ = has_split s (60 ∷ n) (bytes ">") p e (omega arith) a₂.0 in
    let a₄ = has_split s (bytes "<") n p (p + 1) refl a₃.0 in
    let y = has_byte s 62 [] e a₃.1 in
    let x = name_is_lem s (p + 1) na a₄.1 y in
    let t = end_tag_is s (p + 1) m n a₄.1 a₁.1 in
    let f : m + length (end_tag n) ≡ p + length (start_tag n ++ c ++ end_tag n) = omega arith in
    record { opens = has_byte s 60 n p a₃.0; letter = x.1; there = a₄.1; name = x.0; tag = y; inside = a₂.1; closed = t.0; ends = t.1 ∙ ap Ok f }

-- what is to be shown of an element of d levels that stands at p: it is read, and begins with < and a letter
pub record Read (s : List ℕ) (d p : ℕ) (e : List ℕ) : Type 0 where
  pub reads : element_at d s (p + 1) ≡ Ok (p + length e)
  pub opens : byte_at s p ≡ 60
  pub named : is_letter (byte_at s (p + 1)) ≡ true

abbrev pub Reads : List ℕ → ℕ → Type 0
Reads s d = (p : ℕ) (e : List ℕ) → Element d e → has_at e s p ≡ true → Read s d p e

-- a letter is no /
no_slash : (b : ℕ) → is_letter b ≡ true → b ≡ 47 → ⊥
unfolding is_letter
no_slash b l z = no (sym (rw z at l))

pub no_white : (b : ℕ) → b ≡ 60 → is_white b ≡ false
unfolding is_white
no_white b z = rw z

module _ (s : List ℕ) (d : ℕ) (ih : Reads s d) where
  -- one child that stands at p, with its white space and a < behind it
  child_is : (p q : ℕ) (e w : List ℕ) → Element d e → White w → has_at (e ++ w) s p ≡ true → q ≡ p + length (e ++ w) → byte_at s q ≡ 60
      → (children_by (element_at d s) s p ≡ children_by (element_at d s) s q) × Read s d p e
  child_is p q e w el wh h z y =
      let a = has_split s e w p (p + length e) refl h in
      let l = length-append e w in
      let r = ih p e el a.0 in
      let o = not_so (has_at (bytes "</") s p) (λ x. no_slash _ r.named (open_of s p x).1) in
      let f : p + length e + length w ≡ q = omega arith in
      let v : white_at s (p + length e) ≡ q = white_is s (p + length e) wh a.1 (no_white _ (rw f y)) ∙ f in
      (children_step d s p o r.opens (p + length e) r.reads ∙ ap (children_by (element_at d s) s) v, r)

  pub elements_is : (p : ℕ) (k : List ℕ) → Elements d k → has_at k s p ≡ true → has_at (bytes "</") s (p + length k) ≡ true
      → (children_by (element_at d s) s p ≡ Ok (p + length k)) × (byte_at s p ≡ 60) × (is_letter (byte_at s (p + 1)) ≡ true)
  elements_is p k (last {e = e} {w = w} el wh) h o =
      let q = p + length (e ++ w) in
      let r = child_is p q e w el wh h refl (open_of s q o).0 in
      (r.0 ∙ children_stop d s q o, r.1.opens, r.1.named)
  elements_is p k (next {e = e} {w = w} {k = j} el wh ks) h o =
      let a = has_split s (e ++ w) j p (p + length (e ++ w)) refl h in
      let l = length-append (e ++ w) j in
      let q = p + length (e ++ w) in
      let z : q + length j ≡ p + length (e ++ w ++ j) = omega arith in
      let m = elements_is q j ks a.1 (rw z o) in
      let r = child_is p q e w el wh a.0 refl m.1 in
      (r.0 ∙ m.0 ∙ ap Ok z, r.1.opens, r.1.named)

  pub content_is : (p : ℕ) (c : List ℕ) → Content d c → has_at c s p ≡ true → has_at (bytes "</") s (p + length c) ≡ true → content_at d s p ≡ Ok (p + length c)
  content_is p c (only (text ps wo)) h o = text_content s d p (p + length c) (text_is_lem s p ps wo h (open_of s (p + length c) o).0) o
  content_is p c (elements {w = w} {k = k} wh ks) h o =
      let a = has_split s w k p (p + length w) refl h in
      let l = length-append w k in
      let q : p + length w + length k ≡ p + length (w ++ k) = omega arith in
      let r = elements_is (p + length w) k ks a.1 (rw q o) in
      let z = white_is s p wh a.0 (no_white _ r.1) in
      let y : byte_at s (white_at s p) ≡ 60 = rw z r.1 in
      let u : is_letter (byte_at s (white_at s p + 1)) ≡ true = rw z r.2 in
      content_children d s p y (no_slash _ u) ∙ rw z (r.0 ∙ ap Ok q)

  parts_is : (p : ℕ) (n c : List ℕ) → Name n → Content d c → has_at (start_tag n ++ c ++ end_tag n) s p ≡ true → Read s (suc d) p (start_tag n ++ c ++ end_tag n)
  parts_is p n c na co h =
      let e = p + 1 + length n in
      let w = laid s p n c na h in
      let k : content_at (suc d - 1) s (e + 1) ≡ Ok (e + 1 + length c) = rw sub-one (content_is (e + 1) c co w.inside w.closed) in
      record { reads = element_ends (suc d) s (p + 1) (λ z. absurd (omega arith)) e w.name w.tag (e + 1 + length c) k ∙ w.ends; opens = w.opens; named = w.letter }

levels : {d : ℕ} {e : List ℕ} → Element d e → (k : ℕ) × (d ≡ suc k)
levels (element {d = k} na co) = (k, refl)

-- an element has at least one level
pub no_level : {e : List ℕ} {A : Type 0} → Element 0 e → A
no_level x = let l = levels x in let z : 0 ≡ suc l.0 = l.1 in absurd (omega arith)

one_more : (s : List ℕ) (d : ℕ) → Reads s d → Reads s (suc d)
one_more s d ih p e (element {n = n} {c = c} na co) h = parts_is s d ih p n c na co h

pub element_is : (s : List ℕ) (d : ℕ) → Reads s d
element_is s zero p e x h = no_level x
element_is s (suc d) p e x h = one_more s d (element_is s d) p e x h

-- THE ROOT
-- what is to be shown of a root's start tag a that stands at p, and of a root
pub record TagRead (ids : Bool) (s : List ℕ) (p : ℕ) (n a : List ℕ) : Type 0 where
  pub opens : byte_at s p ≡ 60
  pub letter : is_letter (byte_at s (p + 1)) ≡ true
  pub there : has_at n s (p + 1) ≡ true
  pub name : name_at s (p + 1) ≡ Ok (p + 1 + length n)
  pub tag : tag_end_at ids s (p + 1 + length n) ≡ Ok (p + length a)

pub id_assoc : (a n b v c d : List ℕ) → a ++ n ++ (b ++ v ++ c) ++ d ≡ a ++ (n ++ (b ++ (v ++ (c ++ d))))
id_assoc a n b v c d = simp append_assoc

id_tag : (s : List ℕ) (p : ℕ) {n i : List ℕ} → Name n → Id i → has_at (bytes "<" ++ n ++ i ++ bytes ">") s p ≡ true → TagRead true s p n (bytes "<" ++ n ++ i ++ bytes ">")
unfolding is_name_byte is_letter is_digit
id_tag s p {n} na (id v a k l) h =
    let e = p + 1 + length n in
    let g : has_at (bytes "<" ++ (n ++ (bytes " Id=\"" ++ (v ++ bytes "\">")))) s p ≡ true = subst (λ (x : List ℕ). has_at x s p ≡ true) (id_assoc (bytes "<") n (bytes " Id=\"") v (bytes "\"") (bytes ">")) h in
    let b = has_split s (bytes "<") (n ++ (bytes " Id=\"" ++ (v ++ bytes "\">"))) p (p + 1) refl g in
    let c = has_split s n (bytes " Id=\"" ++ (v ++ bytes "\">")) (p + 1) e refl b.1 in
    let y = has_byte s 32 (bytes "Id=\"" ++ (v ++ bytes "\">")) e c.1 in
    let x = name_by s (p + 1) na c.0 (rw y) in
    let l₁ = length-append (bytes "<" ++ n ++ (bytes " Id=\"" ++ v ++ bytes "\"")) (bytes ">") in
    let l₂ = length-append (bytes "<" ++ n) (bytes " Id=\"" ++ v ++ bytes "\"") in
    let l₃ = length-append v (bytes "\"") in
    let z : e + 5 + length v + 2 ≡ p + length (bytes "<" ++ n ++ (bytes " Id=\"" ++ v ++ bytes "\"") ++ bytes ">") = omega arith in
    record { opens = has_byte s 60 [] p b.0; letter = x.1; there = c.0; name = x.0; tag = tag_id s e (λ w. omega arith) true refl ∙ id_is s v e a k l c.1 ∙ ap Ok z }

tag_is : (ids : Bool) (s : List ℕ) (p : ℕ) {n a : List ℕ} → Name n → RootTag n ids a → has_at a s p ≡ true → TagRead ids s p n a
tag_is ids s p {n} na plain h =
    let e = p + 1 + length n in
    let l = length-append n (bytes ">") in
    let a = has_split s (60 ∷ n) (bytes ">") p e (omega arith) h in
    let b = has_split s (bytes "<") n p (p + 1) refl a.0 in
    let y = has_byte s 62 [] e a.1 in
    let x = name_is_lem s (p + 1) na b.1 y in
    let z : e + 1 ≡ p + length (start_tag n) = omega arith in
    record { opens = has_byte s 60 n p a.0; letter = x.1; there = b.1; name = x.0; tag = tag_plain s e ids y ∙ ap Ok z }
tag_is ids s p na (with_id d) h = id_tag s p na d h

pub record RootRead (ids : Bool) (s : List ℕ) (p : ℕ) (n a c : List ℕ) : Type 0 where
  pub head : TagRead ids s p n a
  pub inside : has_at c s (p + length a) ≡ true
  pub closed : has_at (bytes "</") s (p + length a + length c) ≡ true
  pub holds : content_at 11 s (p + length a) ≡ Ok (p + length a + length c)
  pub reads : (z : ℕ) → z ≡ white_at s (p + length (a ++ c ++ end_tag n)) → z ≡ length s → root_from ids s p ≡ Ok (p, (p + 1 + length n), (p + length a))

pub root_reads : (ids : Bool) (s : List ℕ) (p : ℕ) (n a c : List ℕ) → Name n → RootTag n ids a → Content 11 c → has_at (a ++ c ++ end_tag n) s p ≡ true → RootRead ids s p n a c
root_reads ids s p n a c na ta co h =
    let m = p + length a + length c in
    let l₁ = length-append (a ++ c) (end_tag n) in
    let l₂ = length-append a c in
    let a₁ = has_split s (a ++ c) (end_tag n) p m (omega arith) h in
    let a₂ = has_split s a c p (p + length a) refl a₁.0 in
    let t = tag_is ids s p na ta a₂.0 in
    let e = end_tag_is s (p + 1) m n t.there a₁.1 in
    let k = content_is s 11 (element_is s 11) (p + length a) c co a₂.1 e.0 in
    let q : m + length (end_tag n) ≡ p + length (a ++ c ++ end_tag n) = omega arith in
    record { head = t; inside = a₂.1; closed = e.0; holds = k; reads = λ z u x. root_ends ids s p (p + 1 + length n) t.name (p + length a) t.tag m k (p + length (a ++ c ++ end_tag n)) (e.1 ∙ ap Ok q) z u x }

-- THE WHOLE FLOW
pub starts_self : (t : List ℕ) → starts_with t t ≡ true
unfolding starts_with
starts_self [] = refl
starts_self (b ∷ t) = rw (eq-eqb b b refl, starts_self t)

-- what stands is passed over; what is absent must not stand there
optional_is : (s : List ℕ) {x o : List ℕ} (p : ℕ) → Optional x o → has_at o s p ≡ true → (length o ≡ 0 → has_at x s p ≡ false) → optional_at x s p ≡ p + length o
unfolding optional_at
optional_is s p absent e f = let z : p + 0 ≡ p = add-zero p in rw (f refl, z)
optional_is s p present e f = rw e

-- before an element's start tag, with white space or none, stands neither a mark nor a declaration
module _ (s : List ℕ) where
  abbrev Front : ℕ → Type 0
  Front p = (is_white (byte_at s p) ≡ true) ⊎ ((byte_at s p ≡ 60) × (is_letter (byte_at s (p + 1)) ≡ true))

  front : {w : List ℕ} (p q : ℕ) → White w → has_at w s p ≡ true → q ≡ p + length w → byte_at s q ≡ 60 → is_letter (byte_at s (q + 1)) ≡ true → Front p
  unfolding all
  front p q (white {t = []} a) e z y l = let f : q ≡ p = omega arith in inr (rw (← f) y, rw (← f) l)
  front p q (white {t = b ∷ t} a) e z y l = inl (rw (has_byte s b t p e) (both (is_white b) (all is_white t) a).0)

  no_declaration : (p : ℕ) → Front p → has_at declaration s p ≡ false
  unfolding is_white is_letter
  no_declaration p f = not_so (has_at declaration s p) (λ h.
      let y = has_byte s 60 _ p h in
      let z = has_byte s 63 _ (p + 1) (has_split s (bytes "<") (bytes "?xml version=\"1.0\" encoding=\"UTF-8\"?>") p (p + 1) refl h).1 in
      ⊎_elim (λ w. no (sym (rw y at w))) (λ g. no (sym (rw z at g.1))) f)

  no_mark : {d : List ℕ} (p : ℕ) → Declaration d → has_at d s p ≡ true → (length d ≡ 0 → Front p) → has_at mark s p ≡ false
  unfolding is_white
  no_mark p de e f = not_so (has_at mark s p) (λ h. let y = has_byte s 239 _ p h in go de e f y)
    where
      go : {d : List ℕ} → Declaration d → has_at d s p ≡ true → (length d ≡ 0 → Front p) → byte_at s p ≡ 239 → ⊥
      go absent e f y = ⊎_elim (λ w. no (sym (rw y at w))) (λ g. let z = g.0 in omega arith) (f refl)
      go present e f y = let z = has_byte s 60 _ p e in omega arith

white_ends : (s : List ℕ) {v : List ℕ} (q : ℕ) → White v → has_at v s q ≡ true → length s ≡ q + length v → white_at s q ≡ length s
unfolding is_white
white_ends s {v} q wh h l =
    let y : byte_at s (q + length v) ≡ 0 = get_or-eq_default s 0 (omega arith) in
    white_is s q wh h (rw y) ∙ sym l

-- m, d, w, the root and v stand one behind the other
flow_is : (ids : Bool) (s m d w v n t k : List ℕ) → s ≡ m ++ d ++ w ++ (t ++ k ++ end_tag n) ++ v → Mark m → Declaration d → White w → Name n → RootTag n ids t → Content 11 k → White v
    → markup_of ids s ≡ Ok ((length (m ++ d ++ w)), (length (m ++ d ++ w) + 1 + length n), (length (m ++ d ++ w) + length t))
unfolding has_at
flow_is ids s m d w v n t k z ma de wh na ta co wt =
    let r = t ++ k ++ end_tag n in
    let l₁ : length s ≡ length (m ++ d ++ w ++ r) + length v = rw z (length-append (m ++ d ++ w ++ r) v) in
    let l₂ = length-append (m ++ d ++ w) r in
    let l₃ = length-append (m ++ d) w in
    let l₄ = length-append m d in
    let a = length m in
    let b = a + length d in
    let c = b + length w in
    let q = c + length r in
    let h : has_at (m ++ d ++ w ++ r ++ v) s 0 ≡ true = rw (← z) (starts_self s) in
    let a₁ = has_split s (m ++ d ++ w ++ r) v 0 q (omega arith) h in
    let a₂ = has_split s (m ++ d ++ w) r 0 c (omega arith) a₁.0 in
    let a₃ = has_split s (m ++ d) w 0 b (omega arith) a₂.0 in
    let a₄ = has_split s m d 0 a (omega arith) a₃.0 in
    let x = root_reads ids s c n t k na ta co a₂.1 in
    let f = front s b c wh a₃.1 refl x.head.opens x.head.letter in
    let om : optional_at mark s 0 ≡ a = optional_is s 0 ma a₄.0 (λ x. subst (λ (j : ℕ). has_at mark s j ≡ false) x (no_mark s a de a₄.1 (λ y. subst (Front s) (omega arith) f))) ∙ omega arith in
    let od : optional_at declaration s a ≡ b = optional_is s a de a₄.1 (λ y. no_declaration s a (subst (Front s) (omega arith) f)) in
    let ow : white_at s b ≡ c = white_is s b wh a₃.1 (no_white _ x.head.opens) in
    let y : c ≡ length (m ++ d ++ w) = omega arith in
    markup_root ids s c (root_is s a (sym om) b (sym od) c (sym ow)) x.head.opens ∙ x.reads (white_at s q) refl (white_ends s q wt a₁.1 (omega arith))
    ∙ ap (λ (j : ℕ). Ok (j, (j + 1 + length n), (j + length t))) y

pub flow_complete : {ids : Bool} (s : List ℕ) (f : Document ids s) → markup_of ids s ≡ Ok ((root_place f), (name_end f), (content_place f))
unfolding root_place name_end content_place
flow_complete {ids} s (document {m = m} {d = d} {w = w} {v = v} ma de wh (root {n = n} {a = t} {c = k} na ta co) wt) = flow_is ids (m ++ d ++ w ++ (t ++ k ++ end_tag n) ++ v) m d w v n t k refl ma de wh na ta co wt
