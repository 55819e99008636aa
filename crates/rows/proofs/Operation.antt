-- An order's tipo_operazione, compared as it stands: the element is the first named child, and its text is the word.
use Rattle.std.specs.Prelude.{Option, Some, Ok}
use mathlib.Core.Path.{◌≡◌, refl, sym, ap, ◌∙◌}
use mathlib.Core.List.{List, [], ◌∷◌, ◌++◌}
use mathlib.Core.Bool.{Bool, true, false, ◌||◌}
use Prim.Native.Nat.{ℕ, zero, suc, ◌+◌, ◌-◌, ◌≤◌, ◌<◌}
use native.Mathlib.Omega.{arith}
use lib.ListN.{length, drop}
use lib.Dec.{leb, eqb}
use borrow.Author.Tests.{eq-eqb, ne_eqb, leb-true, leb-false}
use lib.Seq.{drop-drop}
use Rattle.scan.specs.Bytes.{bytes, byte_at, between, is_letter, is_white, run, run_end, starts_with, has_at}
use Rattle.scan.proofs.Laws.{both, in_range, inside, stands, run_more, run_stop, run_end_lem, run_from}
use Rattle.tokens.specs.Tokens.{white_at, text_at, end_tag_at, is_plain}
use Rattle.tokens.proofs.Laws.{name_past, plain_other, text_stop, text_plain}
use Rattle.markup.specs.Markup.{content_at}
use Rattle.markup.proofs.Laws.{content_text}
use Rattle.children.specs.Child.{child_at}
use Rattle.children.proofs.Laws.{child_one}
use Rattle.fields.specs.declared.Form.TheVariants.{TipoOperazione}
use Rattle.schema.specs.declared.Parent.{Parent}
use Rattle.schema.specs.declared.Parent.TheVariants.{Mandato, Reversale}
use Rattle.schema.specs.declared.Holds.{Holds}
use Rattle.schema.specs.declared.Holds.TheVariants.{Text}
use Rattle.schema.specs.Table.{name_is}
use Rattle.tags.specs.Tags.{Opens}
use Rattle.tags.proofs.Words.{has_same}
use Rattle.tags.proofs.Laws.{run_in, is_in, end_in, opens_in, alone_opens, spelled_mandato, spelled_reversale}
use Rattle.rows.specs.Kept.{kept_from}
use Rattle.rows.specs.Replaces.{replaces}
use Rattle.rows.specs.Operation.{Says, Tells}
use Rattle.rows.proofs.Laws.{kept_at}

-- A WORD OF LETTERS up to a < is text
letter_plain : (b : ℕ) → is_letter b ≡ true → (is_plain b ≡ true) × (b ≡ 60 → ⊥) × (is_white b ≡ false)
unfolding is_letter is_white
letter_plain b = go (between 65 90 b) (between 97 122 b) refl refl
  where
    plain : 65 ≤ b → b ≤ 122 → (b ≡ 93 → ⊥) → (is_plain b ≡ true) × (b ≡ 60 → ⊥) × (is_white b ≡ false)
    plain l h f =
        (plain_other b (omega arith) (omega arith) (λ e. omega arith) ∙ rw (ne_eqb b 93 f), (λ e. omega arith), rw (ne_eqb b 32 (λ e. omega arith), ne_eqb b 9 (λ e. omega arith), ne_eqb b 10 (λ e. omega arith), ne_eqb b 13 (λ e. omega arith)))

    go : (u v : Bool) → between 65 90 b ≡ u → between 97 122 b ≡ v → (u || v) ≡ true → (is_plain b ≡ true) × (b ≡ 60 → ⊥) × (is_white b ≡ false)
    go true v e f k = let r = in_range 65 90 b e in plain (omega arith) (omega arith) (λ z. omega arith)
    go false true e f k = let r = in_range 97 122 b f in plain (omega arith) (omega arith) (λ z. omega arith)
    go false false e f k = let z : ◌≡◌ {A = ℕ} 0 1 = cc in absurd (omega arith)

letter_in : (s : List ℕ) (a : ℕ) → is_letter (byte_at s a) ≡ true → a < length s
unfolding is_letter
letter_in s a e = inside is_letter s a refl e

letters_text : (n : ℕ) (s : List ℕ) (a : ℕ) → length s - a < n → byte_at s (run_end is_letter s a) ≡ 60 → text_at s a ≡ Ok (run_end is_letter s a)
letters_text zero s a h e = absurd (omega arith)
letters_text (suc n) s a h e = go (is_letter (byte_at s a)) refl (letters_text n s (a + 1))
  where
    none : run_end is_letter s a ≡ a → text_at s a ≡ Ok (run_end is_letter s a)
    none z = let y : byte_at s a ≡ 60 = rw z at e in rw z (text_stop s a y)

    go : (b : Bool) → is_letter (byte_at s a) ≡ b → (length s - (a + 1) < n → byte_at s (run_end is_letter s (a + 1)) ≡ 60 → text_at s (a + 1) ≡ Ok (run_end is_letter s (a + 1))) → text_at s a ≡ Ok (run_end is_letter s a)
    go true f more =
        let i = letter_in s a f in
        let k = letter_plain (byte_at s a) f in
        let z = run_more is_letter s a i f in
        rw z (text_plain s a i k.1 k.0 ∙ more (omega arith) (rw z at e))
    go false f more = at (leb (suc a) (length s)) refl
      where
        at : (b : Bool) → leb (suc a) (length s) ≡ b → text_at s a ≡ Ok (run_end is_letter s a)
        at true l = none (run_stop is_letter s a (leb-true (suc a) (length s) l) f)
        at false l = none (run_end_lem is_letter s a (omega (arith, leb-false (suc a) (length s) l)))

letters_content : (d : ℕ) (s : List ℕ) (a : ℕ) → is_letter (byte_at s a) ≡ true → byte_at s (run_end is_letter s a) ≡ 60 → content_at d s a ≡ Ok (run_end is_letter s a)
letters_content d s a f e =
    let k = letter_plain (byte_at s a) f in
    let z = run_stop is_white s a (letter_in s a f) k.2 in
    content_text d s a (λ h. k.1 (rw z at h)) ∙ letters_text (suc (length s - a)) s a (omega arith) e

-- BYTES BESIDE EACH OTHER
starts_both : (t r u : List ℕ) → starts_with t u ≡ true → starts_with r (drop (length t) u) ≡ true → starts_with (t ++ r) u ≡ true
unfolding starts_with
starts_both [] r u e f = f
starts_both (a ∷ t) r [] e f = e
starts_both (a ∷ t) r (b ∷ u) e f = let h = both (eqb b a) (starts_with t u) e in rw h.0 (starts_both t r u h.1 f)

has_both : (t r s : List ℕ) (i : ℕ) → has_at t s i ≡ true → has_at r s (i + length t) ≡ true → has_at (t ++ r) s i ≡ true
unfolding has_at
has_both t r s i e f = starts_both t r (drop i s) e (rw (drop-drop (length t) i s) f)

-- AN ELEMENT that holds a word, its name's end e, its content's q, by itself: wherever its bytes stand it is a child
abbrev Worded : List ℕ → ℕ → ℕ → Type 0
Worded x e q = (is_letter (byte_at x (e + 1)) ≡ true) × (run_end is_letter x (e + 1) ≡ q) × (byte_at x q ≡ 60) × (end_tag_at x 1 e q ≡ Ok (length x))

module _ (x s : List ℕ) (i : ℕ) (has : has_at x s i ≡ true) (l : i ≤ length s) (p : Parent) (e q : ℕ) (h : Holds) (o : Opens p x 0 e 0 h) (w : Worded x e q) where
  child_in : child_at s i ≡ Some (record { lt = i; gt = i + e; to = i + q; after = white_at s (i + length x) })
  child_in =
      let v = opens_in x s i has p e 0 h l o in
      let a = letter_in x (e + 1) w.0 in
      let y = w.1 in
      let b = stands 59 x q (eq-eqb _ _ w.2) in
      let n = name_past x 1 e o.name in
      let z : i + (e + 1) ≡ i + e + 1 = omega arith in
      let r : run_end is_letter s (i + e + 1) ≡ i + q = rw z at (run_in x s i has is_letter (e + 1) (omega arith) (omega arith) ∙ ap (λ m. i + m) y) in
      let f : is_letter (byte_at s (i + e + 1)) ≡ true = rw z at (ap is_letter (has_same s x i has (e + 1) a) ∙ w.0) in
      let k : byte_at s (run_end is_letter s (i + e + 1)) ≡ 60 = rw r (has_same s x i has q b ∙ w.2) in
      child_one s i v.lt (i + e) v.name v.gt (i + q) (letters_content 12 s (i + e + 1) f k ∙ ap Ok r) (i + length x) (end_in x s i has e q (length x) (omega arith) (omega arith) w.3)

  said_in : replaces s (kept_from p s i) ≡ name_is (bytes "SOSTITUZIONE") x (e + 1) q
  unfolding replaces
  said_in =
      let v = opens_in x s i has p e 0 h l o in
      let z : i + (e + 1) ≡ i + e + 1 = omega arith in
      let b = stands 59 x q (eq-eqb _ _ w.2) in
      let f = run_from is_letter x (e + 1) in
      let y = w.1 in
      rw (kept_at p s i (record { lt = i; gt = i + e; to = i + q; after = white_at s (i + length x) }) 0 h child_in v.spot) (rw z at (is_in x s i has (bytes "SOSTITUZIONE") (e + 1) q (omega arith) (omega arith)))

-- THE WORDS of an operation behind the tag, up to q: whether one says SOSTITUZIONE
abbrev tag : List ℕ
tag = bytes "<tipo_operazione>"

pub record Word (r : List ℕ) (q : ℕ) (b : Bool) : Type 0 where
  pub worded : Worded (tag ++ r) 16 q
  pub says : name_is (bytes "SOSTITUZIONE") (tag ++ r) 17 q ≡ b

pub words : Word (bytes "INSERIMENTO</tipo_operazione>") 28 false × Word (bytes "SOSTITUZIONE</tipo_operazione>") 29 true × Word (bytes "VARIAZIONE</tipo_operazione>") 27 false × Word (bytes "ANNULLO</tipo_operazione>") 24 false
unfolding is_letter run run_end starts_with has_at end_tag_at name_is
words = (record { worded = (refl, refl, refl, refl); says = refl }, record { worded = (refl, refl, refl, refl); says = refl }, record { worded = (refl, refl, refl, refl); says = refl }, record { worded = (refl, refl, refl, refl); says = refl })

pub tells : (r : List ℕ) (q : ℕ) (b : Bool) (s : List ℕ) (i : ℕ) → Word r q b → i ≤ length s → has_at tag s i ≡ true → has_at r s (i + 17) ≡ true → (p : Parent) → Says p → b ≡ replaces s (kept_from p s i)
unfolding has_at starts_with
tells r q b s i w l e f p o =
    sym (said_in (tag ++ r) s i (has_both tag r s i e f) l p 16 q (Text TipoOperazione) (opens_in tag (tag ++ r) 0 refl p 16 0 (Text TipoOperazione) (omega arith) o) w.worded ∙ w.says)

-- the two parents that are orders
module _ (p : Parent) (r : Bool) where
  pub says_mandato : p ≡ Mandato r → Says p
  says_mandato e = rw e (alone_opens (Mandato r) tag 0 (Text TipoOperazione) (spelled_mandato r).0)

  pub says_reversale : p ≡ Reversale r → Says p
  says_reversale e = rw e (alone_opens (Reversale r) tag 0 (Text TipoOperazione) (spelled_reversale r).0)

-- what is told where the children begin, at i, is told of the content before them
module _ (s : List ℕ) (at i : ℕ) (e : i ≡ white_at s at) (p : Parent) (b : Bool) where
  pub told_on : b ≡ replaces s (kept_from p s i) → b ≡ replaces s (kept_from p s (white_at s at))
  told_on f = rw (← e) f

  pub told : (w : Option Bool) → Tells s i w → w ≡ Some b → Says p → b ≡ replaces s (kept_from p s (white_at s at))
  told w t f o = told_on ((rw f at t) p o)
