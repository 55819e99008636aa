-- Agreement, a way out of the code at a time.
use Rattle.std.specs.Option.{is_some}
use Rattle.std.specs.Prelude.{Option, Some, None}
use mathlib.Core.Path.{◌≡◌, refl, sym, ap, ◌∙◌}
use mathlib.Core.Logic.{◌⊎◌, inl, inr}
use mathlib.Core.List.{List, []}
use mathlib.Core.Bool.{Bool, true, false, not}
use Prim.Native.Nat.{ℕ, ◌+◌, ◌≤◌, ◌<◌}
use native.Mathlib.Omega.{arith}
use lib.ListN.{length, get_or}
use lib.Dec.{eqb}
use borrow.Author.Tests.{eq-eqb, ne_eqb}
use Rattle.scan.specs.Bytes.{bytes, part, text_is}
use Rattle.tokens.specs.Tokens.{white_at}
use Rattle.codes.specs.Codes.{esito_operazione}
use Rattle.digits.specs.Digits.{codice_errore}
use Rattle.schema.specs.declared.Parent.{Parent}
use Rattle.schema.specs.declared.Parent.TheVariants.{MessaggiEsito}
use Rattle.rows.specs.declared.Kept.{Kept}
use Rattle.rows.specs.Kept.{kept_from, next_of}
use Rattle.orders.specs.Orders.{in_row, text_in, value_of, inside_of}
use Rattle.parts.specs.declared.Span.{Span}
use Rattle.parts.specs.Parts.{no_span, span_in, parts_in}
use Rattle.parts.proofs.Laws.{row_at, row_end, at_span, at_text, There, absent, present, there}
use Rattle.tree.specs.Orders.{Words}
use Rattle.message.specs.Message.{number_name, total_name, progressivo_name, element_name}
use Rattle.schema.specs.declared.Holds.TheVariants.{Rows}
use Rattle.agreement.specs.declared.EntryKind.{EntryKind}
use Rattle.agreement.specs.Agreement.{words_of, entry_parent, errors_parent, entry_row, errors_off_at, list_off, is_there, word_stands, entry_off_at, or_off, entries_off_at}

-- where the parent is one of two, by the kind of the entry
pub parts_by : (s : List ℕ) (i : ℕ) {p q : Parent} {each : List Span} → each ≡ parts_in (kept_from q s i) → q ≡ p → each ≡ parts_in (kept_from p s i)
parts_by s i e h = e ∙ ap (λ (x : Parent). parts_in (kept_from x s i)) h

-- THE NAME FOR A CODE
module _ (w : Words) (code : ℕ) where
  pub name_11 : code ≡ 11 → element_name w code ≡ "tipo_operazione"
  unfolding element_name
  name_11 e = rw e

  pub name_12 : code ≡ 12 → element_name w code ≡ progressivo_name w
  unfolding element_name
  name_12 e = rw e

  pub name_13 : (code ≡ 13) ⊎ (code ≡ 19) → element_name w code ≡ total_name w
  unfolding element_name
  name_13 (inl e) = rw e
  name_13 (inr e) = rw e

  pub name_other : (code ≡ 11 → ⊥) → (code ≡ 12 → ⊥) → (code ≡ 13 → ⊥) → (code ≡ 19 → ⊥) → element_name w code ≡ number_name w
  unfolding element_name
  name_other a b c d = rw (ne_eqb code 11 a, ne_eqb code 12 b, ne_eqb code 13 c, ne_eqb code 19 d)

-- A LIST OF ERRORS: x is the text of codice_errore, y of descrizione, z of elemento
module _ (k : EntryKind) (s : List ℕ) (es : List Kept) (each : List Span) (e : each ≡ parts_in es) (x y : List ℕ)
    (ex : x ≡ part s (get_or each 1 no_span).from (get_or each 1 no_span).to) (ey : y ≡ part s (get_or each 2 no_span).from (get_or each 2 no_span).to) where
  same_texts : text_is x y ≡ text_is (text_in 1 s es) (text_in 2 s es)
  same_texts = rw (ex, ey, at_text each es e 1 (omega arith) s, at_text each es e 2 (omega arith) s)

  pub errors_again : {r : Bool} → r ≡ text_is x y → r ≡ false → Some (get_or each 2 no_span).lt ≡ errors_off_at k s es
  unfolding errors_off_at
  errors_again t f = let z : text_is (text_in 1 s es) (text_in 2 s es) ≡ false = sym same_texts ∙ sym t ∙ f in rw (z, at_span each es e 2 (omega arith))

  module _ {r : Bool} (t : r ≡ text_is x y) (f : r ≡ true) (v z : List ℕ) (n : ℕ) (ev : v ≡ part s (get_or each 1 no_span).from (get_or each 1 no_span).to)
      (ez : z ≡ part s (get_or each 3 no_span).from (get_or each 3 no_span).to) (en : n ≡ value_of (codice_errore v)) where
    same_name : text_is (bytes (element_name (words_of k) n)) z ≡ text_is (bytes (element_name (words_of k) (value_of (codice_errore (text_in 1 s es))))) (text_in 3 s es)
    same_name = rw (en, ev, ez, at_text each es e 1 (omega arith) s, at_text each es e 3 (omega arith) s)

    pub errors_name : {q : Bool} → q ≡ text_is (bytes (element_name (words_of k) n)) z → q ≡ false → Some (get_or each 3 no_span).lt ≡ errors_off_at k s es
    unfolding errors_off_at
    errors_name u g =
        let a : text_is (text_in 1 s es) (text_in 2 s es) ≡ true = sym same_texts ∙ sym t ∙ f in
        rw (a, sym same_name ∙ sym u ∙ g, at_span each es e 3 (omega arith))

    pub errors_none : {q : Bool} → q ≡ text_is (bytes (element_name (words_of k) n)) z → q ≡ true → None ≡ errors_off_at k s es
    unfolding errors_off_at
    errors_none u g =
        let a : text_is (text_in 1 s es) (text_in 2 s es) ≡ true = sym same_texts ∙ sym t ∙ f in
        rw (a, sym same_name ∙ sym u ∙ g)

-- AN ENTRY: x is the text of esito_operazione
module _ (k : EntryKind) (p : Parent) (s : List ℕ) (i : ℕ) (each : List Span) (e : each ≡ parts_in (kept_from p s i)) (x : List ℕ)
    (ex : x ≡ part s (get_or each 6 no_span).from (get_or each 6 no_span).to) where
  abbrev es : List Kept
  es = kept_from p s i

  listed_is : not (eqb (get_or each 8 no_span).to 0) ≡ is_there (next_of (in_row 8 es))
  listed_is = rw (at_span each es e 8 (omega arith)) (go (there 8 p s i))
    where
      go : There 8 p s i → not (eqb (span_in 8 (kept_from p s i)).to 0) ≡ is_there (next_of (in_row 8 (kept_from p s i)))
      go (absent d z) = rw (eq-eqb _ _ z, d)
      go (present y d z w) = rw (ne_eqb (span_in 8 (kept_from p s i)).to 0 (λ q. omega arith), d)

  word_is : word_stands (esito_operazione x) (not (eqb (get_or each 8 no_span).to 0)) ≡ word_stands (esito_operazione (text_in 6 s es)) (is_there (next_of (in_row 8 es)))
  word_is = rw (ex, at_text each es e 6 (omega arith) s, listed_is)

  pub entry_word : {r : Bool} → r ≡ word_stands (esito_operazione x) (not (eqb (get_or each 8 no_span).to 0)) → r ≡ false → Some (get_or each 6 no_span).lt ≡ entry_off_at k s es
  unfolding entry_off_at
  entry_word t f = rw (sym word_is ∙ sym t ∙ f, at_span each es e 6 (omega arith))

  module _ {r : Bool} (t : r ≡ word_stands (esito_operazione x) (not (eqb (get_or each 8 no_span).to 0))) (f : r ≡ true) where
    pub entry_none : (get_or each 8 no_span).to ≡ 0 → None ≡ entry_off_at k s es
    unfolding entry_off_at
    entry_none z = let y : (span_in 8 es).to ≡ 0 = sym (ap (λ (w : Span). w.to) (at_span each es e 8 (omega arith))) ∙ z in rw (sym word_is ∙ sym t ∙ f) (go (there 8 p s i) y)
      where
        go : There 8 p s i → (span_in 8 (kept_from p s i)).to ≡ 0 → None ≡ list_off k s (next_of (in_row 8 (kept_from p s i)))
        go (absent d q) y = rw d
        go (present w d q l) y = absurd (omega arith)

    pub entry_list : ((get_or each 8 no_span).to ≡ 0 → ⊥) → errors_off_at k s (kept_from (errors_parent k) s (white_at s (get_or each 8 no_span).from)) ≡ entry_off_at k s es
    unfolding entry_off_at
    entry_list z =
        let a = at_span each es e 8 (omega arith) in
        rw (sym word_is ∙ sym t ∙ f, a) (go (there 8 p s i) (λ y. z (ap (λ (w : Span). w.to) a ∙ y)))
      where
        go : There 8 p s i → ((span_in 8 (kept_from p s i)).to ≡ 0 → ⊥) → errors_off_at k s (kept_from (errors_parent k) s (white_at s (span_in 8 (kept_from p s i)).from)) ≡ list_off k s (next_of (in_row 8 (kept_from p s i)))
        go (absent d q) y = absurd (y q)
        go (present w d q l) y = rw d

-- the content of a list of errors begins within the bytes
pub list_within : (p : Parent) (s : List ℕ) (i : ℕ) (each : List Span) → each ≡ parts_in (kept_from p s i) → (n : ℕ) → n < 9 → (get_or each n no_span).from ≤ length s
list_within p s i each e n h = let a = at_span each (kept_from p s i) e n h in rw a (go (there n p s i))
  where
    go : There n p s i → (span_in n (kept_from p s i)).from ≤ length s
    go (absent d q) = rw d (omega arith)
    go (present w d q l) = rw d l

-- ENTRIES
pub off_kept : (u rest : Option ℕ) → is_some u ≡ true → u ≡ or_off u rest
off_kept (Some p) rest e = refl
off_kept None rest e = let z : ◌≡◌ {A = ℕ} 0 1 = cc in absurd (omega arith)

pub off_passed : (u rest : Option ℕ) → is_some u ≡ false → or_off u rest ≡ rest
off_passed (Some p) rest e = let z : ◌≡◌ {A = ℕ} 0 1 = cc in absurd (omega arith)
off_passed None rest e = refl

abbrev entries_at : EntryKind → List ℕ → ℕ → Option ℕ
entries_at k s i = entries_off_at k s (in_row (entry_row k) (kept_from MessaggiEsito s i))

module _ (k : EntryKind) (s : List ℕ) (i n : ℕ) (r : n ≡ entry_row k) where
  pub entries_end : next_of (in_row n (kept_from MessaggiEsito s i)) ≡ None → None ≡ entries_off_at k s (in_row (entry_row k) (kept_from MessaggiEsito s i))
  unfolding entries_off_at
  entries_end e = let z : in_row (entry_row k) (kept_from MessaggiEsito s i) ≡ [] = row_end _ (rw r at e) in rw z

  module _ (x : Kept) (e : next_of (in_row n (kept_from MessaggiEsito s i)) ≡ Some x) where
    entries_at_lem : entries_at k s i ≡ or_off (entry_off_at k s (inside_of s x (Rows (entry_parent k)))) (entries_at k s x.child.after)
    unfolding entries_off_at
    entries_at_lem = let z = (row_at (entry_row k) MessaggiEsito s i x (rw r at e)).rest in rw z

    -- what its content, from j on, comes to
    pub entries_here : (from : ℕ) {j : ℕ} {y u : Option ℕ} → entries_at k s from ≡ entries_at k s i → j ≡ white_at s (x.child.gt + 1) → y ≡ entry_off_at k s (kept_from (entry_parent k) s j) → y ≡ u
        → entries_at k s from ≡ or_off u (entries_at k s x.child.after)
    entries_here from t w o q = t ∙ entries_at_lem ∙ ap (λ (h : Option ℕ). or_off h (entries_at k s x.child.after)) (sym (o ∙ ap (λ (h : ℕ). entry_off_at k s (kept_from (entry_parent k) s h)) w) ∙ q)
