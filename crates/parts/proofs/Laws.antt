-- Laws of the walk over an element's named children: so much is found, the rest is to come.
use Rattle.std.specs.Prelude.{Option, Some, None}
use mathlib.Core.Path.{◌≡◌, refl, sym, ap, ◌∙◌}
use mathlib.Core.Logic.{◌⊎◌, inl, inr}
use mathlib.Core.List.{List, [], ◌∷◌}
use mathlib.Core.Bool.{Bool, true, false}
use Prim.Native.Nat.{ℕ, zero, suc, ◌+◌, ◌-◌, ◌≤◌, ◌<◌}
use native.Mathlib.Omega.{arith}
use lib.ListN.{length, get_or, set, length-set}
use lib.Seq.{get_or-set_same, get_or-set_other}
use lib.Dec.{eqb}
use borrow.Author.Tests.{eqb-true, eqb-false}
use Rattle.scan.specs.Bytes.{part, is_white}
use Rattle.scan.proofs.Laws.{run_within}
use Rattle.tokens.specs.Tokens.{white_at}
use Rattle.children.specs.declared.Child.{Child}
use Rattle.children.proofs.Laws.{Lies}
use Rattle.schema.specs.declared.Parent.{Parent}
use Rattle.rows.specs.declared.Kept.{Kept}
use Rattle.rows.specs.Kept.{kept_from, next_of}
use Rattle.rows.proofs.Laws.{next_at}
use Rattle.orders.specs.Orders.{of_row, in_row, text_of_next, text_in}
use Rattle.orders.proofs.Laws.{ThoseAt, those_done, those_at, those_end, row_one, row_other}
use Rattle.parts.specs.declared.Span.{Span}
use Rattle.parts.specs.Parts.{no_span, span_of_next, span_in, spans_from, parts_in, AllWithin}

-- A CHILD WHERE IT LIES: its content begins within, what is left gets less, and its first child is looked for within
module _ {s : List ℕ} {i : ℕ} {c : Child} (l : Lies s i c) where
  pub lies_begins : c.gt + 1 ≤ length s
  lies_begins = omega (arith, l.inner, l.ends, l.within)

  pub lies_less : length s - c.after < length s - i
  lies_less = omega (arith, l.from, l.name, l.inner, l.ends, l.within)

  pub lies_inside : {j : ℕ} → j ≡ white_at s (c.gt + 1) → j ≤ length s
  lies_inside e = rw e (run_within is_white s (c.gt + 1) lies_begins)

-- A ROW'S CHILDREN, as the walk over the named children goes
pub row_done : (n : ℕ) (p : Parent) (s : List ℕ) (i : ℕ) → next_of (kept_from p s i) ≡ None → in_row n (kept_from p s i) ≡ []
row_done n p s i e = those_done (of_row n) p s i e

pub row_at : (n : ℕ) (p : Parent) (s : List ℕ) (i : ℕ) (k : Kept) → next_of (in_row n (kept_from p s i)) ≡ Some k → ThoseAt (of_row n) p s i k
row_at n p s i k e = those_at (of_row n) p s i k e

pub row_end : (ks : List Kept) → next_of ks ≡ None → ks ≡ []
row_end ks e = those_end ks e

-- A LIST OF SPANS by its elements
spans_by : (d n : ℕ) (each : List Span) (ks : List Kept) → length each ≡ d → ((j : ℕ) → j < d → get_or each j no_span ≡ span_in (n + j) ks) → each ≡ spans_from d n ks
unfolding spans_from
spans_by zero n [] ks l f = refl
spans_by zero n (w ∷ each) ks l f = absurd (omega arith)
spans_by (suc d) n [] ks l f = absurd (omega arith)
spans_by (suc d) n (w ∷ each) ks l f =
    let x : w ≡ span_in n ks = f 0 (omega arith) ∙ ap (λ (j : ℕ). span_in j ks) (omega arith) in
    let y : each ≡ spans_from d (suc n) ks = spans_by d (suc n) each ks (omega arith) (λ j h. f (suc j) (omega arith) ∙ ap (λ (k : ℕ). span_in k ks) (omega arith)) in
    cc

-- WALKED: of each row the first child is found, or none is yet and those from i on are to come
abbrev Row : ℕ → Span → List Kept → List Kept → Type 0
Row n w rest ks = ((w ≡ no_span) × (span_in n rest ≡ span_in n ks)) ⊎ ((1 ≤ w.to) × (w ≡ span_in n ks))

pub record Walked (p : Parent) (s : List ℕ) (from i : ℕ) (each : List Span) : Type 0 where
  pub within : i ≤ length s
  pub size : length each ≡ 9
  pub rows : (n : ℕ) → n < 9 → Row n (get_or each n no_span) (kept_from p s i) (kept_from p s from)

abbrev pub no_spans : List Span
no_spans = no_span ∷ no_span ∷ no_span ∷ no_span ∷ no_span ∷ no_span ∷ no_span ∷ no_span ∷ no_span ∷ []

none_there : (n : ℕ) → get_or no_spans n no_span ≡ no_span
none_there zero = refl
none_there (suc zero) = refl
none_there (suc (suc zero)) = refl
none_there (suc (suc (suc zero))) = refl
none_there (suc (suc (suc (suc zero)))) = refl
none_there (suc (suc (suc (suc (suc zero))))) = refl
none_there (suc (suc (suc (suc (suc (suc zero)))))) = refl
none_there (suc (suc (suc (suc (suc (suc (suc zero))))))) = refl
none_there (suc (suc (suc (suc (suc (suc (suc (suc zero)))))))) = refl
none_there (suc (suc (suc (suc (suc (suc (suc (suc (suc n))))))))) = refl

module _ (p : Parent) (s : List ℕ) (from : ℕ) where
  pub walk_start : from ≤ length s → Walked p s from from no_spans
  walk_start h = record { within = h; size = refl; rows = λ n k. inl (none_there n, refl) }

  module _ (i : ℕ) (each : List Span) (f : Walked p s from i each) where
    pub walk_end : next_of (kept_from p s i) ≡ None → each ≡ parts_in (kept_from p s from)
    walk_end e = spans_by 9 0 each (kept_from p s from) f.size (λ j h. by j (f.rows j h) ∙ ap (λ (k : ℕ). span_in k (kept_from p s from)) (omega arith))
      where
        by : (j : ℕ) → Row j (get_or each j no_span) (kept_from p s i) (kept_from p s from) → get_or each j no_span ≡ span_in j (kept_from p s from)
        by j (inl (z, y)) = z ∙ sym (ap (λ l. span_of_next (next_of l)) (row_done j p s i e)) ∙ y
        by j (inr (z, y)) = y

    module _ (k : Kept) (e : next_of (kept_from p s i) ≡ Some k) where
      -- a row that k doesn't stand in
      row_stays : (n : ℕ) (w : Span) → (k.row ≡ n → ⊥) → Row n w (kept_from p s i) (kept_from p s from) → Row n w (kept_from p s k.child.after) (kept_from p s from)
      row_stays n w h (inl (z, y)) = inl (z, ap (λ l. span_of_next (next_of l)) (sym (row_other n p s i k e h)) ∙ y)
      row_stays n w h (inr x) = inr x

      -- k's own row, found before
      row_found : (n : ℕ) (w : Span) → 1 ≤ w.to → Row n w (kept_from p s i) (kept_from p s from) → Row n w (kept_from p s k.child.after) (kept_from p s from)
      row_found n w h (inl (z, y)) = let u = ap (λ (v : Span). v.to) z in absurd (omega arith)
      row_found n w h (inr x) = inr x

      -- found now
      row_new : (w : Span) → w.to ≡ 0 → Row k.row w (kept_from p s i) (kept_from p s from) → Row k.row (span_of_next (Some k)) (kept_from p s k.child.after) (kept_from p s from)
      row_new w h (inl (z, y)) =
          let l = (next_at p s i k e).lies in
          inr (omega (arith, l.inner), ap (λ l. span_of_next (next_of l)) (sym (row_one k.row p s i k e refl)) ∙ y)
      row_new w h (inr (z, y)) = absurd (omega arith)

      pub walk_past : (9 ≤ k.row) → Walked p s from k.child.after each
      walk_past h = record { within = (next_at p s i k e).lies.within; size = f.size; rows = λ n j. row_stays n (get_or each n no_span) (λ z. omega arith) (f.rows n j) }

      pub walk_found : 1 ≤ (get_or each k.row no_span).to → Walked p s from k.child.after each
      walk_found h = record { within = (next_at p s i k e).lies.within; size = f.size; rows = λ n j. by n (f.rows n j) (eqb k.row n) refl }
        where
          by : (n : ℕ) → Row n (get_or each n no_span) (kept_from p s i) (kept_from p s from) → (b : Bool) → eqb k.row n ≡ b → Row n (get_or each n no_span) (kept_from p s k.child.after) (kept_from p s from)
          by n r true z = let y = eqb-true k.row n z in row_found n (get_or each n no_span) (rw y at h) r
          by n r false z = row_stays n (get_or each n no_span) (eqb-false k.row n z) r

      pub walk_new : k.row < 9 → (get_or each k.row no_span).to ≡ 0 → Walked p s from k.child.after (set each k.row (span_of_next (Some k)))
      walk_new l h = record { within = (next_at p s i k e).lies.within; size = length-set each k.row (span_of_next (Some k)) ∙ f.size; rows = λ n j. by n j (eqb k.row n) refl }
        where
          by : (n : ℕ) → n < 9 → (b : Bool) → eqb k.row n ≡ b → Row n (get_or (set each k.row (span_of_next (Some k))) n no_span) (kept_from p s k.child.after) (kept_from p s from)
          by n j true z =
              let y = eqb-true k.row n z in
              let x = get_or-set_same each k.row (span_of_next (Some k)) no_span (omega (arith, f.size)) in
              rw (← y, x) (row_new (get_or each k.row no_span) h (f.rows k.row l))
          by n j false z =
              let y = eqb-false k.row n z in
              rw (get_or-set_other each k.row n (span_of_next (Some k)) no_span (λ q. y (sym q))) (row_stays n (get_or each n no_span) y (f.rows n j))

-- A SPAN lies in the bytes, and its part is the row's text
pub span_within : (n : ℕ) (p : Parent) (s : List ℕ) (i : ℕ) → ((span_in n (kept_from p s i)).from ≤ (span_in n (kept_from p s i)).to) × ((span_in n (kept_from p s i)).to ≤ length s)
span_within n p s i = go (next_of (in_row n (kept_from p s i))) refl
  where
    go : (w : Option Kept) → next_of (in_row n (kept_from p s i)) ≡ w → ((span_of_next w).from ≤ (span_of_next w).to) × ((span_of_next w).to ≤ length s)
    go None e = (omega arith, omega arith)
    go (Some k) e = let l = (row_at n p s i k e).lies in (omega (arith, l.inner), omega (arith, l.ends, l.within))

pub span_text : (n : ℕ) (s : List ℕ) (ks : List Kept) → part s (span_in n ks).from (span_in n ks).to ≡ text_in n s ks
unfolding text_in
span_text n s ks = go (next_of (in_row n ks))
  where
    go : (w : Option Kept) → part s (span_of_next w).from (span_of_next w).to ≡ text_of_next s w
    go (Some k) = refl
    go None = refl

-- THE ARRAY: its elements are the rows' spans
spans_at : (d m j : ℕ) (ks : List Kept) → j < d → get_or (spans_from d m ks) j no_span ≡ span_in (m + j) ks
unfolding spans_from
spans_at zero m j ks h = absurd (omega arith)
spans_at (suc d) m zero ks h = ap (λ (k : ℕ). span_in k ks) (omega arith)
spans_at (suc d) m (suc j) ks h = spans_at d (suc m) j ks (omega arith) ∙ ap (λ (k : ℕ). span_in k ks) (omega arith)

module _ (each : List Span) (ks : List Kept) (e : each ≡ parts_in ks) (n : ℕ) (h : n < 9) where
  pub at_span : get_or each n no_span ≡ span_in n ks
  at_span = rw e (spans_at 9 0 n ks h ∙ ap (λ (k : ℕ). span_in k ks) (omega arith))

  pub at_text : (s : List ℕ) → part s (get_or each n no_span).from (get_or each n no_span).to ≡ text_in n s ks
  at_text s = rw at_span (span_text n s ks)

pub at_within : (each : List Span) (p : Parent) (s : List ℕ) (i n : ℕ) → n < 9 → each ≡ parts_in (kept_from p s i) → ((get_or each n no_span).from ≤ (get_or each n no_span).to) × ((get_or each n no_span).to ≤ length s)
at_within each p s i n h e = rw (at_span each (kept_from p s i) e n h) (span_within n p s i)

pub all_within : (each : List Span) (p : Parent) (s : List ℕ) (i : ℕ) → each ≡ parts_in (kept_from p s i) → AllWithin s each
all_within each p s i e n h = at_within each p s i n h e

-- whether there is a child, by the end of its text
pub data There (n : ℕ) (p : Parent) (s : List ℕ) (i : ℕ) : Type 0 where
  absent : next_of (in_row n (kept_from p s i)) ≡ None → (span_in n (kept_from p s i)).to ≡ 0 → There n p s i
  present : (k : Kept) → next_of (in_row n (kept_from p s i)) ≡ Some k → 1 ≤ (span_in n (kept_from p s i)).to → k.child.gt + 1 ≤ length s → There n p s i

pub there : (n : ℕ) (p : Parent) (s : List ℕ) (i : ℕ) → There n p s i
there n p s i = go (next_of (in_row n (kept_from p s i))) refl
  where
    go : (w : Option Kept) → next_of (in_row n (kept_from p s i)) ≡ w → There n p s i
    go None e = absent e (ap (λ (x : Option Kept). (span_of_next x).to) e)
    go (Some k) e =
        let l = (row_at n p s i k e).lies in
        let z : (span_in n (kept_from p s i)).to ≡ k.child.to = ap (λ (x : Option Kept). (span_of_next x).to) e in
        present k e (omega (arith, l.inner)) (omega (arith, l.inner, l.ends, l.within))
