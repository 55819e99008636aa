-- Laws of the named children by rows, of lines and of orders.
use Rattle.std.specs.Prelude.{Option, Some, None}
use mathlib.Core.Path.{◌≡◌, refl, sym, ap, subst, ◌∙◌}
use mathlib.Core.Logic.{◌⊎◌, inl, inr, ⊎_elim}
use mathlib.Core.List.{List, [], ◌∷◌}
use mathlib.Core.Bool.{Bool, true, false}
use Prim.Native.Nat.{ℕ, zero, suc, ◌+◌, ◌-◌, ◌≤◌, ◌<◌}
use native.Mathlib.Numerals.{add-one}
use native.Mathlib.Omega.{arith}
use lib.ListN.{length, drop, set, length-set}
use lib.Seq.{sets}
use borrow.Author.Tests.{eq-eqb, ne_eqb, eqb-true}
use Rattle.scan.specs.Bytes.{part, is_white}
use Rattle.scan.proofs.Laws.{both, run_within}
use Rattle.tokens.specs.Tokens.{white_at}
use Rattle.fields.specs.declared.Form.{Form}
use Rattle.fields.specs.declared.Form.TheVariants.{Esercizio, TipoOperazione, Numero, Data, Importo, Progressivo}
use Rattle.fields.specs.Fields.{of_number, of_day, of_operation}
use Rattle.children.specs.declared.Child.{Child}
use Rattle.rows.specs.Read.{read_at, field_read}
use Rattle.orders.specs.Said.{number_of, date_read, said_operation}
use Rattle.codes.specs.Codes.{tipo_operazione}
use Rattle.digits.specs.Digits.{esercizio, numero, importo, progressivo}
use Rattle.dates.specs.Dates.{data_of}
use Rattle.schema.specs.declared.Parent.{Parent}
use Rattle.schema.specs.declared.Parent.TheVariants.{FlussoOrdinativi, Mandato, Reversale, InformazioniBeneficiario, InformazioniVersante, SostituzioneMandato, SostituzioneReversale, Beneficiario, Versante, MessaggiEsito, TestataMessaggio, EsitoReversali, EsitoMandati, ErroriReversali, ErroriMandati, FlussoOpi, TestataFlusso}
use Rattle.schema.specs.declared.Holds.{Holds}
use Rattle.schema.specs.declared.Holds.TheVariants.{Text, Rows}
use Rattle.rows.specs.declared.Kept.{Kept}
use Rattle.schema.specs.Table.{table}
use Rattle.rows.specs.Kept.{kept_from, next_of}
use Rattle.rows.specs.Replaces.{replaces, as_replacing, rows_for}
use Rattle.children.proofs.Laws.{Lies}
use Rattle.rows.proofs.Laws.{next_at, next_done}
use Rattle.structure.specs.Structure.{Range, ranges, all_kept, kept_holds, fits_at}
use Rattle.structure.proofs.Laws.{HeldIn, fits_parts, once_done, once_next, all_next, order_last, kept_held, kept_row, versante_rows}
use Rattle.order.specs.declared.NamedLine.{NamedLine}
use Rattle.order.specs.declared.Line.{Line}
use Rattle.order.specs.declared.Order.{Order}
use Rattle.order.specs.Ordinativo.{no_name, no_line}
use Rattle.orders.specs.Shape.{ranges_of, order_rows, line_rows, named_rows, is_replacing, line_rows_of, Shaped, Filled}
use Rattle.orders.specs.Orders.{those, of_row, in_row, text_in, inside, operation_of, value_of, date_of, named_by, named_of, named_in, line_by, line_of, lines_of, eight, lines_in, kind_of, order_by, order_of, orders_of, holds_order, is_order, orders_in}
use Rattle.codes.specs.declared.Operation.{Operation}
use Rattle.calendar.specs.declared.Date.{Date}

no_next : {k : Kept} {A : Type 0} → ◌≡◌ {A = Option Kept} (None) (Some k) → A
no_next e = let z : ◌≡◌ {A = ℕ} 0 1 = cc in absurd (omega arith)

no_kind : {A : Type 0} → ◌≡◌ {A = Bool} false true → A
no_kind e = let z : ◌≡◌ {A = ℕ} 0 1 = cc in absurd (omega arith)

-- WHICH ROWS CONTENT HAS: none but an order's parent is told whether it replaces others
-- an order's row 4 holds lines
held_line : (p : Parent) (h : Holds) → ranges (table p) ≡ order_rows → HeldIn (table p) 4 h → ranges_of h ≡ line_rows_of h
held_line FlussoOrdinativi h e w = let z : ◌≡◌ {A = ℕ} 6 5 = ap length e in absurd (omega arith)
held_line (Mandato r) h e w = ⊎_elim (λ e. rw (← e) refl) (λ e. absurd e) w
held_line (Reversale r) h e w = ⊎_elim (λ e. rw (← e) (versante_rows r)) (λ e. absurd e) w
held_line (InformazioniBeneficiario true) h e w = absurd w
held_line (InformazioniBeneficiario false) h e w = absurd w
held_line (InformazioniVersante true) h e w = absurd w
held_line (InformazioniVersante false) h e w = absurd w
held_line SostituzioneMandato h e w = absurd w
held_line SostituzioneReversale h e w = absurd w
held_line Beneficiario h e w = absurd w
held_line Versante h e w = absurd w
held_line MessaggiEsito h e w = absurd w
held_line TestataMessaggio h e w = let z : ◌≡◌ {A = ℕ} 9 5 = ap length e in absurd (omega arith)
held_line EsitoReversali h e w = let z : ◌≡◌ {A = ℕ} 9 5 = ap length e in absurd (omega arith)
held_line EsitoMandati h e w = let z : ◌≡◌ {A = ℕ} 9 5 = ap length e in absurd (omega arith)
held_line ErroriReversali h e w = absurd w
held_line ErroriMandati h e w = absurd w
held_line FlussoOpi h e w = absurd w
held_line TestataFlusso h e w = absurd w

-- row 3 of a line of an order that replaces others holds the line that it names
held_named : (p : Parent) (h : Holds) → is_replacing p ≡ true → HeldIn (table p) 3 h → ranges_of h ≡ named_rows
held_named FlussoOrdinativi h e w = no_kind e
held_named (Mandato r) h e w = no_kind e
held_named (Reversale r) h e w = no_kind e
held_named (InformazioniBeneficiario true) h e w = ⊎_elim (λ e. rw (← e) refl) (λ e. absurd e) w
held_named (InformazioniBeneficiario false) h e w = no_kind e
held_named (InformazioniVersante true) h e w = ⊎_elim (λ e. rw (← e) refl) (λ e. absurd e) w
held_named (InformazioniVersante false) h e w = no_kind e
held_named SostituzioneMandato h e w = no_kind e
held_named SostituzioneReversale h e w = no_kind e
held_named Beneficiario h e w = no_kind e
held_named Versante h e w = no_kind e
held_named MessaggiEsito h e w = no_kind e
held_named TestataMessaggio h e w = no_kind e
held_named EsitoReversali h e w = no_kind e
held_named EsitoMandati h e w = no_kind e
held_named ErroriReversali h e w = no_kind e
held_named ErroriMandati h e w = no_kind e
held_named FlussoOpi h e w = no_kind e
held_named TestataFlusso h e w = no_kind e

told_rows : (p : Parent) (b : Bool) → ranges (table (as_replacing p b)) ≡ ranges (table p)
told_rows FlussoOrdinativi b = refl
told_rows (Mandato r) b = refl
told_rows (Reversale r) b = refl
told_rows (InformazioniBeneficiario r) b = refl
told_rows (InformazioniVersante r) b = refl
told_rows SostituzioneMandato b = refl
told_rows SostituzioneReversale b = refl
told_rows Beneficiario b = refl
told_rows Versante b = refl
told_rows MessaggiEsito b = refl
told_rows TestataMessaggio b = refl
told_rows EsitoReversali b = refl
told_rows EsitoMandati b = refl
told_rows ErroriReversali b = refl
told_rows ErroriMandati b = refl
told_rows FlussoOpi b = refl
told_rows TestataFlusso b = refl

told_kind : (p : Parent) (b : Bool) → kind_of (Rows (as_replacing p b)) ≡ kind_of (Rows p)
told_kind FlussoOrdinativi b = refl
told_kind (Mandato r) b = refl
told_kind (Reversale r) b = refl
told_kind (InformazioniBeneficiario r) b = refl
told_kind (InformazioniVersante r) b = refl
told_kind SostituzioneMandato b = refl
told_kind SostituzioneReversale b = refl
told_kind Beneficiario b = refl
told_kind Versante b = refl
told_kind MessaggiEsito b = refl
told_kind TestataMessaggio b = refl
told_kind EsitoReversali b = refl
told_kind EsitoMandati b = refl
told_kind ErroriReversali b = refl
told_kind ErroriMandati b = refl
told_kind FlussoOpi b = refl
told_kind TestataFlusso b = refl

told_other : (p : Parent) (b : Bool) → (length (ranges (table p)) ≡ 5 → ⊥) → as_replacing p b ≡ p
told_other FlussoOrdinativi b f = refl
told_other (Mandato r) b f = absurd (f refl)
told_other (Reversale r) b f = absurd (f refl)
told_other (InformazioniBeneficiario r) b f = refl
told_other (InformazioniVersante r) b f = refl
told_other SostituzioneMandato b f = refl
told_other SostituzioneReversale b f = refl
told_other Beneficiario b f = refl
told_other Versante b f = refl
told_other MessaggiEsito b f = refl
told_other TestataMessaggio b f = refl
told_other EsitoReversali b f = refl
told_other EsitoMandati b f = refl
told_other ErroriReversali b f = refl
told_other ErroriMandati b f = refl
told_other FlussoOpi b f = refl
told_other TestataFlusso b f = refl

module _ (p : Parent) (s : List ℕ) (at : ℕ) where
  pub rows_alike : ranges (table (rows_for p s at)) ≡ ranges (table p)
  unfolding rows_for
  rows_alike = told_rows p _

  pub kind_alike : kind_of (Rows (rows_for p s at)) ≡ kind_of (Rows p)
  unfolding rows_for
  kind_alike = told_kind p _

  pub rows_other : (length (ranges (table p)) ≡ 5 → ⊥) → rows_for p s at ≡ p
  unfolding rows_for
  rows_other f = told_other p _ f

module _ (r : Bool) (s : List ℕ) (at : ℕ) where
  pub mandato_rows : rows_for (Mandato r) s at ≡ Mandato (replaces s (kept_from (Mandato r) s (white_at s at)))
  unfolding rows_for
  mandato_rows = refl

  pub reversale_rows : rows_for (Reversale r) s at ≡ Reversale (replaces s (kept_from (Reversale r) s (white_at s at)))
  unfolding rows_for
  reversale_rows = refl

pub held_at : (p : Parent) (s : List ℕ) (i : ℕ) (k : Kept) → next_of (kept_from p s i) ≡ Some k → HeldIn (table p) k.row k.holds
held_at p s i k e = kept_held p s i k (kept_from p s k.child.after) (next_at p s i k e).rest

-- THOSE OF WHICH f HOLDS, as the walk over the named children goes
module _ (f : Kept → Bool) (p : Parent) (s : List ℕ) (i : ℕ) where
  pub those_done : next_of (kept_from p s i) ≡ None → those f (kept_from p s i) ≡ []
  unfolding those
  those_done e = rw (next_done p s i e)

  module _ (k : Kept) (e : next_of (kept_from p s i) ≡ Some k) where
    pub those_other : f k ≡ false → those f (kept_from p s i) ≡ those f (kept_from p s k.child.after)
    unfolding those
    those_other g = rw ((next_at p s i k e).rest, g)

    pub those_one : f k ≡ true → those f (kept_from p s i) ≡ k ∷ those f (kept_from p s k.child.after)
    unfolding those
    those_one g = rw ((next_at p s i k e).rest, g)

-- the first of them from i on, and what comes after it
pub record ThoseAt (f : Kept → Bool) (p : Parent) (s : List ℕ) (i : ℕ) (k : Kept) : Type 0 where
  pub rest : those f (kept_from p s i) ≡ k ∷ those f (kept_from p s k.child.after)
  pub lies : Lies s i k.child
  pub is : f k ≡ true
  pub every : (g : Kept → Bool) → all_kept g (kept_from p s i) ≡ true → (g k ≡ true) × (all_kept g (kept_from p s k.child.after) ≡ true)

those_by : (m : ℕ) (f : Kept → Bool) (p : Parent) (s : List ℕ) (i : ℕ) (k : Kept) → length s - i < m → next_of (those f (kept_from p s i)) ≡ Some k → ThoseAt f p s i k
those_by zero f p s i k h e = absurd (omega arith)
those_by (suc m) f p s i k h e = go (next_of (kept_from p s i)) refl (those_by m f p s)
  where
    go : (w : Option Kept) → next_of (kept_from p s i) ≡ w → ((j : ℕ) (k : Kept) → length s - j < m → next_of (those f (kept_from p s j)) ≡ Some k → ThoseAt f p s j k) → ThoseAt f p s i k
    go None n ih = no_next (ap next_of (sym (those_done f p s i n)) ∙ e)
    go (Some c) n ih = at (f c) refl
      where
        at : (b : Bool) → f c ≡ b → ThoseAt f p s i k
        at true g =
            let m = those_one f p s i c n g in
            let z : ◌≡◌ {A = Option Kept} (Some c) (Some k) = ap next_of (sym m) ∙ e in
            let u : c ≡ k = cc in
            rw (← u) (record { rest = m; lies = (next_at p s i c n).lies; is = g; every = all_next p s i c n })
        at false g =
            let l = (next_at p s i c n).lies in
            let m = those_other f p s i c n g in
            let r = ih c.child.after k (omega arith) (ap next_of (sym m) ∙ e) in
            let y = r.lies in
            record { rest = m ∙ r.rest; lies = record { from = omega arith; name = y.name; inner = y.inner; ends = y.ends; within = y.within }; is = r.is; every = λ g a. r.every g (all_next p s i c n g a).1 }

pub those_at : (f : Kept → Bool) (p : Parent) (s : List ℕ) (i : ℕ) (k : Kept) → next_of (those f (kept_from p s i)) ≡ Some k → ThoseAt f p s i k
those_at f p s i k e = those_by (suc (length s - i)) f p s i k (omega arith) e

pub those_end : (ks : List Kept) → next_of ks ≡ None → ks ≡ []
those_end [] e = refl
those_end (k ∷ ks) e = no_next (sym e)

-- where f holds of all of them
pub those_all : (f : Kept → Bool) (ks : List Kept) → all_kept f ks ≡ true → those f ks ≡ ks
unfolding those all_kept
those_all f [] e = refl
those_all f (k ∷ ks) e = let b = both (f k) (all_kept f ks) e in rw b.0 (ap (λ t. k ∷ t) (those_all f ks b.1))

-- BY ROWS
module _ (n : ℕ) (p : Parent) (s : List ℕ) (i : ℕ) (k : Kept) (e : next_of (kept_from p s i) ≡ Some k) where
  pub row_other : (k.row ≡ n → ⊥) → in_row n (kept_from p s i) ≡ in_row n (kept_from p s k.child.after)
  row_other f = those_other (of_row n) p s i k e (ne_eqb _ _ f)

  pub row_one : k.row ≡ n → in_row n (kept_from p s i) ≡ k ∷ in_row n (kept_from p s k.child.after)
  row_one f = those_one (of_row n) p s i k e (eq-eqb _ _ f)

-- a row that the parent has not
none_by : (m n : ℕ) (p : Parent) (s : List ℕ) (i : ℕ) → length s - i < m → length (ranges (table p)) ≤ n → in_row n (kept_from p s i) ≡ []
none_by zero n p s i h l = absurd (omega arith)
none_by (suc m) n p s i h l = go (next_of (kept_from p s i)) refl (none_by m n p s)
  where
    go : (w : Option Kept) → next_of (kept_from p s i) ≡ w → ((j : ℕ) → length s - j < m → length (ranges (table p)) ≤ n → in_row n (kept_from p s j) ≡ []) → in_row n (kept_from p s i) ≡ []
    go None e ih = those_done (of_row n) p s i e
    go (Some k) e ih =
        let a = next_at p s i k e in
        let y = a.lies in
        let r = kept_row p s i k (kept_from p s k.child.after) a.rest in
        row_other n p s i k e (λ z. omega arith) ∙ ih k.child.after (omega arith) l

pub no_row : (n : ℕ) (p : Parent) (s : List ℕ) (i : ℕ) → length (ranges (table p)) ≤ n → in_row n (kept_from p s i) ≡ []
no_row n p s i l = none_by (suc (length s - i)) n p s i (omega arith) l

-- FIELDS ONE AFTER THE OTHER
abbrev pub one : Range
one = record { least = 1; most = 1 }

-- the first named child is the row's one; its text; the later rows come after it
pub record Found (rs : List Range) (d : ℕ) (p : Parent) (s : List ℕ) (n i : ℕ) (k : Kept) : Type 0 where
  pub lies : Lies s i k.child
  pub row : k.row ≡ n
  pub on : Filled rs d p s (suc n) k.child.after
  pub text : text_in n s (kept_from p s i) ≡ part s (k.child.gt + 1) k.child.to
  pub later : (m : ℕ) → n < m → in_row m (kept_from p s i) ≡ in_row m (kept_from p s k.child.after)
  pub texts : (m : ℕ) → n < m → text_in m s (kept_from p s i) ≡ text_in m s (kept_from p s k.child.after)

module _ {rs : List Range} (d : ℕ) (p : Parent) (s : List ℕ) (n i : ℕ) (f : Filled (one ∷ rs) d p s n i) where
  pub found_some : next_of (kept_from p s i) ≡ None → ⊥
  found_some e = once_done p s i rs n f.rows e

  pub found : (k : Kept) → next_of (kept_from p s i) ≡ Some k → Found rs d p s n i k
  unfolding text_in
  found k e =
      let a = next_at p s i k e in
      let o = once_next p s i k e rs n f.rows in
      let w = all_next p s i k e (kept_holds (λ q b. fits_at d q s b) s) f.each in
      let z = o.0 in
      let l : (m : ℕ) → n < m → in_row m (kept_from p s i) ≡ in_row m (kept_from p s k.child.after) = λ m h. row_other m p s i k e (λ y. omega arith) in
      record {
        lies = a.lies;
        row = z;
        on = record { within = a.lies.within; rows = o.1; each = w.1 };
        text = rw (row_one n p s i k e z);
        later = l;
        texts = λ m h. rw (l m h);
      }

-- a named child's own named children
pub record Inside (rs : List Range) (d : ℕ) (s : List ℕ) (k : Kept) (p : Parent) : Type 0 where
  pub rows : ranges (table p) ≡ rs
  pub filled : Filled rs d p s 0 (white_at s (k.child.gt + 1))
  pub named : inside s k ≡ kept_from p s (white_at s (k.child.gt + 1))

pub shaped_some : (r : Range) (rs : List Range) (d : ℕ) (s : List ℕ) (k : Kept) (f : Form) → k.holds ≡ Text f → Shaped (r ∷ rs) d s k → ⊥
shaped_some r rs d s k f e h = let z : [] ≡ r ∷ rs = rw e at h.rows in let y : ◌≡◌ {A = ℕ} 0 1 = cc in omega arith

pub shaped_inside : (rs : List Range) (d : ℕ) (s : List ℕ) (k : Kept) (p : Parent) → k.holds ≡ Rows p → Shaped rs (suc d) s k → Inside rs d s k (rows_for p s (k.child.gt + 1))
unfolding inside
shaped_inside rs d s k p e h =
    let q = rows_for p s (k.child.gt + 1) in
    let r : ranges (table q) ≡ rs = rows_alike p s (k.child.gt + 1) ∙ (rw e at h.rows) in
    let b = fits_parts d q s (k.child.gt + 1) (rw e at h.holds) in
    let w = h.within in
    record {
      rows = r;
      filled = record { within = run_within is_white s (k.child.gt + 1) (omega arith); rows = rw r at b.0; each = b.1 };
      named = rw e;
    }

-- of all but an order
pub shaped_other : (rs : List Range) (d : ℕ) (s : List ℕ) (k : Kept) (p : Parent) → (length rs ≡ 5 → ⊥) → k.holds ≡ Rows p → Shaped rs (suc d) s k → Inside rs d s k p
shaped_other rs d s k p f e h =
    let r : ranges (table p) ≡ rs = rw e at h.rows in
    subst (λ (q : Parent). Inside rs d s k q) (rows_other p s (k.child.gt + 1) (λ z. f (ap length (sym r) ∙ z))) (shaped_inside rs d s k p e h)

-- of a line
pub line_other : (r : Bool) → length (line_rows r) ≡ 5 → ⊥
line_other true z = omega arith
line_other false z = omega arith

line_shape : {h : Holds} (s : List ℕ) (k : Kept) → k.holds ≡ h → Shaped (line_rows_of k.holds) 2 s k → Shaped (line_rows_of h) 2 s k
line_shape s k e w = record { within = w.within; rows = w.rows ∙ ap line_rows_of e; holds = w.holds }

pub line_some : (s : List ℕ) (k : Kept) (f : Form) → k.holds ≡ Text f → Shaped (line_rows_of k.holds) 2 s k → ⊥
line_some s k f e w = shaped_some one (drop 1 (line_rows false)) 2 s k f e (line_shape s k e w)

pub line_shaped : (s : List ℕ) (k : Kept) (p : Parent) → k.holds ≡ Rows p → Shaped (line_rows_of k.holds) 2 s k → Inside (line_rows (is_replacing p)) 1 s k p
line_shaped s k p e w = shaped_other (line_rows (is_replacing p)) 1 s k p (line_other (is_replacing p)) e (line_shape s k e w)

-- LINES, while they are walked: so many are in place, those from i on are to come
pub record Lining (p : Parent) (s : List ℕ) (from : ℕ) (each : List Line) (count i : ℕ) : Type 0 where
  pub within : i ≤ length s
  pub rows : all_kept (of_row 4) (kept_from p s i) ≡ true
  pub holds : all_kept (kept_holds (λ q a. fits_at 2 q s a) s) (kept_from p s i) ≡ true
  pub number : length (in_row 4 (kept_from p s from)) ≡ count + length (kept_from p s i)
  pub most : length (in_row 4 (kept_from p s from)) ≤ 8
  pub size : length each ≡ 8
  pub filled : eight (lines_of s (in_row 4 (kept_from p s from))) ≡ sets each count (lines_of s (kept_from p s i))

pub lines_length : (s : List ℕ) (ks : List Kept) → length (lines_of s ks) ≡ length ks
unfolding lines_of
lines_length s [] = refl
lines_length s (k ∷ ks) = ap suc (lines_length s ks)

abbrev pub no_lines : List Line
no_lines = no_line ∷ no_line ∷ no_line ∷ no_line ∷ no_line ∷ no_line ∷ no_line ∷ no_line ∷ []

eight_sets : (ls : List Line) → length ls ≤ 8 → eight ls ≡ sets no_lines 0 ls
unfolding eight
eight_sets [] h = refl
eight_sets (a ∷ []) h = refl
eight_sets (a ∷ b ∷ []) h = refl
eight_sets (a ∷ b ∷ c ∷ []) h = refl
eight_sets (a ∷ b ∷ c ∷ d ∷ []) h = refl
eight_sets (a ∷ b ∷ c ∷ d ∷ e ∷ []) h = refl
eight_sets (a ∷ b ∷ c ∷ d ∷ e ∷ f ∷ []) h = refl
eight_sets (a ∷ b ∷ c ∷ d ∷ e ∷ f ∷ g ∷ []) h = refl
eight_sets (a ∷ b ∷ c ∷ d ∷ e ∷ f ∷ g ∷ i ∷ []) h = refl
eight_sets (a ∷ b ∷ c ∷ d ∷ e ∷ f ∷ g ∷ i ∷ j ∷ t) h = absurd (omega arith)

module _ (p : Parent) (s : List ℕ) (from : ℕ) where
  pub lining_start : Filled (drop 4 order_rows) 2 p s 4 from → Lining p s from no_lines 0 from
  lining_start f =
      let ks = kept_from p s from in
      let l = order_last (record { least = 1; most = 8 }) 4 ks f.rows in
      let e = those_all (of_row 4) ks l.rows in
      let m = l.most in
      let v = lines_length s ks in
      record {
        within = f.within;
        rows = l.rows;
        holds = f.each;
        number = rw e (omega arith);
        most = rw e m;
        size = refl;
        filled = rw e (eight_sets (lines_of s ks) (omega arith));
      }

  module _ (each : List Line) (count i : ℕ) (f : Lining p s from each count i) where
    pub lining_empty : kept_from p s i ≡ [] → (record { count = count; each = each } ≡ lines_in s (kept_from p s from)) × (count ≤ 8)
    unfolding lines_in lines_of
    lining_empty e =
        let n : length (in_row 4 (kept_from p s from)) ≡ count + 0 = rw e at f.number in
        let z : length (in_row 4 (kept_from p s from)) ≡ count = omega arith in
        let m = f.most in
        let w : eight (lines_of s (in_row 4 (kept_from p s from))) ≡ each = rw e at f.filled in
        (rw (z, w), omega arith)

    pub lining_end : next_of (kept_from p s i) ≡ None → (record { count = count; each = each } ≡ lines_in s (kept_from p s from)) × (count ≤ 8)
    lining_end e = lining_empty (next_done p s i e)

    pub lining_full : 8 ≤ count → (record { count = count; each = each } ≡ lines_in s (kept_from p s from)) × (count ≤ 8)
    lining_full h = lining_empty (none (kept_from p s i) (omega (arith, f.number, f.most)))
      where
        none : (ks : List Kept) → length ks ≤ 0 → ks ≡ []
        none [] h = refl
        none (k ∷ ks) h = absurd (omega arith)

    module _ (k : Kept) (e : next_of (kept_from p s i) ≡ Some k) where
      pub lining_shaped : ranges (table p) ≡ order_rows → Shaped (line_rows_of k.holds) 2 s k
      lining_shaped t =
          let l = (next_at p s i k e).lies in
          let r : k.row ≡ 4 = eqb-true k.row 4 (all_next p s i k e (of_row 4) f.rows).0 in
          record {
            within = omega arith;
            rows = held_line p k.holds t (rw r at (held_at p s i k e));
            holds = (all_next p s i k e (kept_holds (λ q a. fits_at 2 q s a) s) f.holds).0;
          }

      pub lining_step : (l : Line) → l ≡ line_of s k → count < 8 → Lining p s from (set each count l) (count + 1) k.child.after
      unfolding lines_of
      lining_step l u h =
          let a = next_at p s i k e in
          let n : length (in_row 4 (kept_from p s from)) ≡ count + suc (length (kept_from p s k.child.after)) = rw a.rest at f.number in
          record {
            within = a.lies.within;
            rows = (all_next p s i k e (of_row 4) f.rows).1;
            holds = (all_next p s i k e (kept_holds (λ q a. fits_at 2 q s a) s) f.holds).1;
            number = omega arith;
            most = f.most;
            size = length-set each count l ∙ f.size;
            filled = rw (u, add-one) (rw a.rest at f.filled);
          }

pub lines_same : (s : List ℕ) (ks js : List Kept) → in_row 4 ks ≡ in_row 4 js → lines_in s ks ≡ lines_in s js
unfolding lines_in
lines_same s ks js e = rw e

-- WHAT A FIELD SAYS is the value of its form's text
number_said : (c : Child) (n : Option ℕ) → number_of (read_at c (of_number n)) ≡ value_of n
number_said c (Some v) = refl
number_said c None = refl

day_said : (c : Child) (d : Option Date) → date_read (read_at c (of_day d)) ≡ date_of d
day_said c (Some d) = refl
day_said c None = refl

operation_said : (c : Child) (a : Option Operation) → said_operation (read_at c (of_operation a)) ≡ operation_of a
operation_said c (Some o) = refl
operation_said c None = refl

module _ (s : List ℕ) (c : Child) (t : List ℕ) (e : t ≡ part s (c.gt + 1) c.to) where
  pub says_progressivo : number_of (field_read s Progressivo c) ≡ value_of (progressivo t)
  unfolding field_read
  says_progressivo = rw (← e) (number_said c (progressivo t))

  pub says_numero : number_of (field_read s Numero c) ≡ value_of (numero t)
  unfolding field_read
  says_numero = rw (← e) (number_said c (numero t))

  pub says_importo : number_of (field_read s Importo c) ≡ value_of (importo t)
  unfolding field_read
  says_importo = rw (← e) (number_said c (importo t))

  pub says_esercizio : number_of (field_read s Esercizio c) ≡ value_of (esercizio t)
  unfolding field_read
  says_esercizio = rw (← e) (number_said c (esercizio t))

  pub says_data : date_read (field_read s Data c) ≡ date_of (data_of t)
  unfolding field_read
  says_data = rw (← e) (day_said c (data_of t))

  pub says_operazione : said_operation (field_read s TipoOperazione c) ≡ operation_of (tipo_operazione t)
  unfolding field_read
  says_operazione = rw (← e) (operation_said c (tipo_operazione t))

-- THE LINE THAT A LINE NAMES
module _ (p : Parent) (s : List ℕ) (i : ℕ) where
  pub named_none : ranges (table p) ≡ line_rows false → named_in s (kept_from p s i) ≡ no_name
  unfolding named_in
  named_none e = let z : length (ranges (table p)) ≡ 3 = ap length e in rw (no_row 3 p s i (omega arith))

  pub named_there : (j : ℕ) (k : Kept) → in_row 3 (kept_from p s i) ≡ in_row 3 (kept_from p s j) → next_of (kept_from p s j) ≡ Some k → k.row ≡ 3 → named_in s (kept_from p s i) ≡ named_of s k
  unfolding named_in
  named_there j k l e z = rw (l, row_one 3 p s j k e z)

pub named_same : (s : List ℕ) (ks js : List Kept) → in_row 3 ks ≡ in_row 3 js → named_in s ks ≡ named_in s js
unfolding named_in
named_same s ks js e = rw e

-- the structure that holds it, as the code that reads it asks for it
pub named_shaped : (p : Parent) (s : List ℕ) (i : ℕ) → is_replacing p ≡ true → Filled (one ∷ []) 1 p s 3 i → (k : Kept) → next_of (kept_from p s i) ≡ Some k → Shaped named_rows 1 s k
named_shaped p s i r f k e =
    let o = found 1 p s 3 i f k e in
    let l = o.lies in
    let z = o.row in
    record { within = omega arith; rows = held_named p k.holds r (rw z at (held_at p s i k e)); holds = (all_next p s i k e (kept_holds (λ q a. fits_at 1 q s a) s) f.each).0 }

-- A LINE AND AN ORDER, put together of their parts
pub named_made : (s : List ℕ) (ks : List Kept) (n : NamedLine) → n.number ≡ value_of (numero (text_in 0 s ks)) → n.line ≡ value_of (progressivo (text_in 1 s ks)) → n.esercizio ≡ value_of (esercizio (text_in 2 s ks)) → n ≡ named_by s ks
named_made s ks n a b c = rw (← a, ← b, ← c)

pub line_made : (s : List ℕ) (ks : List Kept) (l : Line) → l.progressivo ≡ value_of (progressivo (text_in 0 s ks)) → l.amount ≡ value_of (importo (text_in 1 s ks)) → l.named ≡ named_in s ks → l ≡ line_by s ks
line_made s ks l a b c = rw (← a, ← b, ← c)

pub order_made : (kind : ℕ) (s : List ℕ) (ks : List Kept) (o : Order)
    → o.kind ≡ kind → o.operation ≡ operation_of (tipo_operazione (text_in 0 s ks)) → o.number ≡ value_of (numero (text_in 1 s ks))
    → o.date ≡ date_of (data_of (text_in 2 s ks)) → o.total ≡ value_of (importo (text_in 3 s ks)) → o.lines ≡ lines_in s ks → o ≡ order_by kind s ks
order_made kind s ks o a b c d e f = rw (← a, ← b, ← c, ← d, ← e, ← f)

module _ (s : List ℕ) (k : Kept) (p : Parent) (w : ℕ) (z : w ≡ white_at s (k.child.gt + 1)) where
  pub named_inside : {d : ℕ} → Inside named_rows d s k p → (n : NamedLine) → n ≡ named_by s (kept_from p s w) → n ≡ named_of s k
  unfolding named_of
  named_inside i n h = rw (i.named, ← z) h

  pub line_inside : {rs : List Range} {d : ℕ} → Inside rs d s k p → (l : Line) → l ≡ line_by s (kept_from p s w) → l ≡ line_of s k
  unfolding line_of
  line_inside n l h = rw (n.named, ← z) h

  pub order_inside : {d : ℕ} → Inside order_rows d s k p → kind_of k.holds ≡ kind_of (Rows p) → (o : Order) → o ≡ order_by (kind_of (Rows p)) s (kept_from p s w) → o ≡ order_of s k
  unfolding order_of
  order_inside n e o h = rw (n.named, e, ← z) h

-- ORDERS, as the walk goes
module _ (p : Parent) (s : List ℕ) (i : ℕ) where
  pub orders_end : next_of (those is_order (kept_from p s i)) ≡ None → orders_in s (kept_from p s i) ≡ []
  unfolding orders_of
  orders_end e = rw (those_end (those is_order (kept_from p s i)) e)

  pub orders_one : (k : Kept) → next_of (those is_order (kept_from p s i)) ≡ Some k → orders_in s (kept_from p s i) ≡ order_of s k ∷ orders_in s (kept_from p s k.child.after)
  unfolding orders_of
  orders_one k e = rw (those_at is_order p s i k e).rest

  -- every named child from i on holds what its row says
  abbrev pub Standing : Type 0
  Standing = all_kept (kept_holds (λ q a. fits_at 3 q s a) s) (kept_from p s i) ≡ true

-- an order is a mandato or a reversale
pub order_held : (h : Holds) → holds_order h ≡ true → ((r : Bool) × (Rows (Mandato r) ≡ h)) ⊎ ((r : Bool) × (Rows (Reversale r) ≡ h))
order_held (Text f) e = no_kind e
order_held (Rows (Mandato r)) e = inl (r, refl)
order_held (Rows (Reversale r)) e = inr (r, refl)
order_held (Rows FlussoOrdinativi) e = no_kind e
order_held (Rows (InformazioniBeneficiario r)) e = no_kind e
order_held (Rows (InformazioniVersante r)) e = no_kind e
order_held (Rows SostituzioneMandato) e = no_kind e
order_held (Rows SostituzioneReversale) e = no_kind e
order_held (Rows Beneficiario) e = no_kind e
order_held (Rows Versante) e = no_kind e
order_held (Rows MessaggiEsito) e = no_kind e
order_held (Rows TestataMessaggio) e = no_kind e
order_held (Rows EsitoReversali) e = no_kind e
order_held (Rows EsitoMandati) e = no_kind e
order_held (Rows ErroriReversali) e = no_kind e
order_held (Rows ErroriMandati) e = no_kind e
order_held (Rows FlussoOpi) e = no_kind e
order_held (Rows TestataFlusso) e = no_kind e

-- the first order from i on, as the code that reads it asks for it, and what comes after it
pub record OrderAt (p : Parent) (s : List ℕ) (i : ℕ) (k : Kept) : Type 0 where
  pub rest : orders_in s (kept_from p s i) ≡ order_of s k ∷ orders_in s (kept_from p s k.child.after)
  pub lies : Lies s i k.child
  pub shaped : Shaped order_rows 3 s k
  pub on : Standing p s k.child.after

pub order_at : (p : Parent) (s : List ℕ) (i : ℕ) (k : Kept) → Standing p s i → next_of (those is_order (kept_from p s i)) ≡ Some k → OrderAt p s i k
order_at p s i k h e =
    let a = those_at is_order p s i k e in
    let l = a.lies in
    let b = a.every (kept_holds (λ q a. fits_at 3 q s a) s) h in
    record {
      rest = orders_one p s i k e;
      lies = l;
      shaped = record { within = omega arith; rows = sym (⊎_elim (λ w. ap ranges_of w.1) (λ w. ap ranges_of w.1) (order_held k.holds a.is)); holds = b.0 };
      on = b.1;
    }

-- content whose structure stands, where its named children begin
pub standing : (p : Parent) (s : List ℕ) (at : ℕ) → fits_at 4 p s at ≡ true → Standing p s (white_at s at)
standing p s at e = (fits_parts 3 p s at e).1
