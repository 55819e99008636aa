-- The walk over a level's named children: after some of them, what is left to say of the others.
use Rattle.std.specs.Prelude.{Option, Some, None, is_some}
use mathlib.Core.Path.{◌≡◌, refl, sym, ap, ◌∙◌}
use mathlib.Core.List.{List, [], ◌∷◌}
use mathlib.Core.Bool.{Bool, true, false, cond, not, ◌&&◌, and-true, and-false, and_assoc}
use Prim.Native.Nat.{ℕ, zero, suc, ◌+◌, ◌*◌, ◌/◌, ◌-◌, ◌≤◌, ◌<◌}
use native.Mathlib.Nat.{add-zero}
use native.Mathlib.Numerals.{add-one}
use native.Mathlib.Omega.{arith}
use lib.ListN.{length, get_or, drop, drop_of_length-le}
use lib.Dec.{eqb, leb}
use borrow.Author.Tests.{not-true, not-false, eq-eqb, ne_eqb, le-leb, lt-leb, leb-true, leb-false}
use Rattle.scan.specs.Bytes.{between, run}
use Rattle.scan.proofs.Laws.{both}
use Rattle.tokens.specs.Tokens.{white_at}
use Rattle.children.specs.declared.Child.{Child}
use Rattle.schema.specs.declared.Parent.{Parent}
use Rattle.schema.specs.declared.Parent.TheVariants.{FlussoOrdinativi, Mandato, Reversale, InformazioniBeneficiario, InformazioniVersante, SostituzioneMandato, SostituzioneReversale, Beneficiario, Versante, MessaggiEsito, TestataMessaggio, EsitoReversali, EsitoMandati, ErroriReversali, ErroriMandati, FlussoOpi, TestataFlusso}
use Rattle.rows.specs.declared.Kept.{Kept}
use Rattle.children.specs.Child.{child_at}
use Rattle.schema.specs.Table.{table}
use Rattle.rows.specs.Kept.{kept_from}
use Rattle.children.proofs.Laws.{children_end, children_one}
use Rattle.structure.specs.Structure.{is_nil, all_kept, Range, ranges, takes, allows, rows_of, is_row, in_order, text_only, kept_holds, fit_by, fits_at}
use Rattle.structure.specs.Walk.{all_one, paired, filled_by, filled_from, counted_of, in_order_from, goes_on, deeper}

-- PAIRS of bytes, a way out of the code at a time
paired_short : (ps : List ℕ) (row n : ℕ) → length ps ≤ 2 * row + 1 → allows (paired ps) row n ≡ false
paired_short [] row n h = refl
paired_short (a ∷ []) row n h = refl
paired_short (a ∷ b ∷ t) zero n h = absurd (omega arith)
paired_short (a ∷ b ∷ t) (suc row) n h = paired_short t row n (omega arith)

paired_at : (ps : List ℕ) (row n : ℕ) → 2 * row + 1 < length ps → allows (paired ps) row n ≡ between (get_or ps (2 * row) 0) (get_or ps (2 * row + 1) 0) n
paired_at [] row n h = absurd (omega arith)
paired_at (a ∷ []) row n h = absurd (omega arith)
paired_at (a ∷ b ∷ t) zero n h = refl
paired_at (a ∷ b ∷ t) (suc row) n h =
    let x : 2 * suc row ≡ suc (suc (2 * row)) = omega arith in
    let y : 2 * suc row + 1 ≡ suc (suc (2 * row + 1)) = omega arith in
    rw (y, x) (paired_at t row n (omega arith))

module _ (ps : List ℕ) (row n : ℕ) where
  pub pairs_beyond : length ps / 2 ≤ row → false ≡ allows (paired ps) row n
  pairs_beyond h = sym (paired_short ps row n (omega arith))

  module _ (h : row < length ps / 2) where
    pub pairs_less : n < get_or ps (2 * row) 0 → false ≡ allows (paired ps) row n
    pairs_less k = sym (paired_at ps row n (omega arith) ∙ rw (lt-leb (get_or ps (2 * row) 0) n k))

    pub pairs_most : get_or ps (2 * row) 0 ≤ n → leb n (get_or ps (2 * row + 1) 0) ≡ allows (paired ps) row n
    pairs_most k = sym (paired_at ps row n (omega arith) ∙ rw (le-leb (get_or ps (2 * row) 0) n k))

pub some_row : (p : Parent) → 0 < length (ranges (table p))
some_row FlussoOrdinativi = omega arith
some_row (Mandato r) = omega arith
some_row (Reversale r) = omega arith
some_row (InformazioniBeneficiario r) = omega arith
some_row (InformazioniVersante r) = omega arith
some_row SostituzioneMandato = omega arith
some_row SostituzioneReversale = omega arith
some_row Beneficiario = omega arith
some_row Versante = omega arith
some_row MessaggiEsito = omega arith
some_row TestataMessaggio = omega arith
some_row EsitoReversali = omega arith
some_row EsitoMandati = omega arith
some_row ErroriReversali = omega arith
some_row ErroriMandati = omega arith
some_row FlussoOpi = omega arith
some_row TestataFlusso = omega arith

-- filled_from, a row at a time
module _ (rs : List Range) (i m to : ℕ) where
  pub filled_back : to < i → filled_from rs i m to ≡ false
  unfolding filled_from
  filled_back h = rw (lt-leb i to h)

  pub filled_end : i ≤ to → to ≤ i → filled_from rs i m to ≡ true
  unfolding filled_from filled_by
  filled_end h k = let z : to - i ≡ 0 = omega arith in rw (le-leb i to h, z)

  module _ (h : i < to) where
    pub filled_not : allows rs i m ≡ false → filled_from rs i m to ≡ false
    unfolding filled_from filled_by
    filled_not e = let z : to - i ≡ suc (to - (i + 1)) = omega arith in rw (z, e) (and-false (leb i to))

    pub filled_more : allows rs i m ≡ true → filled_from rs i m to ≡ filled_from rs (i + 1) 0 to
    unfolding filled_from filled_by
    filled_more e = let z : to - i ≡ suc (to - (i + 1)) = omega arith in rw (z, e, le-leb i to (omega arith), le-leb (i + 1) to (omega arith), add-one)

-- one element in a row, and the next row follows
allows_one : (rs : List Range) (row : ℕ) → row < length rs → all_one rs ≡ true → allows rs row 1 ≡ true
allows_one [] row h e = absurd (omega arith)
allows_one (r ∷ rs) zero h e = (both (takes r 1) (all_one rs) e).0
allows_one (r ∷ rs) (suc row) h e = allows_one rs row (omega arith) (both (takes r 1) (all_one rs) e).1

pub filled_one : (rs : List Range) (row n to : ℕ) → row < length rs → row < to → to - row ≡ 1 → n ≡ 1 → all_one rs ≡ true → true ≡ filled_from rs row n to
unfolding filled_from filled_by
filled_one rs row n to h k d m e = rw (le-leb row to (omega arith), d, m, allows_one rs row h e)

pub filled_same : (rs : List Range) (row n to : ℕ) → to ≡ row → true ≡ filled_from rs row n to
filled_same rs row n to e = sym (filled_end rs row n to (omega arith) (omega arith))

-- a line's rows, of either kind of order
pub ones_beneficiario : (b : Bool) → true ≡ all_one (ranges (table (InformazioniBeneficiario b)))
ones_beneficiario true = refl
ones_beneficiario false = refl

pub ones_versante : (b : Bool) → true ≡ all_one (ranges (table (InformazioniVersante b)))
ones_versante true = refl
ones_versante false = refl

-- ORDER AND NUMBER, while the children are walked
order_start : (rs : List Range) (j : ℕ) (ks : List ℕ) → in_order rs j ks ≡ in_order_from rs j 0 ks
unfolding in_order_from in_order
order_start [] j ks = sym (and-true (is_nil ks))
order_start (r ∷ rs) j ks = let z : 0 + run (is_row j) ks ≡ run (is_row j) ks = omega arith in rw z

-- one more element of the row
order_same : (rs : List Range) (j n : ℕ) (ks : List ℕ) → in_order_from rs j n (j ∷ ks) ≡ in_order_from rs j (n + 1) ks
unfolding in_order_from in_order run
order_same [] j n ks = rw (ne_eqb (n + 1) 0 (λ h. omega arith)) (sym (and-false (is_nil ks)))
order_same (r ∷ rs) j n ks = let z : n + suc (run (is_row j) ks) ≡ n + 1 + run (is_row j) ks = omega arith in rw (eq-eqb j j refl, z)

run_other : (j k : ℕ) (ks : List ℕ) → (k ≡ j → ⊥) → run (is_row j) (k ∷ ks) ≡ 0
unfolding run
run_other j k ks e = rw (ne_eqb k j e)

run_nil : (j : ℕ) → run (is_row j) [] ≡ 0
unfolding run
run_nil j = refl

-- no more element of the row: it takes the n counted, and the next row begins
order_leave : (rs : List Range) (row j n : ℕ) (ks : List ℕ) → run (is_row j) ks ≡ 0 → (length rs ≤ row → is_nil ks ≡ false) → in_order_from (drop row rs) j n ks ≡ (allows rs row n && in_order_from (drop (suc row) rs) (suc j) 0 ks)
unfolding in_order_from
order_leave [] zero j n ks e f = rw (f (omega arith))
order_leave [] (suc row) j n ks e f = rw (f (omega arith))
order_leave (r ∷ rs) zero j n ks e f = rw (e, add-zero) (ap (λ b. takes r n && b) (order_start rs (suc j) ks))
order_leave (r ∷ rs) (suc row) j n ks e f = order_leave rs row j n ks e (λ h. f (omega arith))

-- an element of an earlier row
back : (rs : List Range) (j k : ℕ) (ks : List ℕ) → k < j → in_order rs j (k ∷ ks) ≡ false
unfolding in_order
back [] j k ks h = refl
back (r ∷ rs) j k ks h = rw (run_other j k ks (λ e. omega arith), back rs (suc j) k ks (omega arith)) (and-false (takes r 0))

order_back : (rs : List Range) (j n k : ℕ) (ks : List ℕ) → k < j → in_order_from rs j n (k ∷ ks) ≡ false
unfolding in_order_from
order_back [] j n k ks h = refl
order_back (r ∷ rs) j n k ks h = rw (run_other j k ks (λ e. omega arith), back rs (suc j) k ks (omega arith)) (and-false (takes r (n + 0)))

counted_new : (row n to : ℕ) → (to ≡ row → ⊥) → counted_of row n to ≡ 1
unfolding counted_of
counted_new row n to e = rw (ne_eqb to row e)

counted_first : (row to : ℕ) → counted_of row 0 to ≡ 1
unfolding counted_of
counted_first row to = go (eqb to row)
  where
    go : (b : Bool) → cond b (0 + 1) 1 ≡ 1
    go true = refl
    go false = refl

counted_same : (row n : ℕ) → counted_of row n row ≡ n + 1
unfolding counted_of
counted_same row n = rw (eq-eqb row row refl)

-- the count stays within the bytes walked
pub counted_within : (row n to m j : ℕ) → m ≡ counted_of row n to → n < j → m ≤ j
unfolding counted_of
counted_within row n to m j e h = rw e (go (eqb to row))
  where
    go : (b : Bool) → cond b (n + 1) 1 ≤ j
    go true = omega arith
    go false = omega arith

-- an element of this row or a later one: the rows before its own are filled
step_by : (d : ℕ) (rs : List Range) (row n to : ℕ) (ks : List ℕ) → to ≡ row + d → in_order_from (drop row rs) row n (to ∷ ks) ≡ (filled_by d rs row n && in_order_from (drop to rs) to (counted_of row n to) ks)
unfolding filled_by
step_by zero rs row n to ks h = let z : to ≡ row = omega arith in rw (z, counted_same) (order_same (drop row rs) row n ks)
step_by (suc d) rs row n to ks h =
    let f : to ≡ row → ⊥ = λ e. omega arith in
    let ih = step_by d rs (suc row) 0 to ks (omega arith) in
    order_leave rs row row n (to ∷ ks) (run_other row to ks f) (λ x. refl)
    ∙ rw (ih, counted_new row n to f, counted_first) (sym (and_assoc (allows rs row n) (filled_by d rs (suc row) 0) (in_order_from (drop to rs) to 1 ks)))

order_step : (rs : List Range) (row n to : ℕ) (ks : List ℕ) → in_order_from (drop row rs) row n (to ∷ ks) ≡ (filled_from rs row n to && in_order_from (drop to rs) to (counted_of row n to) ks)
unfolding filled_from
order_step rs row n to ks = go (leb row to) refl
  where
    go : (b : Bool) → leb row to ≡ b → in_order_from (drop row rs) row n (to ∷ ks) ≡ ((b && filled_by (to - row) rs row n) && in_order_from (drop to rs) to (counted_of row n to) ks)
    go true e = let h = leb-true row to e in step_by (to - row) rs row n to ks (omega arith)
    go false e = let h = leb-false row to e in order_back (drop row rs) row n to ks (omega arith)

-- no more element: the rows that are left are filled
end_by : (d : ℕ) (rs : List Range) (row n : ℕ) → length rs ≡ row + d → (d ≡ 0 → n ≡ 0) → in_order_from (drop row rs) row n [] ≡ filled_by d rs row n
unfolding filled_by in_order_from
end_by zero rs row n h f = rw (drop_of_length-le rs {i = row} (omega arith), f refl)
end_by (suc d) rs row n h f =
    order_leave rs row row n [] (run_nil row) (λ x. absurd (omega arith)) ∙ ap (λ b. allows rs row n && b) (end_by d rs (suc row) 0 (omega arith) (λ x. refl))

order_end : (rs : List Range) (row n : ℕ) → row < length rs → in_order_from (drop row rs) row n [] ≡ filled_from rs row n (length rs)
unfolding filled_from
order_end rs row n h = rw (le-leb row (length rs) (omega arith)) (end_by (length rs - row) rs row n (omega arith) (λ e. absurd (omega arith)))

-- THE WALK
-- a child's part, and the others' in the order of the rows
and_swap : (a b c : Bool) → (a && (b && c)) ≡ (b && (a && c))
and_swap true b c = refl
and_swap false b c = sym (and-false b)

module _ (rs : List Range) (f : Kept → Bool) (row n : ℕ) (ks : List Kept) where
  pub goes_end : ks ≡ [] → row < length rs → goes_on rs f row n ks ≡ filled_from rs row n (length rs)
  unfolding goes_on rows_of all_kept
  goes_end e h = rw (e, order_end rs row n h) (and-true (filled_from rs row n (length rs)))

  module _ (k : Kept) (t : List Kept) (e : ks ≡ k ∷ t) where
    pub goes_short : filled_from rs row n k.row ≡ false → goes_on rs f row n ks ≡ false
    unfolding goes_on rows_of
    goes_short g = rw (e, order_step rs row n k.row (rows_of t), g)

    pub goes_on_lem : filled_from rs row n k.row ≡ true → goes_on rs f row n ks ≡ (f k && goes_on rs f k.row (counted_of row n k.row) t)
    unfolding goes_on rows_of all_kept
    goes_on_lem g = rw (e, order_step rs row n k.row (rows_of t), g) (and_swap (in_order_from (drop k.row rs) k.row (counted_of row n k.row) (rows_of t)) (f k) (all_kept f t))

-- ONE LEVEL
pub fits_none : (p : Parent) (s : List ℕ) (at : ℕ) → fits_at 0 p s at ≡ false
unfolding fits_at
fits_none p s at = refl

pub fits_level : (d : ℕ) (p : Parent) (s : List ℕ) (at : ℕ) → (d ≡ 0 → ⊥) → fits_at d p s at ≡ goes_on (ranges (table p)) (kept_holds (deeper d s) s) 0 0 (kept_from p s (white_at s at))
unfolding fits_at fit_by goes_on
fits_level zero p s at f = absurd (f refl)
fits_level (suc d) p s at f =
    let z : d ≡ suc d - 1 = omega arith in
    ap (λ (x : ℕ). in_order (ranges (table p)) 0 (rows_of (kept_from p s (white_at s at))) && all_kept (kept_holds (λ q a. fits_at x q s a) s) (kept_from p s (white_at s at))) z
    ∙ rw (order_start (ranges (table p)) 0 (rows_of (kept_from p s (white_at s at))))

-- TEXT
module _ (s : List ℕ) (at : ℕ) where
  pub text_is : (o : Option Child) (b : Bool) → is_some o ≡ not b → o ≡ child_at s (white_at s at) → b ≡ text_only s at
  unfolding text_only
  text_is None b k e = rw (children_end s (white_at s at) (sym e)) (not-false b (sym k))
  text_is (Some c) b k e = rw (children_one s (white_at s at) c (sym e)) (not-true b (sym k))
