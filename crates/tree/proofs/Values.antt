-- Where structure and fields stand, the header and the orders by name (specs/Orders.antt) are there, and are those of proofs/Levels.antt.
use Rattle.std.specs.Prelude.{Option, Some, None}
use mathlib.Core.Path.{◌≡◌, refl, sym, ap, subst, ◌∙◌}
use mathlib.Core.Logic.{inl, inr}
use mathlib.Core.List.{List, [], ◌∷◌, ◌++◌, map}
use mathlib.Core.Bool.{Bool, true, false, cond, ◌&&◌, ◌||◌}
use Prim.Native.Nat.{ℕ, zero, suc, ◌+◌, ◌≤◌, ◌<◌}
use Prim.Native.String.{String}
use native.Mathlib.Nat.{add-zero}
use native.Mathlib.Omega.{arith}
use lib.ListN.{length, take, drop, replicate}
use lib.Seq.{take-append-le, take-length}
use lib.Dec.{eqb, leb}
use borrow.Author.Tests.{eqb-true, ne_eqb, leb-true}
use Rattle.scan.specs.Bytes.{bytes, between, run, starts_with, has_at, text_is}
use Rattle.scan.proofs.Laws.{both}
use Rattle.codes.specs.Codes.{tipo_operazione}
use Rattle.digits.specs.Digits.{esercizio, numero, importo, progressivo}
use Rattle.dates.specs.Dates.{data_of}
use Rattle.fields.specs.declared.Form.{Form}
use Rattle.fields.specs.declared.Form.TheVariants.{Esercizio, TipoOperazione, Numero, Data, Importo, Progressivo}
use Rattle.fields.specs.declared.Judged.TheVariants.{Stands}
use Rattle.fields.specs.Fields.{is_number, is_day, is_operation, field_stands}
use Rattle.order.specs.declared.Line.{Line}
use Rattle.schema.specs.declared.Parent.{Parent}
use Rattle.schema.specs.declared.Parent.TheVariants.{FlussoOrdinativi, Mandato, Reversale, FlussoOpi, TestataFlusso}
use Rattle.schema.specs.declared.Holds.{Holds}
use Rattle.schema.specs.declared.Holds.TheVariants.{Text, Rows}
use Rattle.schema.specs.Table.{◌is◌, Row, once, many, table}
use Rattle.structure.specs.Structure.{Range, ranges, takes, is_row, in_order}
use Rattle.orders.specs.Orders.{value_of, date_of, operation_of, eight}
use Rattle.rows.specs.Replaces.{as_replacing}
use Rattle.editions.specs.declared.Edition.{Edition}
use Rattle.editions.specs.declared.Edition.TheVariants.{Oil, Opi}
use Rattle.header.specs.Header.{root_of}
use Rattle.flow.proofs.Values.{orders_row}
use Rattle.tree.specs.Tree.{Tree, tree, says, holds, Trees, none, more, name_of, held_of, kids_in}
use Rattle.tree.specs.Orders.{children_named, first_text, text_named, OneText, OneHolds, OneValue, Each, each_none, each_next, HeaderIn, Words, mandato_words, reversale_words, joined, da_sostituire, NamedIn, NamedBy, LineIn, OrderIn, AnOrder, OrdersIn}
use Rattle.order.specs.Ordinativo.{Ordinativo, ordinativo, no_name, no_line}
use Rattle.order.specs.declared.NamedLine.{NamedLine}
use Rattle.codes.specs.declared.Operation.{Operation}
use Rattle.codes.specs.declared.Operation.TheVariants.{Inserimento, Variazione, Annullo, Sostituzione}
use Rattle.tree.specs.Structure.{replaces_in, rows_in}
use Rattle.tree.proofs.ByName.{Fixed}
use Rattle.tree.proofs.Levels.{KeptTree, keep_tree, kept_trees, rows_of_trees, all_trees, kept_fits, fits_tree, fields_held, fields_of_trees, fields_tree, first_kids, header_tree, named_kids, named_first, named_tree, line_tree, lines_tree, order_with, order_tree, orders_tree, in_places, all_in_places}
use Rattle.tree.proofs.Names.{text_same, HasRow, row_at, has_names, in_row_trees, pick, as_kept, row_picked}
use Rattle.tree.proofs.Orders.{one_name, all_row, Spelled, OrderWords, mandato_words_lem, reversale_words_lem, order_names, order_names_lem}
use Rattle.tree.proofs.Stand.{stand, all_stand, Right, stand_both, stand_is}
use Rattle.calendar.specs.declared.Date.{Date}

-- HOW MANY A ROW HAS
abbrev count_row : ℕ → List ℕ → ℕ
count_row m [] = 0
count_row m (k ∷ ks) = cond (eqb k m) (suc (count_row m ks)) (count_row m ks)

module _ (n : ℕ) where
  -- of the row at the front
  count_here : (ks : List ℕ) → count_row n ks ≡ run (is_row n) ks + count_row n (drop (run (is_row n) ks) ks)
  unfolding run
  count_here [] = refl
  count_here (k ∷ ks) = go (eqb k n) refl (count_here ks)
    where
      go : (b : Bool) → eqb k n ≡ b → count_row n ks ≡ run (is_row n) ks + count_row n (drop (run (is_row n) ks) ks)
          → cond b (suc (count_row n ks)) (count_row n ks) ≡ cond b (suc (run (is_row n) ks)) 0 + count_row n (drop (cond b (suc (run (is_row n) ks)) 0) (k ∷ ks))
      go true e i = omega arith
      go false e i = rw e (omega arith)

  -- of another
  count_other : (m : ℕ) → (n ≡ m → ⊥) → (ks : List ℕ) → count_row m ks ≡ count_row m (drop (run (is_row n) ks) ks)
  unfolding run
  count_other m h [] = refl
  count_other m h (k ∷ ks) = go (eqb k n) refl (count_other m h ks)
    where
      go : (b : Bool) → eqb k n ≡ b → count_row m ks ≡ count_row m (drop (run (is_row n) ks) ks) → count_row m (k ∷ ks) ≡ count_row m (drop (cond b (suc (run (is_row n) ks)) 0) (k ∷ ks))
      go true e i = let z = eqb-true k n e in rw (z, ne_eqb n m h) i
      go false e i = refl

-- rows before n are not there
count_earlier : (rs : List Range) (n m : ℕ) (ks : List ℕ) → m < n → in_order rs n ks ≡ true → count_row m ks ≡ 0
unfolding in_order
count_earlier [] n m [] l e = refl
count_earlier [] n m (k ∷ ks) l e = let z : ◌≡◌ {A = ℕ} 0 1 = cc in absurd (omega arith)
count_earlier (r ∷ rs) n m ks l e =
    let b = both (takes r (run (is_row n) ks)) (in_order rs (suc n) (drop (run (is_row n) ks) ks)) e in
    count_other n m (λ z. omega arith) ks ∙ count_earlier rs (suc n) m (drop (run (is_row n) ks) ks) (omega arith) b.1

row_count : (rs : List Row) (n j : ℕ) (r : Row) (others : List Row) (ks : List ℕ) → drop j rs ≡ r ∷ others → in_order (ranges rs) n ks ≡ true → between r.least r.most (count_row (n + j) ks) ≡ true
unfolding in_order
row_count [] n zero r others ks z e = let y : ◌≡◌ {A = ℕ} 0 1 = cc in absurd (omega arith)
row_count [] n (suc j) r others ks z e = let y : ◌≡◌ {A = ℕ} 0 1 = cc in absurd (omega arith)
row_count (x ∷ rs) n zero r others ks z e =
    let m = run (is_row n) ks in
    let b = both (between x.least x.most m) (in_order (ranges rs) (suc n) (drop m ks)) e in
    let c = count_earlier (ranges rs) (suc n) n (drop m ks) (omega arith) b.1 in
    let y : x ≡ r = cc in
    let d : count_row (n + 0) ks ≡ m = rw (add-zero n) (count_here n ks ∙ rw c (add-zero m)) in
    rw (d, ← y) b.0
row_count (x ∷ rs) n (suc j) r others ks z e =
    let m = run (is_row n) ks in
    let b = both (between x.least x.most m) (in_order (ranges rs) (suc n) (drop m ks)) e in
    let y : n + suc j ≡ suc n + j = omega arith in
    rw (y, count_other n (suc n + j) (λ q. omega arith) ks) (row_count rs (suc n) j r others (drop m ks) z b.1)

count_trees : (n : ℕ) (ks : List KeptTree) → length (in_row_trees n ks) ≡ count_row n (rows_of_trees ks)
unfolding in_row_trees rows_of_trees
count_trees n [] = refl
count_trees n (k ∷ ks) = go (eqb k.row n) (count_trees n ks)
  where
    go : (b : Bool) → length (in_row_trees n ks) ≡ count_row n (rows_of_trees ks) → length (cond b (k ∷ in_row_trees n ks) (in_row_trees n ks)) ≡ cond b (suc (count_row n (rows_of_trees ks))) (count_row n (rows_of_trees ks))
    go true e = ap suc e
    go false e = e

-- EACH CHILD IS RIGHT: it holds what its row says, and its fields stand
abbrev pub right : ℕ → KeptTree → Bool
right d k = kept_fits (fits_tree d) k && all_stand (fields_held (fields_tree d) k.tree k.holds)

all_right : (d : ℕ) (ks : List KeptTree) → all_trees (kept_fits (fits_tree d)) ks ≡ true → all_stand (fields_of_trees (fields_tree d) ks) ≡ true → all_trees (right d) ks ≡ true
unfolding all_trees fields_of_trees
all_right d [] e f = refl
all_right d (k ∷ ks) e f =
    let a = both (kept_fits (fits_tree d) k) (all_trees (kept_fits (fits_tree d)) ks) e in
    let b = both (all_stand (fields_held (fields_tree d) k.tree k.holds)) (all_stand (fields_of_trees (fields_tree d) ks)) (sym (stand_both (fields_held (fields_tree d) k.tree k.holds) (fields_of_trees (fields_tree d) ks)) ∙ f) in
    rw (a.0, b.0, all_right d ks a.1 b.1)

record Parts (d : ℕ) (p : Parent) (ts : Trees) : Type 0 where
  rows : in_order (ranges (table p)) 0 (rows_of_trees (kept_trees p ts)) ≡ true
  each : all_trees (right d) (kept_trees p ts) ≡ true

right_parts : (d : ℕ) (p : Parent) (ts : Trees) → Right (suc d) p ts → Parts d p ts
unfolding fits_tree fields_tree
right_parts d p ts r =
    let b = both (in_order (ranges (table p)) 0 (rows_of_trees (kept_trees p ts))) (all_trees (kept_fits (fits_tree d)) (kept_trees p ts)) r.fits in
    record { rows = b.0; each = all_right d (kept_trees p ts) b.1 r.stands }

-- A ROW OF ONE NAME: as many children of that name as it takes, and each is right
kept_length : (n : ℕ) (g : Holds) (l : List Tree) → length (as_kept n g l) ≡ length l
kept_length n g [] = refl
kept_length n g (t ∷ l) = ap suc (kept_length n g l)

module _ (d : ℕ) (p : Parent) (ts : Trees) (r : Right (suc d) p ts) (n : ℕ) (x : String) (g : Holds) (least most : ℕ) (h : HasRow p n (many least most ((x is g) ∷ []))) where
  row_children : in_row_trees n (kept_trees p ts) ≡ as_kept n g (children_named (x ∷ []) ts)
  row_children = row_picked p n ts ∙ ap (λ ns. pick ns n ts) (has_names p n (many least most ((x is g) ∷ [])) h) ∙ one_name x g n ts

  pub row_length : between least most (length (children_named (x ∷ []) ts)) ≡ true
  row_length =
      let c = row_count (table p) 0 n (many least most ((x is g) ∷ [])) h.0 (rows_of_trees (kept_trees p ts)) h.1 (right_parts d p ts r).rows in
      let z : length (children_named (x ∷ []) ts) ≡ count_row (0 + n) (rows_of_trees (kept_trees p ts)) =
      sym (kept_length n g (children_named (x ∷ []) ts)) ∙ ap length (sym row_children) ∙ count_trees n (kept_trees p ts) ∙ ap (λ (m : ℕ). count_row m (rows_of_trees (kept_trees p ts))) (omega arith) in
      rw z c

  pub row_right : all_trees (right d) (as_kept n g (children_named (x ∷ []) ts)) ≡ true
  row_right = rw (← row_children) (all_row (right d) n (kept_trees p ts) (right_parts d p ts r).each)

-- a child of the name x has it
named_first_lem : (x : String) (ts : Trees) (t : Tree) (l : List Tree) → children_named (x ∷ []) ts ≡ t ∷ l → name_of t ≡ bytes x
unfolding children_named
named_first_lem x none t l e = let y : ◌≡◌ {A = ℕ} 0 1 = cc in absurd (omega arith)
named_first_lem x (more u ts) t l e = go (text_is (bytes x) (name_of u)) refl e (named_first_lem x ts t l)
  where
    go : (b : Bool) → text_is (bytes x) (name_of u) ≡ b → cond (b || false) (u ∷ children_named (x ∷ []) ts) (children_named (x ∷ []) ts) ≡ t ∷ l → (children_named (x ∷ []) ts ≡ t ∷ l → name_of t ≡ bytes x) → name_of t ≡ bytes x
    go true z e i = let y : u ≡ t = cc in rw (← y) (text_same (bytes x) (name_of u) z)
    go false z e i = i e

-- ONE CHILD, with its text
record TextOf (x : String) (f : Form) (ts : Trees) : Type 0 where
  one : OneText x ts (text_named x ts)
  stands : field_stands f (text_named x ts) ≡ Stands

text_one : (x : String) (f : Form) (n d : ℕ) (ts : Trees) (l : List Tree) → children_named (x ∷ []) ts ≡ l → between 1 1 (length l) ≡ true → all_trees (right d) (as_kept n (Text f) l) ≡ true → TextOf x f ts
unfolding all_trees all_stand
text_one x f n d ts [] e c a = let y : ◌≡◌ {A = ℕ} 0 1 = cc in absurd (omega arith)
text_one x f n d ts (t ∷ u ∷ l) e c a = let b = both (leb 1 (suc (suc (length l)))) (leb (suc (suc (length l))) 1) c in absurd (omega (arith, leb-true (suc (suc (length l))) 1 b.1))
text_one x f n d ts (tree p m (holds ks) ∷ []) e c a = let y : ◌≡◌ {A = ℕ} 0 1 = cc in absurd (omega arith)
text_one x f n d ts (tree p m (says t) ∷ []) e c a =
    let z = named_first_lem x ts (tree p m (says t)) [] e in
    let w : text_named x ts ≡ t = ap first_text e in
    let b = both (stand (field_stands f t) && true) true a in
    let c = both (stand (field_stands f t)) true b.0 in
    record { one = rw w (record { place = p; alone = e ∙ rw z }); stands = rw w (stand_is (record { form = f; lt = p; text = t }) c.0) }

module _ (d : ℕ) (p : Parent) (ts : Trees) (r : Right (suc d) p ts) where
  text_of : (n : ℕ) (x : String) (f : Form) → HasRow p n (once (x is Text f)) → TextOf x f ts
  text_of n x f h = text_one x f n d ts (children_named (x ∷ []) ts) refl (row_length d p ts r n x (Text f) 1 1 h) (row_right d p ts r n x (Text f) 1 1 h)

-- VALUES
pub number_there : (n : Option ℕ) → is_number n ≡ Stands → n ≡ Some (value_of n)
number_there (Some v) e = refl
number_there None e = let z : ◌≡◌ {A = ℕ} 0 1 = cc in absurd (omega arith)

pub day_there : (n : Option Date) → is_day n ≡ Stands → n ≡ Some (date_of n)
day_there (Some v) e = refl
day_there None e = let z : ◌≡◌ {A = ℕ} 0 1 = cc in absurd (omega arith)

operation_there : (n : Option Operation) → is_operation n ≡ Stands → n ≡ Some (operation_of n)
operation_there (Some v) e = refl
operation_there None e = let z : ◌≡◌ {A = ℕ} 0 1 = cc in absurd (omega arith)

module _ (x : String) (ts : Trees) where
  -- the value of a child's text
  value_of_lem : {A : Type 0} (f : Form) (form : List ℕ → A) (v : A) → TextOf x f ts → (field_stands f (text_named x ts) ≡ Stands → form (text_named x ts) ≡ v) → OneValue x form ts v
  value_of_lem f form v t e = record { text = text_named x ts; one = t.one; is = e t.stands }

  importo_of : TextOf x Importo ts → OneValue x importo ts (Some (value_of (importo (text_named x ts))))
  unfolding field_stands
  importo_of t = value_of_lem Importo importo _ t (number_there (importo (text_named x ts)))

  numero_of : TextOf x Numero ts → OneValue x numero ts (Some (value_of (numero (text_named x ts))))
  unfolding field_stands
  numero_of t = value_of_lem Numero numero _ t (number_there (numero (text_named x ts)))

  progressivo_of : TextOf x Progressivo ts → OneValue x progressivo ts (Some (value_of (progressivo (text_named x ts))))
  unfolding field_stands
  progressivo_of t = value_of_lem Progressivo progressivo _ t (number_there (progressivo (text_named x ts)))

  esercizio_of : TextOf x Esercizio ts → OneValue x esercizio ts (Some (value_of (esercizio (text_named x ts))))
  unfolding field_stands
  esercizio_of t = value_of_lem Esercizio esercizio _ t (number_there (esercizio (text_named x ts)))

  data_of_lem : TextOf x Data ts → OneValue x data_of ts (Some (date_of (data_of (text_named x ts))))
  unfolding field_stands
  data_of_lem t = value_of_lem Data data_of _ t (day_there (data_of (text_named x ts)))

  operazione_of : TextOf x TipoOperazione ts → OneValue x tipo_operazione ts (Some (operation_of (tipo_operazione (text_named x ts))))
  unfolding field_stands
  operazione_of t = value_of_lem TipoOperazione tipo_operazione _ t (operation_there (tipo_operazione (text_named x ts)))

-- ONE CHILD, with its elements, where a parent must have some
record KidsOf (d : ℕ) (x : String) (q : Parent) (ts : Trees) : Type 0 where
  one : OneHolds x ts (first_kids (children_named (x ∷ []) ts))
  right : Right d q (first_kids (children_named (x ∷ []) ts))

kids_one : (x : String) (q : Parent) (n d : ℕ) (ts : Trees) (l : List Tree) → Fixed q → (fits_tree d q none ≡ true → ⊥) → children_named (x ∷ []) ts ≡ l
    → between 1 1 (length l) ≡ true → all_trees (right d) (as_kept n (Rows q) l) ≡ true → KidsOf d x q ts
unfolding all_trees
kids_one x q n d ts [] u o e c a = let y : ◌≡◌ {A = ℕ} 0 1 = cc in absurd (omega arith)
kids_one x q n d ts (t ∷ v ∷ l) u o e c a = let b = both (leb 1 (suc (suc (length l)))) (leb (suc (suc (length l))) 1) c in absurd (omega (arith, leb-true (suc (suc (length l))) 1 b.1))
kids_one x q n d ts (tree p m (says t) ∷ []) u o e c a =
    let b = both (right d (record { tree = tree p m (says t); row = n; holds = Rows q })) true a in
    absurd (o (rw (u (replaces_in none)) at (both (fits_tree d (rows_in q none) none) (all_stand (fields_tree d (rows_in q none) none)) b.0).0))
kids_one x q n d ts (tree p m (holds ks) ∷ []) u o e c a =
    let z = named_first_lem x ts (tree p m (holds ks)) [] e in
    let w : first_kids (children_named (x ∷ []) ts) ≡ ks = ap first_kids e in
    let b = both (right d (record { tree = tree p m (holds ks); row = n; holds = Rows q })) true a in
    let f = both (fits_tree d (rows_in q ks) ks) (all_stand (fields_tree d (rows_in q ks) ks)) b.0 in
    record { one = rw w (record { place = p; alone = e ∙ rw z }); right = rw w (record { fits = rw (u (replaces_in ks)) at f.0; stands = rw (u (replaces_in ks)) at f.1 }) }

testata_some : (d : ℕ) → fits_tree d TestataFlusso none ≡ true → ⊥
unfolding fits_tree kept_trees rows_of_trees in_order run
testata_some zero e = let y : ◌≡◌ {A = ℕ} 0 1 = cc in omega arith
testata_some (suc d) e = let y : ◌≡◌ {A = ℕ} 0 1 = cc in omega arith

-- THE HEADER
pub header_in : (e : Edition) (d : ℕ) (ts : Trees) → Right (suc (suc d)) (root_of e) ts → HeaderIn e ts (header_tree e ts)
header_in Oil d ts r = record {
  testata = ts;
  there = refl;
  abi = (text_of (suc d) FlussoOrdinativi ts r 0 "codice_ABI_BT" _ (_, refl)).one;
  ente = (text_of (suc d) FlussoOrdinativi ts r 3 "codice_ente_BT" _ (_, refl)).one;
  esercizio = esercizio_of "esercizio" ts (text_of (suc d) FlussoOrdinativi ts r 4 "esercizio" _ (_, refl));
}
header_in Opi d ts r =
    let x : String = "testata_flusso" in
    let k = kids_one x TestataFlusso 0 (suc d) ts (children_named (x ∷ []) ts) (λ b. refl) (testata_some (suc d)) refl (row_length (suc d) FlussoOpi ts r 0 x (Rows TestataFlusso) 1 1 (_, refl)) (row_right (suc d) FlussoOpi ts r 0 x (Rows TestataFlusso) 1 1 (_, refl)) in
    let us = first_kids (children_named (x ∷ []) ts) in
    record {
      testata = us;
      there = k.one;
      abi = (text_of d TestataFlusso us k.right 0 "codice_ABI_BT" _ (_, refl)).one;
      ente = (text_of d TestataFlusso us k.right 3 "codice_ente_BT" _ (_, refl)).one;
      esercizio = esercizio_of "esercizio" ts (text_of (suc d) FlussoOpi ts r 1 "esercizio" _ (_, refl));
    }

-- THE LINE THAT A LINE NAMES
-- a row that takes one is not filled by none
none_counted : (z : Parent) → between 1 1 (count_row 0 (rows_of_trees (kept_trees z none))) ≡ true → ⊥
unfolding rows_of_trees kept_trees
none_counted z c = let y : ◌≡◌ {A = ℕ} 0 1 = cc in omega arith

named_some : (d : ℕ) (z : Parent) (w : Words) → HasRow z 0 (once (da_sostituire "numero_" w.name is Text Numero)) → fits_tree d z none ≡ true → ⊥
unfolding fits_tree
named_some zero z w h e = let y : ◌≡◌ {A = ℕ} 0 1 = cc in omega arith
named_some (suc d) z w h e =
    let b = both (in_order (ranges (table z)) 0 (rows_of_trees (kept_trees z none))) (all_trees (kept_fits (fits_tree d)) (kept_trees z none)) e in
    let c = row_count (table z) 0 0 (once (da_sostituire "numero_" w.name is Text Numero)) h.0 (rows_of_trees (kept_trees z none)) h.1 b.0 in
    none_counted z c

-- by whether the order replaces others
abbrev NamedWhere : Bool → Words → Trees → NamedLine → Type 0
NamedWhere true w kids n = NamedIn w kids n
NamedWhere false w kids n = n ≡ no_name

-- which its operation says, where that stands
word_asked : tipo_operazione (bytes "SOSTITUZIONE") ≡ Some Sostituzione
unfolding tipo_operazione text_is has_at starts_with
word_asked = refl

named_asked : (t : List ℕ) (b : Bool) → text_is (bytes "SOSTITUZIONE") t ≡ b → is_operation (tipo_operazione t) ≡ Stands → (w : Words) (kids : Trees) (n : NamedLine) → NamedWhere b w kids n → NamedBy (operation_of (tipo_operazione t)) w kids n
unfolding tipo_operazione
named_asked t true e h w kids n x = subst (λ (a : Option Operation). NamedBy (operation_of a) w kids n) (sym (ap tipo_operazione (text_same (bytes "SOSTITUZIONE") t e) ∙ word_asked)) x
named_asked t false e h w kids n x = rw e (go (text_is (bytes "INSERIMENTO") t) (text_is (bytes "VARIAZIONE") t) (text_is (bytes "ANNULLO") t) (rw e at h))
  where
    asked : Bool → Bool → Bool → Option Operation
    asked i v a = cond i (Some Inserimento) (cond v (Some Variazione) (cond a (Some Annullo) None))

    go : (i v a : Bool) → is_operation (asked i v a) ≡ Stands → NamedBy (operation_of (asked i v a)) w kids n
    go true v a h = x
    go false true a h = x
    go false false true h = x
    go false false false h = let z : ◌≡◌ {A = ℕ} 0 1 = cc in absurd (omega arith)

-- LINES AND ORDERS
module _ (p q z : Parent) (r : Bool) (w : Words) (sp : Spelled p q z r w) where
  named_in : (d : ℕ) (ts : Trees) → Right (suc (suc d)) q ts → NamedWhere r w ts (named_tree r w ts)
  named_in d ts i = go r refl
    where
      x : String
      x = joined "sostituzione_" w.name

      first : (l : List Tree) → between 1 1 (length l) ≡ true → named_first w l ≡ named_kids w (first_kids l)
      first [] e = let y : ◌≡◌ {A = ℕ} 0 1 = cc in absurd (omega arith)
      first (t ∷ l) e = refl

      go : (b : Bool) → r ≡ b → NamedWhere b w ts (named_tree b w ts)
      go true e =
          let y = sp.structure e in
          let us = first_kids (children_named (x ∷ []) ts) in
          let l = row_length (suc d) q ts i 3 x (Rows z) 1 1 y in
          let k = kids_one x z 3 (suc d) ts (children_named (x ∷ []) ts) sp.named_fixed (named_some (suc d) z w (row_at z sp.replaced 0 refl)) refl l (row_right (suc d) q ts i 3 x (Rows z) 1 1 y) in
          rw (first (children_named (x ∷ []) ts) l) (record {
            structure = us;
            there = k.one;
            number = numero_of (da_sostituire "numero_" w.name) us (text_of d z us k.right 0 (da_sostituire "numero_" w.name) _ (row_at z sp.replaced 0 refl));
            line = progressivo_of (da_sostituire "progressivo_" w.party) us (text_of d z us k.right 1 (da_sostituire "progressivo_" w.party) _ (row_at z sp.replaced 1 refl));
            esercizio = esercizio_of (da_sostituire "esercizio_" w.name) us (text_of d z us k.right 2 (da_sostituire "esercizio_" w.name) _ (row_at z sp.replaced 2 refl));
          })
      go false e = refl

  line_in : (o : Operation) → ((ts : Trees) (n : NamedLine) → NamedWhere r w ts n → NamedBy o w ts n) → (d : ℕ) (t : Tree) → Right (suc (suc d)) q (kids_in (held_of t)) → LineIn o w t (line_tree r w (kids_in (held_of t)))
  line_in o by d t i = record {
    progressivo = progressivo_of (joined "progressivo_" w.party) (kids_in (held_of t)) (text_of (suc d) q (kids_in (held_of t)) i 0 (joined "progressivo_" w.party) _ sp.progressivo);
    amount = importo_of (joined "importo_" w.party) (kids_in (held_of t)) (text_of (suc d) q (kids_in (held_of t)) i 1 (joined "importo_" w.party) _ sp.amount);
    named = by (kids_in (held_of t)) (named_tree r w (kids_in (held_of t))) (named_in d (kids_in (held_of t)) i);
  }

  lines_in : (o : Operation) → ((ts : Trees) (n : NamedLine) → NamedWhere r w ts n → NamedBy o w ts n) → (d n : ℕ) (l : List Tree) → all_trees (right (suc (suc d))) (as_kept n (Rows q) l) ≡ true → Each (LineIn o w) l (lines_tree r w l)
  unfolding all_trees lines_tree
  lines_in o by d n [] a = each_none
  lines_in o by d n (t ∷ l) a =
      let ks = kids_in (held_of t) in
      let f = sp.line_fixed (replaces_in ks) in
      let b = both (right (suc (suc d)) (record { tree = t; row = n; holds = Rows q })) (all_trees (right (suc (suc d))) (as_kept n (Rows q) l)) a in
      let c = both (fits_tree (suc (suc d)) (rows_in q ks) ks) (all_stand (fields_tree (suc (suc d)) (rows_in q ks) ks)) b.0 in
      each_next (line_in o by d t (record { fits = rw f at c.0; stands = rw f at c.1 })) (lines_in o by d n l b.1)

  order_in : (d : ℕ) (t : Tree) → name_of t ≡ bytes w.name → replaces_in (kids_in (held_of t)) ≡ r → Right (suc (suc (suc d))) p (kids_in (held_of t)) → OrderIn w t (order_with r w (kids_in (held_of t)))
  unfolding field_stands
  order_in d t n u i =
      let k = kids_in (held_of t) in
      let o = text_of (suc (suc d)) p k i 0 "tipo_operazione" _ (row_at p sp.order 0 refl) in
      record {
        name = n;
        kind = refl;
        operation = operazione_of "tipo_operazione" k o;
        number = numero_of (joined "numero_" w.name) k (text_of (suc (suc d)) p k i 1 (joined "numero_" w.name) _ (row_at p sp.order 1 refl));
        date = data_of_lem (joined "data_" w.name) k (text_of (suc (suc d)) p k i 2 (joined "data_" w.name) _ (row_at p sp.order 2 refl));
        total = importo_of (joined "importo_" w.name) k (text_of (suc (suc d)) p k i 3 (joined "importo_" w.name) _ (row_at p sp.order 3 refl));
        lines = lines_in (operation_of (tipo_operazione (text_named "tipo_operazione" k))) (named_asked (text_named "tipo_operazione" k) r u o.stands w) d 4 (children_named (joined "informazioni_" w.party ∷ []) k) (row_right (suc (suc d)) p k i 4 (joined "informazioni_" w.party) (Rows q) 1 8 (row_at p sp.order 4 refl));
      }

-- its lines, at most eight, come back from their places
taken : {A : Type 0} (n m : ℕ) (l : List A) → n ≤ m → take n (take m l) ≡ take n l
taken zero m l h = refl
taken (suc n) zero l h = absurd (omega arith)
taken (suc n) (suc m) [] h = refl
taken (suc n) (suc m) (x ∷ l) h = ap (λ r. x ∷ r) (taken n m l (omega arith))

lines_back : (ls : List Line) → length ls ≤ 8 → take (length ls) (eight ls) ≡ ls
unfolding eight
lines_back ls h = taken (length ls) 8 (ls ++ replicate 8 no_line) h ∙ take-append-le (length ls) ls (replicate 8 no_line) (omega arith) ∙ take-length ls

lines_length : (r : Bool) (w : Words) (l : List Tree) → length (lines_tree r w l) ≡ length l
unfolding lines_tree
lines_length r w [] = refl
lines_length r w (t ∷ l) = ap suc (lines_length r w l)

-- an order, and that it comes back
abbrev Whole : Tree → Ordinativo → Type 0
Whole t o = AnOrder t o × (ordinativo (in_places o) ≡ o)

order_whole : (p q z : Parent) (r : Bool) (w : Words) → Spelled p q z r w → (d : ℕ) (t : Tree) → Right (suc (suc d)) p (kids_in (held_of t)) → ordinativo (in_places (order_with r w (kids_in (held_of t)))) ≡ order_with r w (kids_in (held_of t))
order_whole p q z r w sp d t i =
    let l = children_named (joined "informazioni_" w.party ∷ []) (kids_in (held_of t)) in
    let b = row_length (suc d) p (kids_in (held_of t)) i 4 (joined "informazioni_" w.party) (Rows q) 1 8 (row_at p sp.order 4 refl) in
    let h = leb-true (length l) 8 (both (leb 1 (length l)) (leb (length l) 8) b).1 in
    let k : length (lines_tree r w l) ≤ 8 = omega (arith, lines_length r w l) in
    rw (lines_back (lines_tree r w l) k)

order_there : {o z : Parent} {q : Bool → Parent} {w : Words} → OrderWords o q z w → (d : ℕ) (t : Tree) → name_of t ≡ bytes w.name → Right (suc (suc (suc d))) (rows_in o (kids_in (held_of t))) (kids_in (held_of t))
    → OrderIn w t (order_tree w (kids_in (held_of t))) × (ordinativo (in_places (order_tree w (kids_in (held_of t)))) ≡ order_tree w (kids_in (held_of t)))
order_there {o} {z} {q} {w} ow d t n i =
    let r = replaces_in (kids_in (held_of t)) in
    (order_in (as_replacing o r) (q r) z r w (ow.spelled r) d t n refl i, order_whole (as_replacing o r) (q r) z r w (ow.spelled r) (suc d) t i)

each_map : {A : Type 0} {P Q : Tree → A → Type 0} → ((t : Tree) (a : A) → P t a → Q t a) → {ts : List Tree} {vs : List A} → Each P ts vs → Each Q ts vs
each_map f each_none = each_none
each_map f (each_next {t = t} {a = a} x xs) = each_next (f t a x) (each_map f xs)

all_whole : {ts : List Tree} {os : List Ordinativo} → Each Whole ts os → map ordinativo (all_in_places os) ≡ os
all_whole each_none = refl
all_whole (each_next x xs) = rw (x.1, all_whole xs)

-- the root's children in the row of orders
orders_each : (n d : ℕ) (ts : Trees) → all_trees (right (suc (suc (suc d)))) (pick order_names n ts) ≡ true → Each Whole (children_named ("mandato" ∷ "reversale" ∷ []) ts) (orders_tree ts)
unfolding children_named orders_tree pick all_trees
orders_each n d none a = each_none
orders_each n d (more t ts) a = go (text_is (bytes "mandato") (name_of t)) refl (text_is (bytes "reversale") (name_of t)) refl a (orders_each n d ts)
  where
    one : (p : Parent) → all_trees (right (suc (suc (suc d)))) (record { tree = t; row = n; holds = Rows p } ∷ pick order_names n ts) ≡ true → Right (suc (suc (suc d))) (rows_in p (kids_in (held_of t))) (kids_in (held_of t)) × (all_trees (right (suc (suc (suc d)))) (pick order_names n ts) ≡ true)
    one p e =
        let b = both (right (suc (suc (suc d))) (record { tree = t; row = n; holds = Rows p })) (all_trees (right (suc (suc (suc d)))) (pick order_names n ts)) e in
        let c = both (fits_tree (suc (suc (suc d))) (rows_in p (kids_in (held_of t))) (kids_in (held_of t))) (all_stand (fields_tree (suc (suc (suc d))) (rows_in p (kids_in (held_of t))) (kids_in (held_of t)))) b.0 in
        (record { fits = c.0; stands = c.1 }, b.1)

    go : (b : Bool) → text_is (bytes "mandato") (name_of t) ≡ b → (c : Bool) → text_is (bytes "reversale") (name_of t) ≡ c
        → all_trees (right (suc (suc (suc d)))) (keep_tree (cond b (Some (n, (Rows (Mandato false)))) (cond c (Some (n, (Rows (Reversale false)))) None)) t (pick order_names n ts)) ≡ true
        → (all_trees (right (suc (suc (suc d)))) (pick order_names n ts) ≡ true → Each Whole (children_named ("mandato" ∷ "reversale" ∷ []) ts) (orders_tree ts))
        → Each Whole (cond (b || (c || false)) (t ∷ children_named ("mandato" ∷ "reversale" ∷ []) ts) (children_named ("mandato" ∷ "reversale" ∷ []) ts))
        (cond b (order_tree mandato_words (kids_in (held_of t)) ∷ orders_tree ts) (cond c (order_tree reversale_words (kids_in (held_of t)) ∷ orders_tree ts) (orders_tree ts)))
    go true y c z e i =
        let k = one (Mandato false) e in
        let x = order_there mandato_words_lem d t (text_same (bytes "mandato") (name_of t) y) k.0 in
        each_next (inl x.0, x.1) (i k.1)
    go false y true z e i =
        let k = one (Reversale false) e in
        let x = order_there reversale_words_lem d t (text_same (bytes "reversale") (name_of t) z) k.0 in
        each_next (inr x.0, x.1) (i k.1)
    go false y false z e i = i e

pub orders_in : (e : Edition) (d : ℕ) (ts : Trees) → Right (suc (suc (suc (suc d)))) (root_of e) ts → OrdersIn ts (map ordinativo (all_in_places (orders_tree ts)))
orders_in e d ts r =
    let n = orders_row e in
    let z : pick order_names n ts ≡ in_row_trees n (kept_trees (root_of e) ts) = sym (row_picked (root_of e) n ts ∙ ap (λ ns. pick ns n ts) (order_names_lem e)) in
    let a = orders_each n d ts (rw z (all_row (right (suc (suc (suc d)))) n (kept_trees (root_of e) ts) (right_parts (suc (suc (suc d))) (root_of e) ts r).each)) in
    rw (all_whole a) (each_map (λ t o x. x.0) a)
