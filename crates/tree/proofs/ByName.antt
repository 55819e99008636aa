-- Structure and fields by name, by recursion over the tree (specs/), are those by row number and level (proofs/Levels.antt).
use Rattle.std.specs.Prelude.{Option, Some, None}
use mathlib.Core.Path.{◌≡◌, refl, sym, ap, subst, ◌∙◌}
use mathlib.Core.List.{List, [], ◌∷◌, ◌++◌}
use mathlib.Core.Bool.{Bool, true, false, cond, ◌&&◌, ◌||◌}
use Prim.Native.Nat.{ℕ, zero, suc, ◌<◌}
use native.Mathlib.Omega.{arith}
use lib.ListN.{length, drop}
use lib.Dec.{eqb, leb}
use borrow.Author.Tests.{leb-true, ne_eqb}
use Rattle.scan.specs.Bytes.{bytes, between, run, text_is}
use Rattle.scan.proofs.Laws.{both}
use Rattle.schema.specs.declared.Parent.{Parent}
use Rattle.schema.specs.declared.Parent.TheVariants.{FlussoOrdinativi, Mandato, Reversale, InformazioniBeneficiario, InformazioniVersante, SostituzioneMandato, SostituzioneReversale, Beneficiario, Versante, MessaggiEsito, TestataMessaggio, EsitoReversali, EsitoMandati, ErroriReversali, ErroriMandati, FlussoOpi, TestataFlusso}
use Rattle.schema.specs.declared.Holds.{Holds}
use Rattle.schema.specs.declared.Holds.TheVariants.{Text, Rows}
use Rattle.schema.specs.Table.{Named, ◌is◌, Row, table}
use Rattle.rows.specs.Replaces.{as_replacing}
use Rattle.structure.specs.Structure.{ranges, is_row, in_order, levels}
use Rattle.tree.specs.Tree.{tree, Held, says, holds, Trees, none, more, name_of, kids_in}
use Rattle.tree.specs.Structure.{Said, named, passed, said_by, said, keep_name, kept_names, has_name, front, in_rows, replaces_in, rows_in, tree_fits, held_fits, all_fit}
use Rattle.tree.specs.Fields.{tree_fields, held_fields, all_fields}
use Rattle.tree.proofs.Levels.{among_names, spot_named, KeptTree, keep_tree, kept_trees, rows_of_trees, all_trees, fits_held, kept_fits, fits_tree, fields_held, fields_of_trees, fields_tree}
use Rattle.tree.proofs.Names.{names_at, only_at, row_is, row_next, tables_apart}

-- WHAT THE ROWS SAY OF A NAME is said at its row
abbrev pub say_at : Option (ℕ × Holds) → Said
say_at (Some (n, h)) = named h
say_at None = passed

module _ (x : List ℕ) where
  said_names : (ns : List Named) (n : ℕ) (w : Said) (o : Option (ℕ × Holds)) → w ≡ say_at o → said_by ns x w ≡ say_at (among_names ns n x o)
  said_names [] n w o e = e
  said_names ((y is h) ∷ ns) n w o e = go (text_is (bytes y) x) (said_names ns n w o e)
    where
      go : (b : Bool) → said_by ns x w ≡ say_at (among_names ns n x o) → cond b (named h) (said_by ns x w) ≡ say_at (cond b (Some (n, h)) (among_names ns n x o))
      go true i = refl
      go false i = i

  pub said_rows : (rs : List Row) (n : ℕ) → said rs x ≡ say_at (spot_named rs n x)
  said_rows [] n = refl
  said_rows (r ∷ rs) n = said_names r.names n (said rs x) (spot_named rs (suc n) x) (said_rows rs (suc n))

-- THE NAMED CHILDREN, each with its name
abbrev names_of : List KeptTree → List (List ℕ)
names_of [] = []
names_of (k ∷ ks) = name_of k.tree ∷ names_of ks

data Found (p : Parent) : List KeptTree → Type 0 where
  found_none : Found p []
  found_next : {k : KeptTree} {ks : List KeptTree} → spot_named (table p) 0 (name_of k.tree) ≡ Some (k.row, k.holds) → Found p ks → Found p (k ∷ ks)

module _ (p : Parent) where
  names_kept : (ts : Trees) → (kept_names (table p) ts ≡ names_of (kept_trees p ts)) × Found p (kept_trees p ts)
  unfolding kept_names kept_trees
  names_kept none = (refl, found_none)
  names_kept (more t ts) = let i = names_kept ts in go (spot_named (table p) 0 (name_of t)) refl (said_rows (name_of t) (table p) 0) i.0 i.1
    where
      go : (w : Option (ℕ × Holds)) → spot_named (table p) 0 (name_of t) ≡ w → said (table p) (name_of t) ≡ say_at w → kept_names (table p) ts ≡ names_of (kept_trees p ts) → Found p (kept_trees p ts)
          → (keep_name (said (table p) (name_of t)) (name_of t) (kept_names (table p) ts) ≡ names_of (keep_tree w t (kept_trees p ts))) × Found p (keep_tree w t (kept_trees p ts))
      go (Some (n, h)) e z i f = (rw (z, i), found_next {k = record { tree = t; row = n; holds = h }} e f)
      go None e z i f = (rw (z, i), f)

  -- IN THIS ORDER: a kept child is in row n if it has one of the row's names
  abbrev is_at : Option (ℕ × Holds) → Bool
  is_at (Some (n, h)) = true
  is_at None = false

  among_has : (ns : List Named) (n : ℕ) (y : List ℕ) → is_at (among_names ns n y None) ≡ has_name ns y
  among_has [] n y = refl
  among_has ((x is g) ∷ ns) n y = go (text_is (bytes x) y) (among_has ns n y)
    where
      go : (b : Bool) → is_at (among_names ns n y None) ≡ has_name ns y → is_at (cond b (Some (n, g)) (among_names ns n y None)) ≡ (b || has_name ns y)
      go true i = refl
      go false i = i

  row_here : (n m : ℕ) (h : Holds) (y : List ℕ) → spot_named (table p) 0 y ≡ Some (m, h) → eqb m n ≡ has_name (names_at (table p) n) y
  row_here n m h y e =
      let z : only_at n (Some (m, h)) ≡ among_names (names_at (table p) n) n y None = rw e at (row_is n y (table p) n 0 (omega arith) (tables_apart p n)) in
      go (eqb m n) ∙ ap is_at z ∙ among_has (names_at (table p) n) n y
    where
      go : (b : Bool) → b ≡ is_at (cond b (Some (m, h)) None)
      go true = refl
      go false = refl

  front_run : (n : ℕ) (ns : List Named) → names_at (table p) n ≡ ns → (ks : List KeptTree) → Found p ks → run (is_row n) (rows_of_trees ks) ≡ front ns (names_of ks)
  unfolding run rows_of_trees front
  front_run n ns z [] f = refl
  front_run n ns z (k ∷ ks) (found_next e f) = rw (row_here n k.row k.holds (name_of k.tree) e, z, front_run n ns z ks f)

  drop_both : (m : ℕ) (ks : List KeptTree) → Found p ks → (drop m (rows_of_trees ks) ≡ rows_of_trees (drop m ks)) × (drop m (names_of ks) ≡ names_of (drop m ks)) × Found p (drop m ks)
  unfolding rows_of_trees
  drop_both zero ks f = (refl, refl, f)
  drop_both (suc m) [] f = (refl, refl, f)
  drop_both (suc m) (k ∷ ks) (found_next e f) = drop_both m ks f

  in_rows_lem : (rs : List Row) (n : ℕ) → drop n (table p) ≡ rs → (ks : List KeptTree) → Found p ks → in_order (ranges rs) n (rows_of_trees ks) ≡ in_rows rs (names_of ks)
  unfolding in_order in_rows rows_of_trees
  in_rows_lem [] n e [] f = refl
  in_rows_lem [] n e (k ∷ ks) f = sym (ne_eqb (suc (length (names_of ks))) 0 (λ z. omega arith))
  in_rows_lem (r ∷ rs) n e ks f =
      let x = row_next (table p) n r rs e in
      let m = front r.names (names_of ks) in
      let d = drop_both m ks f in
      rw (front_run n r.names x.0 ks f, d.0, d.1) (ap (λ b. between r.least r.most m && b) (in_rows_lem rs (suc n) x.1 (drop m ks) d.2))

  rows_named : (ts : Trees) → in_order (ranges (table p)) 0 (rows_of_trees (kept_trees p ts)) ≡ in_rows (table p) (kept_names (table p) ts)
  rows_named ts = let i = names_kept ts in rw i.0 (in_rows_lem (table p) 0 refl (kept_trees p ts) i.1)

-- RANKS: a parent's named children are of lower rank: a test that the tables pass by computing
abbrev pub rank : Parent → ℕ
rank FlussoOrdinativi = 3
rank (Mandato r) = 2
rank (Reversale r) = 2
rank (InformazioniBeneficiario r) = 1
rank (InformazioniVersante r) = 1
rank SostituzioneMandato = 0
rank SostituzioneReversale = 0
rank Beneficiario = 0
rank Versante = 0
rank MessaggiEsito = 2
rank TestataMessaggio = 0
rank EsitoReversali = 1
rank EsitoMandati = 1
rank ErroriReversali = 0
rank ErroriMandati = 0
rank FlussoOpi = 3
rank TestataFlusso = 0

abbrev below : ℕ → Said → Bool
below n (named (Text f)) = true
below n (named (Rows q)) = leb (suc (rank q)) n
below n passed = true

abbrev below_names : ℕ → List Named → Bool
below_names n [] = true
below_names n ((x is h) ∷ ns) = below n (named h) && below_names n ns

abbrev below_rows : ℕ → List Row → Bool
below_rows n [] = true
below_rows n (r ∷ rs) = below_names n r.names && below_rows n rs

module _ (n : ℕ) (x : List ℕ) where
  below_names_lem : (ns : List Named) (o : Said) → below_names n ns ≡ true → below n o ≡ true → below n (said_by ns x o) ≡ true
  below_names_lem [] o e f = f
  below_names_lem ((y is h) ∷ ns) o e f = let b = both (below n (named h)) (below_names n ns) e in go (text_is (bytes y) x) b.0 (below_names_lem ns o b.1 f)
    where
      go : (b : Bool) → below n (named h) ≡ true → below n (said_by ns x o) ≡ true → below n (cond b (named h) (said_by ns x o)) ≡ true
      go true i j = i
      go false i j = j

  below_rows_lem : (rs : List Row) → below_rows n rs ≡ true → below n (said rs x) ≡ true
  below_rows_lem [] e = refl
  below_rows_lem (r ∷ rs) e = let b = both (below_names n r.names) (below_rows n rs) e in below_names_lem r.names (said rs x) b.0 (below_rows_lem rs b.1)

ranked : (p : Parent) → below_rows (rank p) (table p) ≡ true
ranked FlussoOrdinativi = refl
ranked (Mandato r) = refl
ranked (Reversale r) = refl
ranked (InformazioniBeneficiario true) = refl
ranked (InformazioniBeneficiario false) = refl
ranked (InformazioniVersante true) = refl
ranked (InformazioniVersante false) = refl
ranked SostituzioneMandato = refl
ranked SostituzioneReversale = refl
ranked Beneficiario = refl
ranked Versante = refl
ranked MessaggiEsito = refl
ranked TestataMessaggio = refl
ranked EsitoReversali = refl
ranked EsitoMandati = refl
ranked ErroriReversali = refl
ranked ErroriMandati = refl
ranked FlussoOpi = refl
ranked TestataFlusso = refl

-- no parent is deeper than the levels that are looked at
pub rank_levels : (p : Parent) → rank p < levels
rank_levels FlussoOrdinativi = omega arith
rank_levels (Mandato r) = omega arith
rank_levels (Reversale r) = omega arith
rank_levels (InformazioniBeneficiario r) = omega arith
rank_levels (InformazioniVersante r) = omega arith
rank_levels SostituzioneMandato = omega arith
rank_levels SostituzioneReversale = omega arith
rank_levels Beneficiario = omega arith
rank_levels Versante = omega arith
rank_levels MessaggiEsito = omega arith
rank_levels TestataMessaggio = omega arith
rank_levels EsitoReversali = omega arith
rank_levels EsitoMandati = omega arith
rank_levels ErroriReversali = omega arith
rank_levels ErroriMandati = omega arith
rank_levels FlussoOpi = omega arith
rank_levels TestataFlusso = omega arith

rank_said : (p q : Parent) (x : List ℕ) → said (table p) x ≡ named (Rows q) → rank q < rank p
rank_said p q x e = let b = below_rows_lem (rank p) x (table p) (ranked p) in leb-true (suc (rank q)) (rank p) (rw e at b)

-- what is told of an order is neither of its rank, nor of how many elements its rows take
told_rank : (p : Parent) (b : Bool) → rank (as_replacing p b) ≡ rank p
told_rank FlussoOrdinativi b = refl
told_rank (Mandato r) b = refl
told_rank (Reversale r) b = refl
told_rank (InformazioniBeneficiario r) b = refl
told_rank (InformazioniVersante r) b = refl
told_rank SostituzioneMandato b = refl
told_rank SostituzioneReversale b = refl
told_rank Beneficiario b = refl
told_rank Versante b = refl
told_rank MessaggiEsito b = refl
told_rank TestataMessaggio b = refl
told_rank EsitoReversali b = refl
told_rank EsitoMandati b = refl
told_rank ErroriReversali b = refl
told_rank ErroriMandati b = refl
told_rank FlussoOpi b = refl
told_rank TestataFlusso b = refl

told_none : (p : Parent) (b : Bool) → in_rows (table (as_replacing p b)) [] ≡ in_rows (table p) []
unfolding in_rows front
told_none FlussoOrdinativi b = refl
told_none (Mandato r) b = refl
told_none (Reversale r) b = refl
told_none (InformazioniBeneficiario r) b = refl
told_none (InformazioniVersante r) b = refl
told_none SostituzioneMandato b = refl
told_none SostituzioneReversale b = refl
told_none Beneficiario b = refl
told_none Versante b = refl
told_none MessaggiEsito b = refl
told_none TestataMessaggio b = refl
told_none EsitoReversali b = refl
told_none EsitoMandati b = refl
told_none ErroriReversali b = refl
told_none ErroriMandati b = refl
told_none FlussoOpi b = refl
told_none TestataFlusso b = refl

-- a parent whose rows no operation changes
abbrev pub Fixed : Parent → Type 0
Fixed p = (b : Bool) → as_replacing p b ≡ p

-- THE STRUCTURE
and_true : (b : Bool) → (b && true) ≡ b
and_true true = refl
and_true false = refl

none_fit : (q : Parent) → (in_rows (table q) (kept_names (table q) none) && all_fit none q) ≡ in_rows (table q) []
unfolding kept_names all_fit
none_fit q = and_true (in_rows (table q) [])

pass_fits : (h : Held) → held_fits h passed ≡ true
unfolding held_fits
pass_fits (says t) = refl
pass_fits (holds ts) = refl

lower : {d : ℕ} (q : Parent) (ts : Trees) → rank q < d → rank (rows_in q ts) < d
lower q ts h = rw (told_rank q (replaces_in ts)) h

abbrev Level : ℕ → Type 0
Level d = (q : Parent) → rank q < d → (ts : Trees) → fits_tree d q ts ≡ (in_rows (table q) (kept_names (table q) ts) && all_fit ts q)

module _ (d : ℕ) (ih : Level d) where
  held_fits_lem : (g : Holds) (h : Held) → ((q : Parent) → g ≡ Rows q → rank q < d) → fits_held (fits_tree d) g h ≡ held_fits h (named g)
  unfolding held_fits
  held_fits_lem (Text f) (says t) r = refl
  held_fits_lem (Text f) (holds ts) r = refl
  held_fits_lem (Rows q) (says t) r = ih (rows_in q none) (lower q none (r q refl)) none ∙ none_fit (rows_in q none) ∙ told_none q (replaces_in none)
  held_fits_lem (Rows q) (holds ts) r = ih (rows_in q ts) (lower q ts (r q refl)) ts

  all_fit_lem : (p : Parent) → rank p < suc d → (ts : Trees) → all_trees (kept_fits (fits_tree d)) (kept_trees p ts) ≡ all_fit ts p
  unfolding all_trees kept_trees all_fit tree_fits
  all_fit_lem p r none = refl
  all_fit_lem p r (more (tree l n h) ts) = go (spot_named (table p) 0 n) (said_rows n (table p) 0) (all_fit_lem p r ts)
    where
      go : (w : Option (ℕ × Holds)) → said (table p) n ≡ say_at w → all_trees (kept_fits (fits_tree d)) (kept_trees p ts) ≡ all_fit ts p
          → all_trees (kept_fits (fits_tree d)) (keep_tree w (tree l n h) (kept_trees p ts)) ≡ (held_fits h (said (table p) n) && all_fit ts p)
      go (Some (m, g)) e i = rw (e, i, held_fits_lem g h (λ q z. let y = rank_said p q n (rw z at e) in omega arith))
      go None e i = rw (e, i, pass_fits h)

one_level : (d : ℕ) → Level d → Level (suc d)
unfolding fits_tree
one_level d ih p r ts = rw (rows_named p ts, all_fit_lem d ih p r ts)

pub fits_named : (d : ℕ) → Level d
fits_named zero q r ts = absurd (omega arith)
fits_named (suc d) q r ts = one_level d (fits_named d) q r ts

-- what an element holds, by name, where its parent is of rank below d
pub held_named : (d : ℕ) (p : Parent) → Fixed p → rank p < d → (h : Held) → fits_tree d p (kids_in h) ≡ held_fits h (named (Rows p))
unfolding held_fits
held_named d p f r (says t) = fits_named d p r none ∙ none_fit p
held_named d p f r (holds ts) = rw (f (replaces_in ts)) (fits_named d p r ts)

-- THE FIELDS, where the structure stands
no_fields : (d : ℕ) (p : Parent) → fields_tree d p none ≡ []
unfolding fields_tree kept_trees fields_of_trees
no_fields zero p = refl
no_fields (suc d) p = refl

pass_fields : (l : ℕ) (h : Held) → held_fields h l passed ≡ []
unfolding held_fields
pass_fields l (says t) = refl
pass_fields l (holds ts) = refl

abbrev FieldLevel : ℕ → Type 0
FieldLevel d = (q : Parent) → rank q < d → (ts : Trees) → all_fit ts q ≡ true → fields_tree d q ts ≡ all_fields ts q

module _ (d : ℕ) (ih : FieldLevel d) where
  held_fields_lem : (l : ℕ) (n : List ℕ) (g : Holds) (h : Held) → ((q : Parent) → g ≡ Rows q → rank q < d) → held_fits h (named g) ≡ true → fields_held (fields_tree d) (tree l n h) g ≡ held_fields h l (named g)
  unfolding held_fits held_fields
  held_fields_lem l n (Text f) (says t) r e = refl
  held_fields_lem l n (Text f) (holds ts) r e = let z : ◌≡◌ {A = ℕ} 0 1 = cc in absurd (omega arith)
  held_fields_lem l n (Rows q) (says t) r e = no_fields d (rows_in q none)
  held_fields_lem l n (Rows q) (holds ts) r e =
      let p = rows_in q ts in
      ih p (lower q ts (r q refl)) ts (both (in_rows (table p) (kept_names (table p) ts)) (all_fit ts p) e).1

  all_fields_lem : (p : Parent) → rank p < suc d → (ts : Trees) → all_fit ts p ≡ true → fields_of_trees (fields_tree d) (kept_trees p ts) ≡ all_fields ts p
  unfolding fields_of_trees kept_trees all_fit tree_fits all_fields tree_fields
  all_fields_lem p r none e = refl
  all_fields_lem p r (more (tree l n h) ts) e =
      let b = both (held_fits h (said (table p) n)) (all_fit ts p) e in
      go (spot_named (table p) 0 n) (said_rows n (table p) 0) b.0 (all_fields_lem p r ts b.1)
    where
      go : (w : Option (ℕ × Holds)) → said (table p) n ≡ say_at w → held_fits h (said (table p) n) ≡ true → fields_of_trees (fields_tree d) (kept_trees p ts) ≡ all_fields ts p
          → fields_of_trees (fields_tree d) (keep_tree w (tree l n h) (kept_trees p ts)) ≡ held_fields h l (said (table p) n) ++ all_fields ts p
      go (Some (m, g)) z f i = rw (z, i, held_fields_lem l n g h (λ q y. let x = rank_said p q n (rw y at z) in omega arith) (rw z at f))
      go None z f i = rw (z, i, pass_fields l h)

field_level : (d : ℕ) → FieldLevel d → FieldLevel (suc d)
unfolding fields_tree
field_level d ih p r ts e = all_fields_lem d ih p r ts e

fields_named : (d : ℕ) → FieldLevel d
fields_named zero q r ts e = absurd (omega arith)
fields_named (suc d) q r ts e = field_level d (fields_named d) q r ts e

pub held_fields_named : (d : ℕ) (p : Parent) → Fixed p → rank p < d → (l : ℕ) (h : Held) → held_fits h (named (Rows p)) ≡ true → fields_tree d p (kids_in h) ≡ held_fields h l (named (Rows p))
unfolding held_fits held_fields
held_fields_named d p f r l (says t) e = no_fields d p
held_fields_named d p f r l (holds ts) e =
    let b = both (in_rows (table (rows_in p ts)) (kept_names (table (rows_in p ts)) ts)) (all_fit ts (rows_in p ts)) e in
    fields_named d p r ts (subst (λ (q : Parent). all_fit ts q ≡ true) (f (replaces_in ts)) b.1) ∙ ap (all_fields ts) (sym (f (replaces_in ts)))
