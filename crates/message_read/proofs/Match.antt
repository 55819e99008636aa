-- The children of a row are the trees of a name: what positions say of them, the tree says.
use Rattle.std.specs.Prelude.{Some}
use mathlib.Core.Path.{◌≡◌, refl, sym, ap, ◌∙◌}
use mathlib.Core.List.{List, [], ◌∷◌}
use mathlib.Core.Bool.{Bool, true}
use Prim.Native.Nat.{ℕ, suc, ◌+◌, ◌-◌}
use Prim.Native.String.{String}
use native.Mathlib.Omega.{arith}
use lib.ListN.{length, length-append}
use Rattle.scan.specs.Bytes.{bytes, part}
use Rattle.tokens.specs.Tokens.{white_at}
use Rattle.grammar.specs.Grammar.{start_tag}
use Rattle.grammar.proofs.Parts.{part_length}
use Rattle.fields.specs.declared.Form.{Form}
use Rattle.children.specs.declared.Child.{Child}
use Rattle.children.specs.Child.{children_from}
use Rattle.children.proofs.Laws.{Lies}
use Rattle.schema.specs.declared.Parent.{Parent}
use Rattle.schema.specs.declared.Holds.{Holds}
use Rattle.schema.specs.declared.Holds.TheVariants.{Text}
use Rattle.rows.specs.declared.Kept.{Kept}
use Rattle.schema.specs.Table.{◌is◌, many}
use Rattle.rows.specs.Kept.{kept_from, next_of}
use Rattle.structure.specs.Structure.{text_only}
use Rattle.orders.specs.Orders.{in_row, text_in}
use Rattle.tree.specs.Tree.{Tree, Trees, lt_of, name_of, held_of}
use Rattle.tree.specs.Orders.{children_named, held_text, text_named}
use Rattle.tree.proofs.Positions.{tree_at, trees_from}
use Rattle.tree.proofs.Levels.{kept_trees, all_trees, is_text, fits_held, kept_fits}
use Rattle.tree.proofs.Names.{HasRow, has_names, as_kept}
use Rattle.tree.proofs.Book.{as_tree, as_trees, text_held, text_only_held}
use Rattle.tree.proofs.Orders.{row_name, row_fits, same_one, never, cons_one, all_one, text_at}
use Rattle.parts.proofs.Laws.{row_at}
use Rattle.parts.specs.Parts.{span_of_next, span_in}
use Rattle.message.specs.Read.{first_place, place_named}
use Rattle.message_values.specs.Values.{span_bytes}
use Rattle.message_read.specs.Values.{text_place, shown, shown_named}

-- ONE AFTER THE OTHER: each child is its tree, which holds what the row says
pub data Pairs (f : Child → Tree) (deeper : Parent → Trees → Bool) (g : Holds) : List Kept → List Tree → Type 0 where
  pairs_none : Pairs f deeper g [] []
  pairs_next : {k : Kept} {t : Tree} {ks : List Kept} {l : List Tree} → f k.child ≡ t → fits_held deeper g (held_of t) ≡ true → Pairs f deeper g ks l → Pairs f deeper g (k ∷ ks) (t ∷ l)

pairs_of : (f : Child → Tree) (deeper : Parent → Trees → Bool) (n : ℕ) (g : Holds) (ks : List Kept) (l : List Tree) → as_trees f ks ≡ as_kept n g l → all_trees (kept_fits deeper) (as_trees f ks) ≡ true → Pairs f deeper g ks l
pairs_of f deeper n g [] [] e a = pairs_none
pairs_of f deeper n g [] (t ∷ l) e a = never e
pairs_of f deeper n g (k ∷ ks) [] e a = never (sym e)
pairs_of f deeper n g (k ∷ ks) (t ∷ l) e a =
    let b = all_one (kept_fits deeper) (as_tree f k) (as_trees f ks) a in
    let w = same_one f deeper k t n g (cons_one e).0 b.0 in
    pairs_next w.it w.fits (pairs_of f deeper n g ks l (cons_one e).1 b.1)

pub pairs_length : {f : Child → Tree} {deeper : Parent → Trees → Bool} {g : Holds} {ks : List Kept} {l : List Tree} → Pairs f deeper g ks l → length ks ≡ length l
pairs_length pairs_none = refl
pairs_length (pairs_next e h ps) = ap suc (pairs_length ps)

-- A CHILD'S TREE: its place, its text, where its text begins
module _ (m : ℕ) (s : List ℕ) (c : Child) where
  lt_of_lem : lt_of (tree_at (suc m) s c) ≡ c.lt
  unfolding tree_at
  lt_of_lem = refl

  name_of_lem : name_of (tree_at (suc m) s c) ≡ part s (c.lt + 1) c.gt
  unfolding tree_at
  name_of_lem = refl

  text_of : is_text (held_of (tree_at (suc m) s c)) ≡ true → part s (c.gt + 1) c.to ≡ held_text (held_of (tree_at (suc m) s c))
  unfolding tree_at text_only
  text_of e =
      let z = text_held (tree_at m s) (children_from s (white_at s (c.gt + 1))) (part s (c.gt + 1) c.to) in
      sym (text_only_held (tree_at m s) s (c.gt + 1) c.to (sym z ∙ e))

begins : (m : ℕ) (s : List ℕ) (c : Child) (i : ℕ) → Lies s i c → text_place (tree_at (suc m) s c) ≡ c.gt + 1
begins m s c i l =
    let t = tree_at (suc m) s c in
    let n = name_of_lem m s c in
    let a = l.name in
    let b = l.inner in
    let d = l.ends in
    let w = l.within in
    let k : length (name_of t) ≡ c.gt - (c.lt + 1) = rw n (part_length s (c.lt + 1) c.gt (omega arith)) in
    let j = length-append (name_of t) (bytes ">") in
    let q : length (start_tag (name_of t)) ≡ length (name_of t) + 2 = omega arith in
    let p = lt_of_lem m s c in
    omega arith

-- THE CHILDREN OF A ROW
module _ (m : ℕ) (s : List ℕ) (deeper : Parent → Trees → Bool) (p : Parent) (i : ℕ) (a : all_trees (kept_fits deeper) (kept_trees p (trees_from (suc m) s i)) ≡ true) (n : ℕ) (x : String) where
  module _ (g : Holds) {least most : ℕ} (h : HasRow p n (many least most ((x is g) ∷ []))) where
    pub row_pairs : Pairs (tree_at (suc m) s) deeper g (in_row n (kept_from p s i)) (children_named (x ∷ []) (trees_from (suc m) s i))
    row_pairs =
        pairs_of (tree_at (suc m) s) deeper n g (in_row n (kept_from p s i)) (children_named (x ∷ []) (trees_from (suc m) s i)) (row_name (suc m) p s i n x g (has_names p n (many least most ((x is g) ∷ [])) h))
        (row_fits (suc m) p s i n (kept_fits deeper) a)

    pub place_is : (span_in n (kept_from p s i)).lt ≡ place_named x (trees_from (suc m) s i)
    place_is = go (in_row n (kept_from p s i)) (children_named (x ∷ []) (trees_from (suc m) s i)) row_pairs
      where
        go : (ks : List Kept) (l : List Tree) → Pairs (tree_at (suc m) s) deeper g ks l → (span_of_next (next_of ks)).lt ≡ first_place l
        go ks l pairs_none = refl
        go ks l (pairs_next {k = k} {t = t} e f ps) = sym (lt_of_lem m s k.child) ∙ ap lt_of e

  module _ (f : Form) {least most : ℕ} (h : HasRow p n (many least most ((x is Text f) ∷ []))) where
    pub text_is_lem : text_in n s (kept_from p s i) ≡ text_named x (trees_from (suc m) s i)
    text_is_lem = text_at m s deeper p i n x f h a

    pub shown_is : span_bytes (span_in n (kept_from p s i)) ≡ shown_named x (trees_from (suc m) s i)
    shown_is = go (in_row n (kept_from p s i)) (children_named (x ∷ []) (trees_from (suc m) s i)) (row_pairs (Text f) h) (λ k e. (row_at n p s i k e).lies)
      where
        go : (ks : List Kept) (l : List Tree) → Pairs (tree_at (suc m) s) deeper (Text f) ks l → ((k : Kept) → next_of ks ≡ Some k → Lies s i k.child) → span_bytes (span_of_next (next_of ks)) ≡ shown l
        go ks l pairs_none lies = refl
        go ks l (pairs_next {k = k} {t = t} e fits ps) lies =
            let c = k.child in
            let w = lies k refl in
            let u : is_text (held_of (tree_at (suc m) s c)) ≡ true = rw e fits in
            let v : part s (c.gt + 1) c.to ≡ held_text (held_of t) = text_of m s c u ∙ ap (λ (y : Tree). held_text (held_of y)) e in
            let y : c.to - (c.gt + 1) ≡ length (held_text (held_of t)) = sym (part_length s (c.gt + 1) c.to (omega (arith, w.ends, w.within))) ∙ ap length v in
            let z : c.gt + 1 ≡ text_place t = sym (begins m s c i w) ∙ ap text_place e in
            rw (y, z)
