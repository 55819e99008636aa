-- What the structure and the fields say of the children of a name: the other way round than Laid (crates/tree).
use Rattle.std.specs.Prelude.{Some}
use mathlib.Core.Path.{◌≡◌, refl, sym, ap, ◌∙◌, subst}
use mathlib.Core.Logic.{◌⊎◌, inl, inr}
use mathlib.Core.List.{List, [], ◌∷◌}
use mathlib.Core.Bool.{Bool, true, false, cond, ◌&&◌, ◌||◌}
use Prim.Native.Nat.{ℕ, suc}
use Prim.Native.String.{String}
use native.Mathlib.Omega.{arith}
use lib.ListN.{length}
use lib.Dec.{leb}
use Rattle.scan.specs.Bytes.{bytes, between, text_is}
use Rattle.scan.proofs.Laws.{both}
use Rattle.fields.specs.declared.Form.{Form}
use Rattle.fields.specs.declared.Judged.{Judged}
use Rattle.fields.specs.declared.Judged.TheVariants as judged
use Rattle.fields.specs.Fields.{field_stands}
use Rattle.schema.specs.declared.Parent.{Parent}
use Rattle.tree.specs.Structure.{replaces_in, rows_in}
use Rattle.tree.proofs.ByName.{Fixed}
use Rattle.schema.specs.declared.Holds.{Holds}
use Rattle.schema.specs.declared.Holds.TheVariants.{Text as TextOf, Rows}
use Rattle.schema.specs.Table.{◌is◌, table, many}
use Rattle.tree.specs.Tree.{Tree, tree, Trees, name_of, held_of, kids_in}
use Rattle.tree.specs.Orders.{children_named, held_text, first_text, text_named}
use Rattle.tree.specs.Written.{Good, good, good_text, good_trees, GoodTrees, good_last, good_next}
use Rattle.tree.proofs.Levels.{spot_named, KeptTree, all_trees, fits_tree, fields_tree}
use Rattle.tree.proofs.Names.{HasRow, as_kept}
use Rattle.tree.proofs.Stand.{stand, all_stand, Right}
use Rattle.tree.proofs.Values.{right, row_length, row_right}
use Rattle.message.specs.Message.{TextOk, Every, every_none, every_next}
use Rattle.message.specs.Read.{first_kids, kids_named}

pub no : {A : Type 0} → ◌≡◌ {A = Bool} false true → A
no e = let z : ◌≡◌ {A = ℕ} 0 1 = cc in absurd (omega arith)

-- row n of the table of p has the one name x
pub record RowAt (p : Parent) (n lo hi : ℕ) (x : String) (g : Holds) : Type 0 where
  pub row : HasRow p n (many lo hi ((x is g) ∷ []))
  pub spot : spot_named (table p) 0 (bytes x) ≡ Some (n, g)

-- GOOD: the children of every name are
abbrev pub Goods : ℕ → Trees → Type 0
Goods e ts = (x : String) → Every (Good e) (children_named (x ∷ []) ts)

goods : {e : ℕ} {ts : Trees} → GoodTrees e ts → Goods e ts
unfolding children_named
goods {e} (good_last {t = t} g) x = go (text_is (bytes x) (name_of t))
  where
    go : (b : Bool) → Every (Good e) (cond (b || false) (t ∷ []) [])
    go true = every_next g every_none
    go false = every_none
goods {e} (good_next {t = t} {ts = ts} g gs) x = go (text_is (bytes x) (name_of t)) (goods gs x)
  where
    go : (b : Bool) → Every (Good e) (children_named (x ∷ []) ts) → Every (Good e) (cond (b || false) (t ∷ children_named (x ∷ []) ts) (children_named (x ∷ []) ts))
    go true i = every_next g i
    go false i = i

pub good_kids : {e : ℕ} {t : Tree} → Good (suc e) t → Goods e (kids_in (held_of t))
unfolding children_named
good_kids (good na (good_text te)) x = every_none
good_kids (good na (good_trees gs)) x = goods gs x

-- elements of the structure of p, whose fields stand, and that could be written
pub record Sound (e d : ℕ) (p : Parent) (ts : Trees) : Type 0 where
  pub right : Right d p ts
  pub goods : Goods e ts

-- EACH OF A ROW
kept_each : (f : KeptTree → Bool) (n : ℕ) (g : Holds) (l : List Tree) → all_trees f (as_kept n g l) ≡ true → Every (λ (t : Tree). f (record { tree = t; row = n; holds = g }) ≡ true) l
unfolding all_trees
kept_each f n g [] e = every_none
kept_each f n g (t ∷ l) e = let b = both (f (record { tree = t; row = n; holds = g })) (all_trees f (as_kept n g l)) e in every_next b.0 (kept_each f n g l b.1)

-- A TEXT
stand_is : (w : Judged) → (stand w && true) ≡ true → w ≡ judged.Stands
stand_is judged.Stands e = refl
stand_is judged.Breaks e = no e

right_text : {e : ℕ} (d n : ℕ) (f : Form) (t : Tree) → right d (record { tree = t; row = n; holds = TextOf f }) ≡ true → Good e t → TextOk f (held_text (held_of t))
unfolding all_stand
right_text d n f (tree p m h) a (good na (good_text {t = t} te)) = record { form = stand_is (field_stands f t) (both true (stand (field_stands f t) && true) a).1; text = te }
right_text d n f (tree p m h) a (good na (good_trees gs)) = no a

-- THE CHILDREN OF A ROW
module _ {e d : ℕ} {p : Parent} {ts : Trees} (s : Sound e (suc d) p ts) {n lo hi : ℕ} {x : String} where
  module _ {g : Holds} (at : RowAt p n lo hi x g) where
    pub row_count : between lo hi (length (children_named (x ∷ []) ts)) ≡ true
    row_count = row_length d p ts s.right n x g lo hi at.row

    row_each : Every (λ (t : Tree). right d (record { tree = t; row = n; holds = g }) ≡ true) (children_named (x ∷ []) ts)
    row_each = kept_each (right d) n g (children_named (x ∷ []) ts) (row_right d p ts s.right n x g lo hi at.row)

    -- a row that holds at least one
    pub row_some : {A : Type 0} → leb lo 0 ≡ false → children_named (x ∷ []) ts ≡ [] → A
    row_some o z = let c = (both (leb lo (length (children_named (x ∷ []) ts))) (leb (length (children_named (x ∷ []) ts)) hi) row_count).0 in no (sym o ∙ ap (leb lo) (ap length (sym z)) ∙ c)

  module _ {f : Form} (at : RowAt p n lo hi x (TextOf f)) where
    first_ok : (l : List Tree) → Every (λ (t : Tree). right d (record { tree = t; row = n; holds = TextOf f }) ≡ true) l → Every (Good e) l → (l ≡ []) ⊎ TextOk f (first_text l)
    first_ok [] a c = inl refl
    first_ok (t ∷ l) (every_next a as') (every_next c cs) = inr (right_text d n f t a c)

    found : (children_named (x ∷ []) ts ≡ []) ⊎ TextOk f (text_named x ts)
    found = first_ok (children_named (x ∷ []) ts) (row_each at) (s.goods x)

    pub text_maybe : (text_named x ts ≡ []) ⊎ TextOk f (text_named x ts)
    text_maybe = go found
      where
        go : (children_named (x ∷ []) ts ≡ []) ⊎ TextOk f (text_named x ts) → (text_named x ts ≡ []) ⊎ TextOk f (text_named x ts)
        go (inl z) = inl (ap first_text z)
        go (inr k) = inr k

    pub text_there : leb lo 0 ≡ false → TextOk f (text_named x ts)
    text_there o = go found
      where
        go : (children_named (x ∷ []) ts ≡ []) ⊎ TextOk f (text_named x ts) → TextOk f (text_named x ts)
        go (inl z) = row_some at o z
        go (inr k) = k

-- ELEMENTS that hold elements
module _ {e d : ℕ} {p : Parent} {ts : Trees} (s : Sound (suc e) (suc d) p ts) {n lo hi : ℕ} {x : String} {q : Parent} (at : RowAt p n lo hi x (Rows q)) (fixed : Fixed q) where
  each_sound : (l : List Tree) → Every (λ (t : Tree). right d (record { tree = t; row = n; holds = Rows q }) ≡ true) l → Every (Good (suc e)) l → Every (λ (t : Tree). Sound e d q (kids_in (held_of t))) l
  each_sound [] a c = every_none
  each_sound (t ∷ l) (every_next a as') (every_next c cs) =
      let ks = kids_in (held_of t) in
      let f = fixed (replaces_in ks) in
      let b = both (fits_tree d (rows_in q ks) ks) (all_stand (fields_tree d (rows_in q ks) ks)) a in
      every_next (record { right = record { fits = subst (λ (r : Parent). fits_tree d r ks ≡ true) f b.0; stands = subst (λ (r : Parent). all_stand (fields_tree d r ks) ≡ true) f b.1 }; goods = good_kids c }) (each_sound l as' cs)

  pub rows_sound : Every (λ (t : Tree). Sound e d q (kids_in (held_of t))) (children_named (x ∷ []) ts)
  rows_sound = each_sound (children_named (x ∷ []) ts) (row_each s at) (s.goods x)

  pub row_sound : leb lo 0 ≡ false → Sound e d q (kids_named x ts)
  row_sound o = go (children_named (x ∷ []) ts) rows_sound (row_some s at o)
    where
      go : (l : List Tree) → Every (λ (t : Tree). Sound e d q (kids_in (held_of t))) l → (l ≡ [] → ⊥) → Sound e d q (first_kids l)
      go [] a c = absurd (c refl)
      go (t ∷ l) (every_next a as') c = a
