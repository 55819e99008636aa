-- THE THEOREM of a name's count (specs/Names.antt): a text that the grammar derives has as many characters as pieces, and every field of a flow has
-- such a text.
use mathlib.Core.Path.{◌≡◌, refl, ap, ◌∙◌}
use mathlib.Core.Logic.{◌↔◌}
use mathlib.Core.List.{List, ◌++◌}
use mathlib.Core.Bool.{Bool, true, false}
use Prim.Native.Nat.{ℕ, zero, suc, ◌≤◌}
use native.Mathlib.Nat.{zero-add}
use native.Mathlib.Omega.{arith}
use lib.ListN.{length}
use lib.Seq.{drop-append_seam}
use borrow.Author.Tests.{le-leb}
use Rattle.scan.specs.Bytes.{bytes, starts_with, has_at}
use Rattle.scan.specs.References.{which_at, ref_at}
use Rattle.scan.proofs.Laws.{in_range, char_past}
use Rattle.grammar.specs.Grammar.{Character, Piece, char, amp, lt, gt, quot, apos, Pieces, none, more, Text, text}
use Rattle.grammar.proofs.Parts.{starts_whole}
use Rattle.grammar.proofs.Complete.{char_is, char_alone}
use Rattle.names.specs.Names.{references_replaced, characters, anagrafica}
use Rattle.names.specs.Inner.{OnePast}
use Rattle.names.proofs.Laws.{none_left, past_char, past_ref_lem}
use Rattle.fields.specs.declared.Form.TheVariants.{Anagrafica}
use Rattle.fields.specs.declared.Judged.TheVariants.{Stands}
use Rattle.fields.specs.Fields.{judged, field_stands}
use Rattle.schema.specs.declared.Parent.{Parent}
use Rattle.schema.specs.declared.Holds.TheVariants as holds
use Rattle.standing.specs.Readings.{Field}
use Rattle.tree.specs.Tree.{Tree, Held, Trees, ReadsAs}
use Rattle.tree.specs.Structure.{Said, named, passed, rows_in}
use Rattle.tree.specs.Fields.{tree_fields, held_fields, all_fields}
use Rattle.tree.specs.Flow.{fields_of}
use Rattle.tree.specs.Written.{Good, good, GoodHeld, good_text, good_trees, GoodTrees, good_last, good_next}
use Rattle.tree.specs.Names.{pieces_in, pieces, Counted, AllCounted, counted_none, counted_next}
use Rattle.tree.proofs.Written.{no_good, flow_good}

-- ONE PIECE at the front of a text counts as one
module _ (t : List ℕ) where
  char_one : {c : List ℕ} → Character c → (c ≡ bytes "&" → ⊥) → OnePast (c ++ t) 0 (length c)
  unfolding has_at
  char_one {c} x n =
      let e : has_at c (c ++ t) 0 ≡ true = starts_whole c t in
      let q = rw zero-add at (char_is (c ++ t) 0 x e) in
      let g = char_past (c ++ t) 0 (length c) q in
      past_char (c ++ t) 0 (omega arith) (λ z. n (rw z at (char_alone (c ++ t) 0 x e (omega arith)))) (length c) q

  piece_one : {c : List ℕ} → Piece c → OnePast (c ++ t) 0 (length c)
  unfolding ref_at which_at has_at starts_with
  piece_one (char x f n) = char_one x n
  piece_one amp = past_ref_lem (bytes "&amp;" ++ t) 0 (omega arith) 5 refl
  piece_one lt = past_ref_lem (bytes "&lt;" ++ t) 0 (omega arith) 4 refl
  piece_one gt = past_ref_lem (bytes "&gt;" ++ t) 0 (omega arith) 4 refl
  piece_one quot = past_ref_lem (bytes "&quot;" ++ t) 0 (omega arith) 6 refl
  piece_one apos = past_ref_lem (bytes "&apos;" ++ t) 0 (omega arith) 6 refl

count : {t : List ℕ} (x : Pieces t) → characters (references_replaced t) ≡ pieces_in x
unfolding pieces_in
count none = none_left 0
count (more {p = c} {t = t} x xs) = rw (drop-append_seam c t) at (piece_one t x).counted ∙ ap suc (count xs)

-- a name stands exactly when it has 1 to 140
stands_between : (t : List ℕ) → (field_stands Anagrafica t ≡ Stands) ↔ ((1 ≤ characters (references_replaced t)) × (characters (references_replaced t) ≤ 140))
unfolding field_stands anagrafica
stands_between t = (λ e. in_range 1 140 _ (held _ e), λ h. rw (le-leb 1 _ h.0, le-leb _ 140 h.1))
  where
    held : (b : Bool) → judged b ≡ Stands → b ≡ true
    held true e = refl
    held false e = let z : ◌≡◌ {A = ℕ} 0 1 = cc in absurd (omega arith)

-- OF A TEXT
pub text_counted : {t : List ℕ} (x : Text t) → Counted x
unfolding pieces
text_counted {t} (text xs w) = record { counted = count xs; stands = rw (count xs) at (stands_between t) }

-- OF A FLOW: its tree can be written, so each of its texts is derived
counted_append : {fs gs : List Field} → AllCounted fs → AllCounted gs → AllCounted (fs ++ gs)
counted_append counted_none b = b
counted_append (counted_next x c a) b = counted_next x c (counted_append a b)

module _ (d : ℕ) (ih : (t : Tree) → Good d t → (q : Parent) → AllCounted (tree_fields t q)) where
  trees_counted : (ts : Trees) → GoodTrees d ts → (q : Parent) → AllCounted (all_fields ts q)
  unfolding all_fields
  trees_counted ts (good_last {t = t} g) q = counted_append (ih t g q) counted_none
  trees_counted ts (good_next {t = t} {ts = us} g gs) q = counted_append (ih t g q) (trees_counted us gs q)

  held_counted : (h : Held) → GoodHeld d h → (p : ℕ) (w : Said) → AllCounted (held_fields h p w)
  unfolding held_fields
  held_counted h (good_text x) p (named (holds.Text f)) = counted_next x (text_counted x) counted_none
  held_counted h (good_text x) p (named (holds.Rows q)) = counted_none
  held_counted h (good_text x) p passed = counted_none
  held_counted h (good_trees gs) p (named (holds.Text f)) = counted_none
  held_counted h (good_trees {ts = ts} gs) p (named (holds.Rows q)) = trees_counted ts gs (rows_in q ts)
  held_counted h (good_trees gs) p passed = counted_none

  level_counted : (t : Tree) → Good (suc d) t → (q : Parent) → AllCounted (tree_fields t q)
  unfolding tree_fields
  level_counted t (good {h = h} na g) q = held_counted h g _ _

tree_counted : (d : ℕ) (t : Tree) → Good d t → (q : Parent) → AllCounted (tree_fields t q)
tree_counted zero t g q = no_good g
tree_counted (suc d) t g q = level_counted d (tree_counted d) t g q

root_counted : (d : ℕ) (t : Tree) → Good (suc d) t → (q : Parent) → AllCounted (fields_of q t)
root_counted d t (good {h = h} na g) q = held_counted d (tree_counted d) h g _ _

pub flow_counted : {ids : Bool} (s : List ℕ) (t : Tree) → ReadsAs ids s t → (q : Parent) → AllCounted (fields_of q t)
flow_counted s t r q = root_counted 11 t (rw r.1 at (flow_good r.0)) q
