-- The text of an element stands where its tree says: after its start tag, in the message itself.
use Rattle.std.specs.Prelude.{Option, Some, None}
use mathlib.Core.Path.{◌≡◌, refl, sym, ap, ◌∙◌}
use mathlib.Core.List.{List, [], ◌∷◌}
use mathlib.Core.Bool.{Bool, true, false, cond, ◌||◌}
use Prim.Native.Nat.{ℕ, zero, suc, ◌+◌, ◌-◌, ◌≤◌}
use Prim.Native.String.{String}
use native.Mathlib.Omega.{arith}
use lib.ListN.{length, length-append}
use Rattle.scan.specs.Bytes.{bytes, part, text_is}
use Rattle.tokens.specs.Tokens.{white_at}
use Rattle.grammar.specs.Grammar.{start_tag, content_place}
use Rattle.grammar.proofs.Parts.{part_length, part_none}
use Rattle.children.specs.declared.Child.{Child}
use Rattle.children.specs.Child.{child_at, then_from, children_up_to, children_from}
use Rattle.children.proofs.Laws.{Lies, child_lies}
use Rattle.tree.specs.Tree.{Tree, tree, Trees, none, more, name_of, held_of, kids_in, ReadsAs}
use Rattle.tree.specs.Orders.{children_named, held_text}
use Rattle.tree.proofs.Positions.{trees_by, held_by, tree_at, trees_from}
use Rattle.tree.proofs.Book.{kids_held}
use Rattle.tree.proofs.Orders.{kids_of}
use Rattle.tree.proofs.Read.{document_tree}
use Rattle.message_read.specs.Values.{text_place}

pub record TextAt (s : List ℕ) (t : Tree) : Type 0 where
  pub within : text_place t + length (held_text (held_of t)) ≤ length s
  pub stands : part s (text_place t) (text_place t + length (held_text (held_of t))) ≡ held_text (held_of t)

pub data AllIn (P : Tree → Type 0) : Trees → Type 0 where
  all_none : AllIn P none
  all_more : {t : Tree} {ts : Trees} → P t → AllIn P ts → AllIn P (more t ts)

-- of one child, by its positions
module _ (m : ℕ) (s : List ℕ) (c : Child) (i : ℕ) (l : Lies s i c) where
  abbrev name : List ℕ
  name = part s (c.lt + 1) c.gt

  place_is : c.lt + length (start_tag (part s (c.lt + 1) c.gt)) ≡ c.gt + 1
  place_is =
      let a = l.name in
      let b = l.inner in
      let d = l.ends in
      let e = l.within in
      let n = part_length s (c.lt + 1) c.gt (omega arith) in
      let j = length-append (part s (c.lt + 1) c.gt) (bytes ">") in
      omega arith

  pub text_at : TextAt s (tree_at (suc m) s c)
  unfolding tree_at
  text_at = go (trees_from m s (white_at s (c.gt + 1)))
    where
      go : (ts : Trees) → TextAt s (tree c.lt (part s (c.lt + 1) c.gt) (held_by ts (part s (c.gt + 1) c.to)))
      go none =
          let x = place_is in
          let d = l.ends in
          let e = l.within in
          let b = l.inner in
          let n = part_length s (c.gt + 1) c.to (omega arith) in
          let y : c.lt + length (start_tag (part s (c.lt + 1) c.gt)) + length (part s (c.gt + 1) c.to) ≡ c.to = omega arith in
          record { within = omega arith; stands = λ k. part s (x k) (y k) }
      go (more t ts) =
          let x = place_is in
          let d = l.ends in
          let e = l.within in
          let b = l.inner in
          let y : c.lt + length (start_tag (part s (c.lt + 1) c.gt)) + 0 ≡ c.lt + length (start_tag (part s (c.lt + 1) c.gt)) = omega arith in
          record { within = omega arith; stands = ap (part s (c.lt + length (start_tag (part s (c.lt + 1) c.gt)))) y ∙ part_none s (c.lt + length (start_tag (part s (c.lt + 1) c.gt))) }

-- of all children from a place on
module _ (P : Tree → Type 0) (m : ℕ) (s : List ℕ) (each : (c : Child) (i : ℕ) → Lies s i c → P (tree_at m s c)) where
  all_by : (n i : ℕ) → AllIn P (trees_by (tree_at m s) (children_up_to n s i))
  unfolding children_up_to
  all_by zero i = all_none
  all_by (suc n) i = go (child_at s i) refl (all_by n)
    where
      go : (w : Option Child) → child_at s i ≡ w → ((j : ℕ) → AllIn P (trees_by (tree_at m s) (children_up_to n s j))) → AllIn P (trees_by (tree_at m s) (then_from w (children_up_to n s)))
      go (Some c) e ih = all_more (each c i (child_lies s i c e).1) (ih c.after)
      go None e ih = all_none

  all_from : (i : ℕ) → AllIn P (trees_from m s i)
  unfolding children_from
  all_from i = all_by (suc (length s)) i

-- of a child and of its own children
abbrev pub DeepAt : List ℕ → Tree → Type 0
DeepAt s t = TextAt s t × AllIn (TextAt s) (kids_in (held_of t))

deep_at : (m : ℕ) (s : List ℕ) (c : Child) (i : ℕ) → Lies s i c → DeepAt s (tree_at (suc (suc m)) s c)
deep_at m s c i l = (text_at (suc m) s c i l, rw (kids_of (suc m) s c) (all_from (TextAt s) (suc m) s (text_at m s) (white_at s (c.gt + 1))))

-- OF A WHOLE MESSAGE
pub root_at : {ids : Bool} (s : List ℕ) (t : Tree) → ReadsAs ids s t → AllIn (DeepAt s) (kids_in (held_of t))
root_at s t (f, e) =
    let r = document_tree s f in
    let at = content_place f in
    let z : kids_in (held_of t) ≡ trees_from 11 s (white_at s at) = ap (λ (u : Tree). kids_in (held_of u)) (sym e ∙ r.same) ∙ kids_held (trees_from 11 s (white_at s at)) (part s at r.ends) in
    rw z (all_from (DeepAt s) 11 s (deep_at 9 s) (white_at s at))

-- THOSE OF A NAME
pub data AllOf (P : Tree → Type 0) : List Tree → Type 0 where
  none_of : AllOf P []
  one_of : {t : Tree} {l : List Tree} → P t → AllOf P l → AllOf P (t ∷ l)

pub all_named : {P : Tree → Type 0} (x : String) {ts : Trees} → AllIn P ts → AllOf P (children_named (x ∷ []) ts)
unfolding children_named
all_named x all_none = none_of
all_named {P} x (all_more {t = t} {ts = ts} p a) = go (text_is (bytes x) (name_of t)) (all_named x a)
  where
    go : (b : Bool) → AllOf P (children_named (x ∷ []) ts) → AllOf P (cond (b || false) (t ∷ children_named (x ∷ []) ts) (children_named (x ∷ []) ts))
    go true r = one_of p r
    go false r = r
