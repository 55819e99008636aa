-- A tree written out: its bytes, with no white space between elements, and the places that its elements then have. What is written is read back.
use Rattle.std.specs.Prelude.{◌≡◌, ℕ, suc, ◌+◌, List, [], ◌++◌, length, Ok}
use Prim.Native.String.{String}
use Rattle.scan.specs.Bytes.{bytes}
use Rattle.grammar.specs.Grammar.{Name, Text, start_tag, end_tag}
use Rattle.editions.specs.declared.Edition.{Edition}
use Rattle.flow.specs.Flow.{flow_kind, verdict_of, header_of, flow_orders}
use Rattle.tree.specs.Tree.{Tree, tree, Held, says, holds, Trees, none, more, held_of, kids_in, ReadsAs}
use Rattle.tree.specs.Fields.{AllStand}
use Rattle.tree.specs.Orders.{HeaderIn, OrdersIn}
use Rattle.tree.specs.Flow.{Structured, fields_of}

-- an element of text, and one of elements. (What is written gets its places by being written)
abbrev pub leaf : String → List ℕ → Tree
leaf x t = tree 0 (bytes x) (says t)

abbrev pub node : String → Trees → Tree
node x ts = tree 0 (bytes x) (holds ts)

unfoldable mutual
  pub bytes_of : Tree → List ℕ
  bytes_of (tree p n h) = start_tag n ++ bytes_held h ++ end_tag n

  pub bytes_held : Held → List ℕ
  bytes_held (says t) = t
  bytes_held (holds ts) = bytes_all ts

  pub bytes_all : Trees → List ℕ
  bytes_all none = []
  bytes_all (more t ts) = bytes_of t ++ bytes_all ts

-- the places that its elements then have, where the first < stands at p
unfoldable mutual
  pub placed : ℕ → Tree → Tree
  placed p (tree q n h) = tree p n (placed_held (p + length (start_tag n)) h)

  pub placed_held : ℕ → Held → Held
  placed_held p (says t) = says t
  placed_held p (holds ts) = holds (placed_all p ts)

  pub placed_all : ℕ → Trees → Trees
  placed_all p none = none
  placed_all p (more t ts) = more (placed p t) (placed_all (p + length (bytes_of t)) ts)

mutual
  -- a tree that can be written: legal names, legal text, no empty list of elements, at most d levels
  pub data Good : ℕ → Tree → Type 0 where
    good : {d p : ℕ} {n : List ℕ} {h : Held} → Name n → GoodHeld d h → Good (suc d) (tree p n h)

  pub data GoodHeld : ℕ → Held → Type 0 where
    good_text : {d : ℕ} {t : List ℕ} → Text t → GoodHeld d (says t)
    good_trees : {d : ℕ} {ts : Trees} → GoodTrees d ts → GoodHeld d (holds ts)

  pub data GoodTrees : ℕ → Trees → Type 0 where
    good_last : {d : ℕ} {t : Tree} → Good d t → GoodTrees d (more t none)
    good_next : {d : ℕ} {t : Tree} {ts : Trees} → Good d t → GoodTrees d ts → GoodTrees d (more t ts)

-- A TREE THAT IS A FLOW of an edition, but for its length: it can be written, has the structure, and its fields stand. (None of these sees its places)
pub record FlowTree (e : Edition) (t : Tree) : Type 0 where
  pub good : Good 12 t
  pub structured : Structured (flow_kind e).name (flow_kind e).parent t
  pub fields : AllStand (fields_of (flow_kind e).parent t)

-- WRITTEN AND READ BACK: it is read as that tree, its elements at the places that they then have; it stands, and its header and orders are the tree's.
-- Proved: `flow-read-back` (proofs/Places.antt)
pub record ReadBack (e : Edition) (t : Tree) (at : ℕ) : Type 0 where
  pub tree_again : ReadsAs (flow_kind e).ids (bytes_of t) (placed 0 t)
  pub stands : verdict_of e (bytes_of t) ≡ Ok at
  pub header : HeaderIn e (kids_in (held_of t)) (header_of e (bytes_of t) at)
  pub orders : OrdersIn (kids_in (held_of t)) (flow_orders e (bytes_of t) at)

-- READ AND WRITTEN AGAIN: of a flow that stands, white space, Id and all, the tree's bytes stand too, with the same header and orders
pub record Again (e : Edition) (s : List ℕ) (at : ℕ) (t : Tree) : Type 0 where
  pub begins : ℕ
  pub stands : verdict_of e (bytes_of t) ≡ Ok begins
  pub header : header_of e (bytes_of t) begins ≡ header_of e s at
  pub orders : flow_orders e (bytes_of t) begins ≡ flow_orders e s at
