-- THE READER'S BOOK, closed: what document 01 answers to any list of bytes, in terms of grammar, tree, schema and fields alone.
use Rattle.std.specs.Prelude.{◌≡◌, ◌↔◌, ℕ, List, true, Result, Ok, Err}
use Prim.Native.String.{String}
use Rattle.scan.specs.Bytes.{bytes}
use Rattle.grammar.specs.Grammar.{content_place}
use Rattle.fields.specs.declared.Cause.{Cause}
use Rattle.schema.specs.declared.Parent.{Parent}
use Rattle.schema.specs.declared.Holds.TheVariants.{Rows}
use Rattle.standing.specs.Readings.{Field}
use Rattle.order.specs.Ordinativo.{Ordinativo}
use Rattle.editions.specs.declared.Edition.{Edition}
use Rattle.header.specs.Header.{Header}
use Rattle.flow.specs.declared.Breakage.{Breakage}
use Rattle.flow.specs.declared.Breakage.TheVariants.{MarkupBreaks, StructureBreaks, FieldBreaks}
use Rattle.flow.specs.Flow.{Kind, document_verdict, flow_kind, verdict_of, header_of, flow_orders}
use Rattle.tree.specs.Tree.{Tree, lt_of, name_of, held_of, kids_in, ReadsAs}
use Rattle.tree.specs.Structure.{named, held_fits}
use Rattle.tree.specs.Fields.{held_fields, AllStand, FirstBreaks}
use Rattle.tree.specs.Orders.{HeaderIn, OrdersIn}

-- THE VERDICT ON A TREE, for a root of any name and parent: it has that name, and holds what that parent's rows say
pub record Structured (x : String) (p : Parent) (t : Tree) : Type 0 where
  pub name : name_of t ≡ bytes x
  pub holds : held_fits (held_of t) (named (Rows p)) ≡ true

abbrev pub fields_of : Parent → Tree → List Field
fields_of p t = held_fields (held_of t) (lt_of t) (named (Rows p))

-- "Checked in that order, each over the whole flow", for a kind of document whose root's content begins at `at`
pub data VerdictOn (k : Kind) (t : Tree) (at : ℕ) : Result ℕ Breakage → Type 0 where
  structure_breaks : ¬ (Structured k.name k.parent t) → VerdictOn k t at (Err StructureBreaks)
  field_breaks : {q : ℕ} {c : Cause} → Structured k.name k.parent t → FirstBreaks (fields_of k.parent t) q c → VerdictOn k t at (Err (FieldBreaks q c))
  stands : Structured k.name k.parent t → AllStand (fields_of k.parent t) → VerdictOn k t at (Ok at)

-- THE CLOSING STATEMENT for a kind of document. Either the grammar derives no tree, and the markup breaks ..
pub record NoTree (k : Kind) (s : List ℕ) : Type 0 where
  pub underivable : (t : Tree) → ReadsAs k.ids s t → ⊥
  pub place : ℕ
  pub breaks : document_verdict k s ≡ Err (MarkupBreaks place)

-- .. or it derives exactly one, and the verdict is exactly the one on that tree
pub record OneTree (k : Kind) (s : List ℕ) (t : Tree) : Type 0 where
  pub derived : ReadsAs k.ids s t
  pub alone : (u : Tree) → ReadsAs k.ids s u → u ≡ t
  pub verdict : (v : Result ℕ Breakage) → (document_verdict k s ≡ v) ↔ VerdictOn k t (content_place derived.0) v

pub data DocumentAnswered (k : Kind) (s : List ℕ) : Type 0 where
  no_tree : NoTree k s → DocumentAnswered k s
  one_tree : {t : Tree} → OneTree k s t → DocumentAnswered k s

-- THE CLOSING STATEMENT for a flow of an edition: and of one that stands, exactly one header and one list of orders are its tree's, those that the rules
-- speak of
pub record Answered (e : Edition) (s : List ℕ) : Type 0 where
  pub document : DocumentAnswered (flow_kind e) s
  pub header : (t : Tree) (at : ℕ) → ReadsAs (flow_kind e).ids s t → verdict_of e s ≡ Ok at → (h : Header) → (header_of e s at ≡ h) ↔ HeaderIn e (kids_in (held_of t)) h
  pub orders : (t : Tree) (at : ℕ) → ReadsAs (flow_kind e).ids s t → verdict_of e s ≡ Ok at → (os : List Ordinativo) → (flow_orders e s at ≡ os) ↔ OrdersIn (kids_in (held_of t)) os
