-- A whole flow (document 01, "Answers", codes 3 to 5, "Checked in that order, each over the whole flow"): what breaks, or its header and orders.
use Rattle.std.specs.Prelude.{ℕ, ◌+◌, List, map, Bool, true, false, cond, ◌&&◌, Result, Ok, Err}
use Prim.Native.String.{String}
use Rattle.scan.specs.Bytes.{bytes}
use Rattle.tokens.specs.Tokens.{white_at}
use Rattle.markup.specs.Markup.{markup_of}
use Rattle.schema.specs.declared.Parent.{Parent}
use Rattle.rows.specs.declared.Kept.{Kept}
use Rattle.schema.specs.Table.{name_is}
use Rattle.rows.specs.Kept.{kept_from}
use Rattle.structure.specs.Structure.{fits_at, levels}
use Rattle.standing.specs.Readings.{Bad, Place, Nowhere, fields_at, first_bad}
use Rattle.order.specs.Ordinativo.{Ordinativo, ordinativo}
use Rattle.orders.specs.Orders.{orders_in}
use Rattle.editions.specs.declared.Edition.{Edition}
use Rattle.editions.specs.declared.Edition.TheVariants.{Oil, Opi}
use Rattle.header.specs.Header.{Header, root_of, header_in}
use Rattle.flow.specs.declared.Breakage.{Breakage}
use Rattle.flow.specs.declared.Breakage.TheVariants.{MarkupBreaks, StructureBreaks, FieldBreaks}

-- "a field breaks; place is the byte of < of the first such element", with the cause of that field; where none does, the root's content begins at `at`
abbrev pub verdict_by_fields : ℕ → Bad → Result ℕ Breakage
verdict_by_fields at (Place p c) = Err (FieldBreaks p c)
verdict_by_fields at Nowhere = Ok at

-- the root has the name x, which stands from the byte after its < up to e, and its content at `at` the structure of the parent's table
abbrev pub by_root : List ℕ → Parent → List ℕ → ℕ → ℕ → ℕ → Result ℕ Breakage
by_root x p s lt e at = cond (name_is x s (lt + 1) e && fits_at levels p s at) (verdict_by_fields at (first_bad (fields_at levels p s at))) (Err StructureBreaks)

abbrev pub by_markup : List ℕ → Parent → List ℕ → Result (ℕ × ℕ × ℕ) ℕ → Result ℕ Breakage
by_markup x p s (Ok (lt, e, at)) = by_root x p s lt e at
by_markup x p s (Err q) = Err (MarkupBreaks q)

-- markup over the whole document, then structure, then fields
unfoldable pub verdict_by : List ℕ → Parent → Bool → List ℕ → Result ℕ Breakage
verdict_by x p ids s = by_markup x p s (markup_of ids s)

-- A KIND OF DOCUMENT: its root's name, the parent whose rows its root holds, and whether an Id may stand on its root
pub record Kind : Type 0 where
  pub name : String
  pub parent : Parent
  pub ids : Bool

abbrev pub document_verdict : Kind → List ℕ → Result ℕ Breakage
document_verdict k = verdict_by (bytes k.name) k.parent k.ids

-- A FLOW: "flusso_ordinativi (root)", and "No attributes"; edition 2 "allows one Id attribute on the root" (document 02, Req 05)
abbrev pub id_allowed : Edition → Bool
id_allowed Oil = false
id_allowed Opi = true

abbrev pub flow_kind : Edition → Kind
flow_kind e = record { name = "flusso_ordinativi"; parent = root_of e; ids = id_allowed e }

abbrev pub verdict_of : Edition → List ℕ → Result ℕ Breakage
verdict_of e = document_verdict (flow_kind e)

-- OF A FLOW THAT STANDS, its root's content beginning at `at`

-- the root's named children
abbrev pub root_named : Edition → List ℕ → ℕ → List Kept
root_named e s at = kept_from (root_of e) s (white_at s at)

-- codice_ABI_BT, codice_ente_BT and esercizio
abbrev pub header_of : Edition → List ℕ → ℕ → Header
header_of e s at = header_in e s (root_named e s at)

-- the orders as written
abbrev pub flow_orders : Edition → List ℕ → ℕ → List Ordinativo
flow_orders e s at = map ordinativo (orders_in s (root_named e s at))
