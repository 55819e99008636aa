-- The header of a flow that stands, as the places of its parts: names for the contracts of the code. What it says is `header_in` of Header.
use Rattle.std.specs.Prelude.{ℕ, ◌+◌, ◌≤◌, List, ◌∷◌, length, Option, Some, None}
use Rattle.scan.specs.Bytes.{part}
use Rattle.schema.specs.declared.Parent.{Parent}
use Rattle.rows.specs.declared.Kept.{Kept}
use Rattle.schema.specs.Table.{table}
use Rattle.rows.specs.Kept.{kept_from, next_of}
use Rattle.structure.specs.Structure.{Range, ranges}
use Rattle.orders.specs.Shape.{Filled}
use Rattle.orders.specs.Orders.{in_row}
use Rattle.editions.specs.declared.Edition.{Edition}
use Rattle.header.specs.declared.Span.{Span}
use Rattle.header.specs.declared.Testata.{Testata}
use Rattle.header.specs.declared.Heading.{Heading}
use Rattle.header.specs.Header.{Header, root_of, esercizio_row, testata_of, header_in}

abbrev pub root_rows : Edition → List Range
root_rows e = ranges (table (root_of e))

-- where a named child's text stands, and where the children after it begin
abbrev pub span_of : Option Kept → Span
span_of (Some k) = record { from = k.child.gt + 1; to = k.child.to }
span_of None = record { from = 0; to = 0 }

abbrev pub after_of : Option Kept → ℕ
after_of (Some k) = k.child.after
after_of None = 0

-- THE FOUR FIELDS that stand first in a parent's table in both editions: the places of the first and the fourth, and where the fourth ends
unfoldable pub testata_in : List Kept → Testata
testata_in ks = record { abi = span_of (next_of (in_row 0 ks)); ente = span_of (next_of (in_row 3 ks)); after = after_of (next_of (in_row 3 ks)) }

-- rows of one element each, four of them, before others
abbrev pub four_then : List Range → List Range
four_then rs = let r : Range = record { least = 1; most = 1 } in r ∷ r ∷ r ∷ r ∷ rs

-- a parent's named children from i on begin with such rows
pub record FourFirst (p : Parent) (s : List ℕ) (i : ℕ) : Type 0 where
  pub depth : ℕ
  pub others : List Range
  pub filled : Filled (four_then others) depth p s 0 i

-- codice_ABI_BT and codice_ente_BT as parts of the flow, esercizio as a value, and where the orders begin
unfoldable pub heading_in : Edition → List ℕ → List Kept → Heading
heading_in e s ks = record {
  abi = span_of (next_of (in_row 0 (testata_of e s ks)));
  ente = span_of (next_of (in_row 3 (testata_of e s ks)));
  esercizio = (header_in e s ks).esercizio;
  orders = after_of (next_of (in_row (esercizio_row e) ks));
}

abbrev pub heading_from : Edition → List ℕ → ℕ → Heading
heading_from e s from = heading_in e s (kept_from (root_of e) s from)

-- the header that stands at these places
abbrev pub header_by : List ℕ → Heading → Header
header_by s h = record { abi = part s h.abi.from h.abi.to; ente = part s h.ente.from h.ente.to; esercizio = h.esercizio }

-- they lie within the flow
pub record Within (s : List ℕ) (h : Heading) : Type 0 where
  pub abi : (h.abi.from ≤ h.abi.to) × (h.abi.to ≤ length s)
  pub ente : (h.ente.from ≤ h.ente.to) × (h.ente.to ≤ length s)
