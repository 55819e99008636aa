-- The header of a flow, by its edition, as values. Document 02, Req 05: "Edition 2 has the header of document 000, 9.2.1, with its own nesting", and
-- "Only document 01's five header fields are read".
use Rattle.std.specs.Prelude.{ℕ, List, [], Option, Some, None}
use Rattle.digits.specs.Digits.{esercizio}
use Rattle.schema.specs.declared.Parent.{Parent}
use Rattle.schema.specs.declared.Parent.TheVariants.{FlussoOrdinativi, FlussoOpi}
use Rattle.rows.specs.declared.Kept.{Kept}
use Rattle.rows.specs.Kept.{next_of}
use Rattle.orders.specs.Orders.{in_row, text_in, value_of, inside}
use Rattle.editions.specs.declared.Edition.{Edition}
use Rattle.editions.specs.declared.Edition.TheVariants.{Oil, Opi}

pub record Header : Type 0 where
  pub abi : List ℕ
  pub ente : List ℕ
  pub esercizio : ℕ

-- the parent whose rows the root holds
abbrev pub root_of : Edition → Parent
root_of Oil = FlussoOrdinativi
root_of Opi = FlussoOpi

-- esercizio's row of the root's table
abbrev pub esercizio_row : Edition → ℕ
esercizio_row Oil = 4
esercizio_row Opi = 1

abbrev pub inside_next : List ℕ → Option Kept → List Kept
inside_next s (Some k) = inside s k
inside_next s None = []

-- the named children of which row 0 is codice_ABI_BT and row 3 codice_ente_BT: the root's own, or those of its testata_flusso, row 0
abbrev pub testata_of : Edition → List ℕ → List Kept → List Kept
testata_of Oil s ks = ks
testata_of Opi s ks = inside_next s (next_of (in_row 0 ks))

-- THE HEADER among the root's named children
abbrev pub header_in : Edition → List ℕ → List Kept → Header
header_in e s ks = record {
  abi = text_in 0 s (testata_of e s ks);
  ente = text_in 3 s (testata_of e s ks);
  esercizio = value_of (esercizio (text_in (esercizio_row e) s ks));
}
