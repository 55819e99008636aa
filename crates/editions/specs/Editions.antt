-- The editions (document 02, Req 05: "The caller names the edition", "Refusals: 23, no such edition").
use Rattle.std.specs.Prelude.{ℕ, cond, eqb, Option, Some, None}
use Rattle.editions.specs.declared.Edition.TheVariants.{Oil, Opi}
use Rattle.editions.specs.declared.Edition.{Edition}

-- edition 1 is document 01's, "Edition 2 has the header of document 000, 9.2.1"; no other number is one
abbrev pub edition_of : ℕ → Option Edition
edition_of n = cond (eqb n 1) (Some Oil) (cond (eqb n 2) (Some Opi) None)
