-- What the steps of a flow's call give, for the contracts of the functions that take them.
use Rattle.std.specs.Prelude.{ℕ, List}
use Rattle.order.specs.Ordinativo.{Ordinativo}
use Rattle.header.specs.Header.{Header}
use Rattle.address.specs.Address.{body_named}
use Rattle.desk.specs.Desk.{Reading, for_body}

-- the reading for the body with the header's code
abbrev pub body_for : List ℕ → ℕ → Header → List Ordinativo → Reading
body_for t room h os = for_body t room h.esercizio os (body_named t h.ente)
