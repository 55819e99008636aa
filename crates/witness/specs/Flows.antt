-- Flows for document 01's table (bodies 000471 and 471), as bytes; what they are to be read as; and the tables that orders leave.
use Rattle.std.specs.Prelude.{ℕ, List, [], ◌∷◌, ◌++◌}
use Prim.Native.String.{String}
use Rattle.scan.specs.Bytes.{bytes}
use Rattle.codes.specs.declared.Operation.TheVariants.{Inserimento}
use Rattle.opening.specs.Opening.{opened}
use Rattle.order.specs.Ordinativo.{no_name, Ordinativo}
use Rattle.header.specs.Header.{Header}
use Rattle.service.specs.Service.{order_leaves}
use Rattle.marked.specs.Flows.{request_of, sample_table, mandato, flow_of}

-- FLOWS for 471: mandato 1 and mandato 2 inserted
abbrev pub two : List ℕ
two = flow_of "471" (mandato "INSERIMENTO" "1" ++ mandato "INSERIMENTO" "2")

-- READ AS
abbrev pub header_for : String → Header
header_for code = record { abi = bytes "01234"; ente = bytes code; esercizio = 2021 }

-- of 1.00 in one line
abbrev pub order : ℕ → Ordinativo
order n = record {
  kind = 1;
  operation = Inserimento;
  number = n;
  date = record { year = 2021; month = 3; day = 1 };
  total = 100;
  lines = record { progressivo = 1; amount = 100; named = no_name } ∷ [];
}

-- TABLES: document 01's after mandato 1 for 000471, and after mandato 1 for 471
abbrev pub first : List ℕ
first = order_leaves sample_table 112 4 2021 (order 1)

abbrev pub second : List ℕ
second = order_leaves sample_table 496 4 2021 (order 1)

-- for the same bodies with one slot each
abbrev pub small : List ℕ
small = opened (request_of 1)
