-- An order (ordinativo) as the rules speak of it: its lines are a list.
use Rattle.std.specs.Prelude.{ℕ, List, take}
use Rattle.calendar.specs.declared.Date.{Date}
use Rattle.codes.specs.declared.Operation.{Operation}
use Rattle.order.specs.declared.NamedLine.{NamedLine}
use Rattle.order.specs.declared.Line.{Line}
use Rattle.order.specs.declared.Lines.{Lines}
use Rattle.order.specs.declared.Order.{Order}

-- a line that names none, and no line
abbrev pub no_name : NamedLine
no_name = record { number = 0; line = 0; esercizio = 0 }

abbrev pub no_line : Line
no_line = record { progressivo = 0; amount = 0; named = no_name }

pub record Ordinativo : Type 0 where
  -- 1 mandato, 2 reversale
  pub kind : ℕ
  pub operation : Operation
  pub number : ℕ
  pub date : Date
  pub total : ℕ
  pub lines : List Line

-- the lines that are there: of the struct's eight places the first `count`
abbrev pub lines_there : Lines → List Line
lines_there ls = take ls.count ls.each

-- the order that the struct holds
abbrev pub ordinativo : Order → Ordinativo
ordinativo o = record {
  kind = o.kind;
  operation = o.operation;
  number = o.number;
  date = o.date;
  total = o.total;
  lines = lines_there o.lines;
}
