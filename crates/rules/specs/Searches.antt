-- Steps of a search (document 02, Req 09), over one body's records as they stand when the order is served.
use Rattle.std.specs.Prelude.{ℕ, suc, List, length, Option, Some, None}
use Rattle.order.specs.Ordinativo.{Ordinativo}
use Rattle.record.specs.declared.Record.{Record}
use Rattle.slots.specs.Slots.{find_in}
use Rattle.lines.specs.Lines.{line_code}
use Rattle.rules.specs.Rules.{key_for, unless}

-- "Each order's search counts the slots it looked at: up to and including the one found, or all the body's used slots when there is none"
abbrev pub looked_at : List Record → Option ℕ → ℕ
looked_at rs (Some i) = suc i
looked_at rs None = length rs

-- what an order's search counts: "Orders answered 12 or 13 .. count 0; a replacement counts only the search for its own key"
unfoldable pub steps_of : ℕ → Ordinativo → List Record → ℕ
steps_of year o rs = unless (λ code. 0) (line_code o.lines o.total) (looked_at rs (find_in rs 0 (key_for year o)))
