-- What the judge of a body tells the judge of a table. The promises speak of none of it.
use Rattle.std.specs.Prelude.{Bool, cond, List, Option, Some, None, ℕ}
use Rattle.record.specs.Slot.{mandato_kind, reversale_kind}
use Rattle.record.specs.declared.Record.{Record}
use Rattle.body.specs.Body.{cents_of}

-- broken, or right with the cents paid and collected of these records
abbrev pub summed : Bool → List Record → Option (ℕ × ℕ)
summed right rs = cond right (Some ((cents_of mandato_kind rs), (cents_of reversale_kind rs))) None
