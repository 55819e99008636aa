-- What the judge of a record tells the walk over a body's slots. The promises speak of none of it.
use Rattle.std.specs.Prelude.{ℕ, Bool, cond, Option, Some, None}
use Rattle.record.specs.declared.Record.{Record}
use Rattle.valid.specs.Valid.{record_ok, executed}

-- broken, or right with these cents
abbrev pub judged_by : Bool → ℕ → Option ℕ
judged_by right cents = cond right (Some cents) None

-- a record: whether it is valid, and the cents of its executed lines
abbrev pub judged_record : Record → Option ℕ
judged_record r = judged_by (record_ok r) (executed r)
