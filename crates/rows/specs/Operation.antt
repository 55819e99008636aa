-- What is told of an order by its tipo_operazione, where that is its first child.
use Rattle.std.specs.Prelude.{◌≡◌, ℕ, List, Option, Some, None, Bool}
use Rattle.scan.specs.Bytes.{bytes}
use Rattle.fields.specs.declared.Form.TheVariants.{TipoOperazione}
use Rattle.schema.specs.declared.Parent.{Parent}
use Rattle.schema.specs.declared.Holds.TheVariants.{Text}
use Rattle.tags.specs.Tags.{Opens}
use Rattle.rows.specs.Kept.{kept_from}
use Rattle.rows.specs.Replaces.{replaces}

-- p is an order: tipo_operazione is its row 0
abbrev pub Says : Parent → Type 0
Says p = Opens p (bytes "<tipo_operazione>") 0 16 0 (Text TipoOperazione)

-- of any order whose children begin at i; of what was not read nothing is said
abbrev pub Tells : List ℕ → ℕ → Option Bool → Type 0
Tells s i (Some b) = (p : Parent) → Says p → b ≡ replaces s (kept_from p s i)
Tells s i None = Unit
