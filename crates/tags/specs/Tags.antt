-- A start tag of an element that its parent names.
use Rattle.std.specs.Prelude.{◌≡◌, ℕ, ◌+◌, ◌<◌, List, length, Option, Some, None, Ok}
use Rattle.scan.specs.Bytes.{byte, byte_at}
use Rattle.tokens.specs.Tokens.{name_at}
use Rattle.schema.specs.declared.Parent.{Parent}
use Rattle.schema.specs.declared.Holds.{Holds}
use Rattle.schema.specs.Table.{table, spot_in}

-- at i stands a start tag, its > at e, of a name that stands in a row of p's table
pub record Opens (p : Parent) (s : List ℕ) (i e row : ℕ) (h : Holds) : Type 0 where
  pub lt : byte_at s i ≡ byte "<"
  pub name : name_at s (i + 1) ≡ Ok e
  pub gt : byte_at s e ≡ byte ">"
  pub within : e < length s
  pub spot : spot_in (table p) 0 s (i + 1) e ≡ Some (row, h)

-- what is seen at i: of any other bytes nothing is said
abbrev pub Seen : Parent → List ℕ → ℕ → Option (ℕ × ℕ × Holds) → Type 0
Seen p s i (Some (e, row, h)) = Opens p s i e row h
Seen p s i None = Unit
