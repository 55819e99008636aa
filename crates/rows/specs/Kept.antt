-- The children that a parent names.
use Rattle.std.specs.Prelude.{ℕ, ◌+◌, List, [], ◌∷◌, Option, Some, None}
use Rattle.children.specs.declared.Child.{Child}
use Rattle.schema.specs.declared.Parent.{Parent}
use Rattle.rows.specs.declared.Kept.{Kept}
use Rattle.children.specs.Child.{children_from}
use Rattle.schema.specs.Table.{table, spot_in}
use Rattle.schema.specs.declared.Holds.{Holds}

abbrev pub keep_one : Option (ℕ × Holds) → Child → List Kept → List Kept
keep_one (Some (n, h)) c ks = record { child = c; row = n; holds = h } ∷ ks
keep_one None c ks = ks

-- the children whose name the parent's table has, each with its row and what it holds; the others are passed over
unfoldable pub keep : Parent → List ℕ → List Child → List Kept
keep p s [] = []
keep p s (c ∷ cs) = keep_one (spot_in (table p) 0 s (c.lt + 1) c.gt) c (keep p s cs)

-- the named children from i on
unfoldable pub kept_from : Parent → List ℕ → ℕ → List Kept
kept_from p s i = keep p s (children_from s i)

-- the first of them
abbrev pub next_of : List Kept → Option Kept
next_of [] = None
next_of (k ∷ ks) = Some k
