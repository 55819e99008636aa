-- What the first walk over a level's named children has said and has still to say: names for the contracts of the walks.
use Rattle.std.specs.Prelude.{ℕ, ◌+◌, ◌-◌, ◌≤◌, ◌<◌, ◌≡◌, List, length, Option}
use Rattle.children.specs.declared.Child.{Child}
use Rattle.schema.specs.declared.Parent.{Parent}
use Rattle.schema.specs.declared.Holds.{Holds}
use Rattle.schema.specs.declared.Holds.TheVariants.{Text, Rows}
use Rattle.schema.specs.Table.{table}
use Rattle.rows.specs.declared.Kept.{Kept}
use Rattle.rows.specs.Kept.{kept_from}
use Rattle.rows.specs.Replaces.{rows_for}
use Rattle.structure.specs.Structure.{ranges, kept_holds}
use Rattle.structure.specs.Walk.{goes_on, deeper}
use Rattle.standing.specs.declared.Breaking.{Breaking}
use Rattle.standing.specs.Readings.{Field, fields_by, fields_at, first_bad}
use Rattle.standing.specs.Standing.{standing_at, forget, breaking_by, field_breaking, after}

-- the fields of the level below
abbrev pub below : ℕ → List ℕ → Parent → ℕ → List Field
below d s = λ q a. fields_at (d - 1) q s a

-- what a named child holds
abbrev pub held_breaking : ℕ → List ℕ → Child → Holds → Option Breaking
held_breaking d s c (Text f) = field_breaking s f c
held_breaking d s c (Rows q) = forget (standing_at (d - 1) (rows_for q s (c.gt + 1)) s (c.gt + 1))

-- what the named children ks come to, after some of which n stand in `row`
unfoldable pub rest : ℕ → Parent → List ℕ → ℕ → ℕ → List Kept → Option Breaking
rest d p s row n ks = breaking_by (goes_on (ranges (table p)) (kept_holds (deeper d s) s) row n ks) (first_bad (fields_by (below d s) s ks))

-- where the walk stands: w is what all come to, `so` what those up to i do, of which n stand in `row`
abbrev pub Goes : Option Breaking → ℕ → Parent → List ℕ → Option Breaking → ℕ → ℕ → ℕ → Type 0
Goes w d p s so i row n = (i ≤ length s) × (n ≤ i) × (row < length (ranges (table p))) × (w ≡ after so (rest d p s row n (kept_from p s i)))
