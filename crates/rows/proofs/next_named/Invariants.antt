use mathlib.Core.Path.{◌≡◌}
use Prim.Native.Nat.{◌-◌, ◌≤◌}
use lib.ListN.{length}
use Rattle.rows.specs.Kept.{kept_from}
use Rattle.rows.proofs.next_named.Given as goal

abbrev pub invariant-loop-child : goal.invariant-loop-child
invariant-loop-child l = (l.i ≤ length l.s) × (kept_from l.parent l.s l.from ≡ kept_from l.parent l.s l.i)

abbrev pub decreases-loop-child : goal.decreases-loop-child
decreases-loop-child l = length l.s - l.i
