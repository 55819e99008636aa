use mathlib.Core.Path.{◌≡◌}
use Prim.Native.Nat.{◌-◌, ◌≤◌}
use lib.ListN.{length}
use Rattle.rows.specs.Kept.{kept_from}
use Rattle.rows.specs.Replaces.{replaces}
use Rattle.rows.proofs.is_replacing_from.Given as goal

abbrev pub invariant-loop-k : goal.invariant-loop-k
invariant-loop-k l = (l.i ≤ length l.s) × (replaces l.s (kept_from l.parent l.s l.from) ≡ replaces l.s (kept_from l.parent l.s l.i))

abbrev pub decreases-loop-k : goal.decreases-loop-k
decreases-loop-k l = length l.s - l.i
