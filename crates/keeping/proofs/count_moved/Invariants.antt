use Prim.Native.Nat.{◌+◌, ◌≤◌}
use lib.ListN.{drop}
use Rattle.keeping.specs.Keeping.{moved, moved_from}
use mathlib.Core.Path.{◌≡◌}
use Rattle.keeping.proofs.count_moved.Given as goal

abbrev pub invariant-loop-i : goal.invariant-loop-i
invariant-loop-i l = (l.to ≤ l.i) × (l.count ≤ l.i) × (moved l.flags ≡ l.count + moved_from l.i l.to (drop l.i l.flags))
