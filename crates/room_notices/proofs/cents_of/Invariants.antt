use Prim.Native.Nat.{◌≤◌}
use Rattle.training.specs.Training.{list_of}
use Rattle.room_notices.proofs.Laws.{Counted}
use Rattle.room_notices.proofs.cents_of.Given as goal

abbrev pub invariant-loop-i : goal.invariant-loop-i
invariant-loop-i l = (l.i ≤ l.i-end) × Counted (list_of l.b) l.kind l.i l.cents
