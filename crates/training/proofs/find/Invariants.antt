use Prim.Native.Nat.{◌≤◌}
use mathlib.Core.Path.{◌≡◌}
use lib.ListN.{drop}
use Rattle.slots.specs.Slots.{find_in}
use Rattle.training.specs.Training.{list_of}
use Rattle.training.proofs.find.Given as goal

abbrev pub invariant-loop-i : goal.invariant-loop-i
invariant-loop-i l = (l.i ≤ l.i-end) × (find_in (list_of l.b) 0 l.key ≡ find_in (drop l.i (list_of l.b)) l.i l.key)
