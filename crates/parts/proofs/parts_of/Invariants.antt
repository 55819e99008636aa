use Prim.Native.Nat.{◌-◌}
use lib.ListN.{length}
use Rattle.parts.proofs.Laws.{Walked}
use Rattle.parts.proofs.parts_of.Given as goal

abbrev pub invariant-loop-k : goal.invariant-loop-k
invariant-loop-k l = Walked l.parent l.s l.from l.i l.each

abbrev pub decreases-loop-k : goal.decreases-loop-k
decreases-loop-k l = length l.s - l.i
