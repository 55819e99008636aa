use Prim.Native.Nat.{◌-◌}
use lib.ListN.{length}
use Rattle.message_read.proofs.Laws.{Counted}
use Rattle.message_read.proofs.count_entries.Given as goal

abbrev pub invariant-loop-k : goal.invariant-loop-k
invariant-loop-k l = Counted l.kind l.s l.from l.i l.n

abbrev pub decreases-loop-k : goal.decreases-loop-k
decreases-loop-k l = length l.s - l.i
