use Prim.Native.Nat.{◌-◌}
use lib.ListN.{length}
use Rattle.message_write.proofs.Laws.{Entering}
use Rattle.message_write.proofs.entries_of.Given as goal

abbrev pub invariant-loop-n : goal.invariant-loop-n
invariant-loop-n l = Entering l.all.root l.all.flow.now l.all.past.now l.all.out.now l.kind l.c.name.now l.c.year l.c.time.now l.all.from l.at l.initial.m l.m l.i l.k l.to

abbrev pub decreases-loop-n : goal.decreases-loop-n
decreases-loop-n l = length l.all.flow.now - l.i
