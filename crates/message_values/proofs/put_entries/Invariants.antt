use Prim.Native.Nat.{◌-◌}
use lib.ListN.{length}
use Rattle.message_values.proofs.Laws.{Entries}
use Rattle.message_values.proofs.put_entries.Given as goal

abbrev pub invariant-loop-k : goal.invariant-loop-k
invariant-loop-k l = Entries l.kind l.s l.initial.values l.from l.at l.values l.to l.i

abbrev pub decreases-loop-k : goal.decreases-loop-k
decreases-loop-k l = length l.s - l.i
