use Prim.Native.Nat.{◌-◌}
use lib.ListN.{length}
use Rattle.message_fit.proofs.Laws.{Fitting}
use Rattle.message_fit.proofs.outcomes_fit.Given as goal

abbrev pub invariant-loop-k : goal.invariant-loop-k
invariant-loop-k l = Fitting l.root l.f l.past l.out l.from l.i l.at

abbrev pub decreases-loop-k : goal.decreases-loop-k
decreases-loop-k l = length l.f - l.i
