use Prim.Native.Nat.{◌-◌}
use lib.ListN.{length}
use Rattle.serving.proofs.Laws.{Serving}
use Rattle.serving.proofs.serve_marked.Given as goal

abbrev pub invariant-loop-k : goal.invariant-loop-k
invariant-loop-k l = Serving l.root l.f l.past l.base l.n l.year l.initial.t l.initial.out l.from l.t l.out l.marks l.i l.to l.accepted l.steps l.used

abbrev pub decreases-loop-k : goal.decreases-loop-k
decreases-loop-k l = length l.f - l.i
