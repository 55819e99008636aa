use Prim.Native.Nat.{◌-◌}
use lib.ListN.{length}
use Rattle.training.specs.Training.{list_of}
use Rattle.list_flow.proofs.Laws.{Taking}
use Rattle.list_flow.proofs.take_orders.Given as goal

abbrev pub invariant-loop-k : goal.invariant-loop-k
invariant-loop-k l = Taking l.root l.f l.past l.slots l.year (list_of l.initial.book) l.initial.out l.from (list_of l.book) l.out l.i l.to l.accepted l.steps

abbrev pub decreases-loop-k : goal.decreases-loop-k
decreases-loop-k l = length l.f - l.i
