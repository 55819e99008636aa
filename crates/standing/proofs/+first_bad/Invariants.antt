use Prim.Native.Nat.{◌-◌}
use Rattle.std.specs.Prelude.{Ok}
use lib.ListN.{length}
use Rattle.standing.proofs.Second.{bad_in, Seeks}
use Rattle.standing.proofs.+first_bad.Given as goal

abbrev pub decreases-first_bad : goal.decreases-first_bad
decreases-first_bad l = l.d

abbrev pub invariant-loop-k : goal.invariant-loop-k
invariant-loop-k l = Seeks (bad_in l.d l.parent l.s l.at) l.d l.parent l.s (Ok tt) l.i

abbrev pub decreases-loop-k : goal.decreases-loop-k
decreases-loop-k l = length l.s - l.i
