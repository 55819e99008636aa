use Prim.Native.Nat.{◌+◌, ◌-◌, ◌*◌}
use Rattle.message_rewrite.proofs.Laws.{Going}
use Rattle.message_rewrite.proofs.entries_again.Given as goal

abbrev pub invariant-loop-k : goal.invariant-loop-k
invariant-loop-k l = Going l.s l.v l.n l.to l.initial.m l.m (l.n - l.k) (80 + 48 * l.k) l.a
