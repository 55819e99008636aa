use Rattle.slots.proofs.Filter.{Marking}
use Rattle.slots.proofs.mark_keys.Given as goal

abbrev pub invariant-loop-i : goal.invariant-loop-i
invariant-loop-i l = Marking l.t l.base l.n l.marks l.i
