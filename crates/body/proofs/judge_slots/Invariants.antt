use Rattle.body.proofs.Laws.{Sofar}
use Rattle.body.proofs.judge_slots.Given as goal

abbrev pub invariant-loop-i : goal.invariant-loop-i
invariant-loop-i l = Sofar l.t l.base l.n l.i l.paid l.collected
