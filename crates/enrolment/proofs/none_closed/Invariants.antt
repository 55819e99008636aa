use lib.Dec.{eqb}
use Rattle.entries.specs.Entry.{closed_of}
use Rattle.enrolment.proofs.Laws.{Walking}
use Rattle.enrolment.proofs.none_closed.Given as goal

abbrev pub invariant-loop-b : goal.invariant-loop-b
invariant-loop-b l = Walking (λ at. eqb (closed_of l.t at) 0) l.b-end l.b
