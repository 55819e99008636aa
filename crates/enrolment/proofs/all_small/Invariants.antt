use lib.Dec.{leb}
use Rattle.entries.specs.Entry.{slots_of}
use Rattle.training.specs.Training.{places}
use Rattle.enrolment.proofs.Laws.{Walking}
use Rattle.enrolment.proofs.all_small.Given as goal

abbrev pub invariant-loop-b : goal.invariant-loop-b
invariant-loop-b l = Walking (λ at. leb (slots_of l.t at) places) l.b-end l.b
