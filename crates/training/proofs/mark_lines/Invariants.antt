use Rattle.order.specs.Ordinativo.{lines_there}
use Rattle.training.specs.Training.{list_of}
use Rattle.training.proofs.Laws.{Marking}
use Rattle.training.proofs.mark_lines.Given as goal

abbrev pub invariant-loop-j : goal.invariant-loop-j
invariant-loop-j l = Marking (list_of l.b) (list_of l.book) l.o.kind (lines_there l.o.lines) l.j
