use Rattle.slots.specs.Slots.{records_at}
use Rattle.order.specs.Ordinativo.{lines_there}
use Rattle.replacing.proofs.Marks.{Sofar}
use Rattle.replacing.proofs.replace_code.Given as goal

abbrev pub invariant-loop-j : goal.invariant-loop-j
invariant-loop-j l = Sofar (records_at l.t l.base l.n) l.o.kind (lines_there l.o.lines) l.j
