use Rattle.order.specs.Ordinativo.{lines_there}
use Rattle.replacing.proofs.Bytes.{Going}
use Rattle.replacing.proofs.mark_lines.Given as goal

abbrev pub invariant-loop-j : goal.invariant-loop-j
invariant-loop-j l = Going l.initial.t l.t l.base l.n l.o.kind (lines_there l.o.lines) l.j
