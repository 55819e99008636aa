use Rattle.orders.proofs.Laws.{Lining}
use Rattle.orders.proofs.lines_from.Given as goal

abbrev pub invariant-loop-count : goal.invariant-loop-count
invariant-loop-count l = Lining l.parent l.s l.from l.each l.count l.i
