use Rattle.message_values.proofs.Laws.{Texts}
use Rattle.message_values.proofs.put_spans.Given as goal

abbrev pub invariant-loop-i : goal.invariant-loop-i
invariant-loop-i l = Texts l.initial.values l.fn.each l.values l.i
