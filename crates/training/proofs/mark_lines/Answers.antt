use native.Mathlib.Omega.{arith}
use Rattle.order.specs.Ordinativo.{lines_there}
use Rattle.training.specs.Training.{list_of}
use Rattle.training.proofs.Laws.{marking_start, marking_end, marking_stops, marking_next}
use Rattle.training.proofs.mark_lines.Goals as goal

pub loop-j-init : goal.loop-j-init
loop-j-init c = marking_start (list_of c.args.b) c.args.o.kind (lines_there c.args.o.lines)

pub returns-then-code-ne0 : goal.returns-then-code-ne0
returns-then-code-ne0 c = marking_stops (list_of c.args.b) c.args.o.kind (lines_there c.args.o.lines) (list_of c.loop-j.book) c.loop-j.j c.loop-j.invariant (omega (arith, c.count_of-j-end.ensures.0, c.loop-j-test.true)) c.naming_at.ensures c.mark_line-s.ensures.0 c.if-code-ne0.true

pub loop-j-preserved : goal.loop-j-preserved
loop-j-preserved c = marking_next (list_of c.args.b) c.args.o.kind (lines_there c.args.o.lines) (list_of c.loop-j.book) c.loop-j.j c.loop-j.invariant (omega (arith, c.count_of-j-end.ensures.0, c.loop-j-test.true)) c.naming_at.ensures c.mark_line-s.ensures.0 c.if-code-ne0.false (c.mark_line-s.ensures.1 c.if-code-ne0.false)

pub returns : goal.returns
returns c = marking_end (list_of c.args.b) c.args.o.kind (lines_there c.args.o.lines) (list_of c.loop-j.book) c.loop-j.j c.loop-j.invariant (omega (arith, c.count_of-j-end.ensures.0, c.loop-j-test.false))
