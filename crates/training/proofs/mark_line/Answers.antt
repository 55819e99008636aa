use native.Mathlib.Omega.{arith}
use Rattle.training.specs.Training.{list_of}
use Rattle.training.proofs.Laws.{found_low, marks_absent, marks_refused, marks_first, marks_replaced}
use Rattle.training.proofs.mark_line.Goals as goal

pub returns-in_default : goal.returns-in_default
returns-in_default c = marks_absent (list_of c.args.b) c.args.m c.find.ensures (list_of c.args.b) c.in_default.is

pub order_at-r-requires : goal.order_at-r-requires
order_at-r-requires c = found_low (list_of c.args.b) c.args.m.key c.find.ensures c.in-Some.is

pub returns-then-code-ne0 : goal.returns-then-code-ne0
returns-then-code-ne0 c = marks_refused (list_of c.args.b) c.args.m c.find.ensures c.in-Some.is c.order_at-r.ensures c.named_in-code.ensures (list_of c.args.b) c.if-code-ne0.true

pub overflow_sub-k : goal.overflow_sub-k
overflow_sub-k c = omega (arith, marks_first (list_of c.args.b) c.args.m c.find.ensures c.in-Some.is c.order_at-r.ensures c.named_in-code.ensures c.if-code-ne0.false)

pub replaced-requires : goal.replaced-requires
replaced-requires c = found_low (list_of c.args.b) c.args.m.key c.find.ensures c.in-Some.is

pub returns : goal.returns
returns c = marks_replaced (list_of c.args.b) c.args.m c.find.ensures c.in-Some.is c.order_at-r.ensures c.named_in-code.ensures c.if-code-ne0.false c.with_state.ensures c.replaced.ensures
