use native.Mathlib.Omega.{arith}
use Rattle.training.specs.Training.{list_of}
use Rattle.training.proofs.Laws.{moved_low, moved_first, notice_moved, notice_unmoved}
use Rattle.training.proofs.take_notice.Goals as goal

pub overflow_sub-k : goal.overflow_sub-k
overflow_sub-k c = omega (arith, moved_first (list_of c.args.b) c.args.executing c.args.key c.args.line c.judge_notice.ensures c.in-Ok.is)

pub order_at-requires : goal.order_at-requires
order_at-requires c = moved_low (list_of c.args.b) c.args.executing c.args.key c.args.line c.judge_notice.ensures c.in-Ok.is

pub replaced-requires : goal.replaced-requires
replaced-requires c = moved_low (list_of c.args.b) c.args.executing c.args.key c.args.line c.judge_notice.ensures c.in-Ok.is

pub returns-in-Ok : goal.returns-in-Ok
returns-in-Ok c = notice_moved (list_of c.args.b) c.args.executing c.args.key c.args.line c.judge_notice.ensures c.in-Ok.is c.order_at.ensures c.moved_to.ensures c.with_state-w.ensures c.replaced.ensures

pub returns-in-Err : goal.returns-in-Err
returns-in-Err c = notice_unmoved (list_of c.args.b) c.args.executing c.args.key c.args.line c.judge_notice.ensures c.in-Err.is
