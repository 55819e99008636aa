use native.Mathlib.Omega.{arith}
use Rattle.days.proofs.Signed.{difference_fits, difference_is}
use Rattle.days.proofs.difference.Goals as goal

pub overflow_sub-result : goal.overflow_sub-result
overflow_sub-result c = difference_fits c.args.b c.args.a (omega arith) (omega arith)

pub returns : goal.returns
returns c = difference_is c.args.b c.args.a (omega arith) (omega arith)
