use native.Mathlib.Omega.{arith}
use Rattle.trail.proofs.Laws.{tells_none, tells_day}
use Rattle.trail.proofs.day_worth.Goals as goal

pub returns-then-d-gt65535 : goal.returns-then-d-gt65535
returns-then-d-gt65535 c = tells_none _

pub returns-then-d-gt255 : goal.returns-then-d-gt255
returns-then-d-gt255 c = tells_none _

pub returns-then-d-gt255-2 : goal.returns-then-d-gt255-2
returns-then-d-gt255-2 c = tells_none _

pub returns : goal.returns
returns c = tells_day _ (omega (arith, c.if-d-gt255.false)) (omega (arith, c.if-d-gt255-2.false))
