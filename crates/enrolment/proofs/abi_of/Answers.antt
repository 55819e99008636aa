use native.Mathlib.Omega.{arith}
use Rattle.enrolment.proofs.Laws.{abi_is}
use Rattle.enrolment.proofs.abi_of.Goals as goal

pub returns : goal.returns
returns c = abi_is c.args.t.now (omega arith)
