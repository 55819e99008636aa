use Rattle.scan.specs.Bytes.{is_white}
use Rattle.scan.proofs.Laws.{run_within}
use Rattle.rows.proofs.Operation.{told, told_on}
use Rattle.rows.proofs.is_replacing.Goals as goal

pub operation_at-requires : goal.operation_at-requires
operation_at-requires c = (rw c.white_end-i.ensures (run_within is_white _ _ c.requires.0))

pub is_replacing_from-requires : goal.is_replacing_from-requires
is_replacing_from-requires c = ((rw c.white_end-i.ensures (run_within is_white _ _ c.requires.0)), c.requires.1)

pub returns-in-Some : goal.returns-in-Some
returns-in-Some c = told _ _ _ c.white_end-i.ensures _ _ _ c.operation_at.ensures c.in-Some.is c.requires.2

pub returns-in-None : goal.returns-in-None
returns-in-None c = told_on _ _ _ c.white_end-i.ensures _ _ c.is_replacing_from.ensures
