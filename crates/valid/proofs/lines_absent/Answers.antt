use native.Mathlib.Omega.{arith}
use Rattle.valid.proofs.Lines.{past_same}
use Rattle.valid.proofs.lines_absent.Goals as goal

pub returns-in-1 : goal.returns-in-1
returns-in-1 c = past_same c.args.t.now c.args.at c.args.lines 1 (omega arith) c.absent_from.ensures

pub returns-in-2 : goal.returns-in-2
returns-in-2 c = past_same c.args.t.now c.args.at c.args.lines 2 (omega arith) c.absent_from-in-2.ensures

pub returns-in-3 : goal.returns-in-3
returns-in-3 c = past_same c.args.t.now c.args.at c.args.lines 3 (omega arith) c.absent_from-in-3.ensures

pub returns-in-4 : goal.returns-in-4
returns-in-4 c = past_same c.args.t.now c.args.at c.args.lines 4 (omega arith) c.absent_from-in-4.ensures

pub returns-in-5 : goal.returns-in-5
returns-in-5 c = past_same c.args.t.now c.args.at c.args.lines 5 (omega arith) c.absent_from-in-5.ensures

pub returns-in-6 : goal.returns-in-6
returns-in-6 c = past_same c.args.t.now c.args.at c.args.lines 6 (omega arith) c.absent_from-in-6.ensures

pub returns-in-7 : goal.returns-in-7
returns-in-7 c = past_same c.args.t.now c.args.at c.args.lines 7 (omega arith) c.absent_from-in-7.ensures
