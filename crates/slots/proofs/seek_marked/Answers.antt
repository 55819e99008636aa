use native.Mathlib.Omega.{arith}
use Rattle.slots.specs.Slots.{records_at}
use Rattle.slots.proofs.Filter.{seek_unmarked}
use Rattle.slots.proofs.seek_marked.Goals as goal

pub bounds-marks-mark_of : goal.bounds-marks-mark_of
bounds-marks-mark_of c = omega (arith, c.requires.1.marked.size)

pub returns-then-marks-mark_of-eq0 : goal.returns-then-marks-mark_of-eq0
returns-then-marks-mark_of-eq0 c = seek_unmarked (records_at c.args.t.now c.args.base c.args.n) c.args.key c.mark_of.result c.requires.1 c.mark_of.ensures.0 c.if-marks-mark_of-eq0.true
