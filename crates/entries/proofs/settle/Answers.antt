use native.Mathlib.Omega.{arith}
use Rattle.entries.proofs.Laws.{settled_by}
use Rattle.entries.proofs.settle.Goals as goal

pub returns : goal.returns
returns c = settled_by c.args.t.now c.write8.new.s c.write8-2.new.s c.args.at c.args.paid c.args.collected (omega arith) c.write8.ensures c.write8-2.ensures
