use Rattle.std.proofs.Common.{refl, sym, arith}
use Rattle.valid.proofs.Lines.{past_more, past_done}
use Rattle.valid.proofs.absent_from.Goals as goal

pub loop-k-preserved : goal.loop-k-preserved
loop-k-preserved c = past_more c.args.t.now c.args.at c.loop-k.k (omega arith) (omega arith) c.loop-k.right c.loop-k.invariant refl c.line_absent-right.ensures

pub returns : goal.returns
returns c = sym (past_done c.args.t.now c.args.at c.loop-k.k c.loop-k.right (omega arith) c.loop-k.invariant)
