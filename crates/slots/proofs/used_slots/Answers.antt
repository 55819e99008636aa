use Rattle.std.proofs.Common.{◌+◌, ◌-◌, ◌*◌, arith}
use Rattle.slots.proofs.Laws.{used_end, used_none, used_next}
use Rattle.slots.proofs.used_slots.Goals as goal

pub returns-then-t-base-eq0 : goal.returns-then-t-base-eq0
returns-then-t-base-eq0 c = omega (arith, used_end c.args.t.now (c.args.base + 96 * c.loop-i.i) (c.args.n - c.loop-i.i) c.if-t-base-eq0.true)

pub loop-i-preserved : goal.loop-i-preserved
loop-i-preserved c = omega (arith, used_next c.args.t.now c.args.base c.args.n c.loop-i.i (omega arith) c.if-t-base-eq0.false)

pub returns : goal.returns
returns c = omega (arith, used_none c.args.t.now (c.args.base + 96 * c.loop-i.i) (c.args.n - c.loop-i.i) (omega arith))
