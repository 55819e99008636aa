use Rattle.std.proofs.Common.{◌+◌, ◌-◌, ◌*◌, arith, sym, ◌∙◌}
use Rattle.body.proofs.Later.{not_later, later_on, later_end}
use Rattle.body.proofs.slots_later.Goals as goal

pub returns-then-read2-year : goal.returns-then-read2-year
returns-then-read2-year c = sym (c.loop-i.invariant ∙ not_later c.args.t.now c.args.base c.args.n c.loop-i.i c.read2.ensures.0 (omega arith) c.if-read2-year.true)

pub loop-i-preserved : goal.loop-i-preserved
loop-i-preserved c = c.loop-i.invariant ∙ later_on c.args.t.now c.args.base c.args.n c.loop-i.i c.read2.ensures.0 (omega arith) c.if-read2-year.false

pub returns : goal.returns
returns c = sym (c.loop-i.invariant ∙ later_end c.args.t.now (c.args.base + 96 * c.loop-i.i) (c.args.n - c.loop-i.i) c.args.year (omega arith))
