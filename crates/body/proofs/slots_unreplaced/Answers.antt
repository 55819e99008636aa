use Rattle.std.proofs.Common.{◌+◌, ◌-◌, ◌*◌, arith, sym, ◌∙◌}
use Rattle.body.proofs.Replaced.{some_first, none_later, none_end}
use Rattle.body.proofs.slots_unreplaced.Goals as goal

pub returns-then-contains : goal.returns-then-contains
returns-then-contains c = sym (c.loop-i.invariant ∙ some_first c.args.t.now c.args.base c.args.n c.loop-i.i c.record_at-r.ensures c.contains.ensures.value (omega arith) c.if-contains.true)

pub loop-i-preserved : goal.loop-i-preserved
loop-i-preserved c = c.loop-i.invariant ∙ none_later c.args.t.now c.args.base c.args.n c.loop-i.i c.record_at-r.ensures c.contains.ensures.value (omega arith) c.if-contains.false

pub returns : goal.returns
returns c = sym (c.loop-i.invariant ∙ none_end c.args.t.now (c.args.base + 96 * c.loop-i.i) (c.args.n - c.loop-i.i) (omega arith))
