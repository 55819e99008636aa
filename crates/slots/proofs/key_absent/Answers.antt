use Rattle.std.proofs.Common.{◌+◌, ◌-◌, ◌*◌, sym, ap, ◌∙◌, arith}
use Rattle.ranges.specs.Ranges.{is_nothing}
use Rattle.slots.proofs.Laws.{slots_next, slots_none, find_first, find_later, find_nil}
use Rattle.slots.proofs.key_absent.Goals as goal

pub returns-then-hit_at : goal.returns-then-hit_at
returns-then-hit_at c = let i = c.loop-i.i in
    sym (ap is_nothing (c.loop-i.invariant ∙ find_first (slots_next c.args.t.now c.args.base c.args.n i (omega arith)) i c.args.key (cc)))

pub loop-i-preserved : goal.loop-i-preserved
loop-i-preserved c = let i = c.loop-i.i in
    c.loop-i.invariant ∙ find_later (slots_next c.args.t.now c.args.base c.args.n i (omega arith)) i c.args.key (cc)

pub returns : goal.returns
returns c = let i = c.loop-i.i in
    sym (ap is_nothing (c.loop-i.invariant ∙ find_nil (slots_none c.args.t.now (c.args.base + 96 * i) (c.args.n - i) (omega arith)) i c.args.key))
