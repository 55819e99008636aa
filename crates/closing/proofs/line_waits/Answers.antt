use Prim.Native.Nat.{◌+◌, ◌-◌, ◌*◌}
use mathlib.Core.Path.{sym, ◌∙◌}
use native.Mathlib.Omega.{arith}
use Rattle.slots.proofs.Laws.{records_next, records_end, records_none}
use Rattle.closing.specs.Closing.{waits}
use Rattle.closing.proofs.Laws.{any_first, any_later, any_nil}
use Rattle.closing.proofs.line_waits.Goals as goal

pub returns-then-t-at-eq0 : goal.returns-then-t-at-eq0
returns-then-t-at-eq0 c = sym (c.loop-i.invariant ∙ any_nil (waits c.args.year) (records_end c.args.t.now (c.args.base + 96 * c.loop-i.i) (c.args.n - c.loop-i.i) c.if-t-at-eq0.true))

pub returns-then-waits_at : goal.returns-then-waits_at
returns-then-waits_at c = sym (c.loop-i.invariant ∙ any_first (waits c.args.year) (records_next c.args.t.now c.args.base c.args.n c.loop-i.i (omega arith) c.if-t-at-eq0.false) (sym c.waits_at.ensures ∙ c.if-waits_at.true))

pub loop-i-preserved : goal.loop-i-preserved
loop-i-preserved c = (c.loop-i.invariant ∙ any_later (waits c.args.year) (records_next c.args.t.now c.args.base c.args.n c.loop-i.i (omega arith) c.if-t-at-eq0.false) (sym c.waits_at.ensures ∙ c.if-waits_at.false))

pub returns : goal.returns
returns c = sym (c.loop-i.invariant ∙ any_nil (waits c.args.year) (records_none c.args.t.now (c.args.base + 96 * c.loop-i.i) (c.args.n - c.loop-i.i) (omega arith)))
