use Prim.Native.Nat.{◌+◌, ◌-◌, ◌*◌}
use mathlib.Core.Path.{sym, ◌∙◌}
use native.Mathlib.Omega.{arith}
use Rattle.slots.proofs.Laws.{records_next, records_end, records_none}
use Rattle.closing.specs.Closing.{of_earlier}
use Rattle.closing.proofs.Laws.{any_first, any_later, any_nil, year_earlier, year_later}
use Rattle.closing.proofs.earlier_remains.Goals as goal

pub returns-then-t-at-eq0 : goal.returns-then-t-at-eq0
returns-then-t-at-eq0 c = sym (c.loop-i.invariant ∙ any_nil (of_earlier c.args.year) (records_end c.args.t.now (c.args.base + 96 * c.loop-i.i) (c.args.n - c.loop-i.i) c.if-t-at-eq0.true))

pub returns-then-read2-year : goal.returns-then-read2-year
returns-then-read2-year c = sym (c.loop-i.invariant ∙ any_first (of_earlier c.args.year) (records_next c.args.t.now c.args.base c.args.n c.loop-i.i (omega arith) c.if-t-at-eq0.false) (year_earlier c.args.t.now (c.args.base + 96 * c.loop-i.i) c.args.year c.read2.ensures.0 c.if-read2-year.true))

pub loop-i-preserved : goal.loop-i-preserved
loop-i-preserved c = (c.loop-i.invariant ∙ any_later (of_earlier c.args.year) (records_next c.args.t.now c.args.base c.args.n c.loop-i.i (omega arith) c.if-t-at-eq0.false) (year_later c.args.t.now (c.args.base + 96 * c.loop-i.i) c.args.year c.read2.ensures.0 (λ z. omega (arith, c.if-read2-year.false))))

pub returns : goal.returns
returns c = sym (c.loop-i.invariant ∙ any_nil (of_earlier c.args.year) (records_none c.args.t.now (c.args.base + 96 * c.loop-i.i) (c.args.n - c.loop-i.i) (omega arith)))
