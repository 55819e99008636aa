use mathlib.Core.Path.{refl, sym, ◌∙◌}
use native.Mathlib.Omega.{arith}
use Rattle.order.specs.Ordinativo.{lines_there}
use Rattle.replacing.proofs.Walk.{earlier_none, earlier_hit, earlier_miss}
use Rattle.replacing.proofs.named_before.Goals as goal

pub loop-i-init : goal.loop-i-init
loop-i-init c = (omega arith, refl)

pub returns-then-same_line : goal.returns-then-same_line
returns-then-same_line c = sym (c.loop-i.invariant.1 ∙ earlier_hit c.args.o.kind (lines_there c.args.o.lines) c.loop-i.i c.args.m c.loop-i-test.true c.naming_at.ensures c.same_line.ensures c.if-same_line.true)

pub loop-i-preserved : goal.loop-i-preserved
loop-i-preserved c = (omega arith, c.loop-i.invariant.1 ∙ earlier_miss c.args.o.kind (lines_there c.args.o.lines) c.loop-i.i c.args.m c.loop-i-test.true c.naming_at.ensures c.same_line.ensures c.if-same_line.false)

pub returns : goal.returns
returns c = sym (c.loop-i.invariant.1 ∙ earlier_none c.args.o.kind (lines_there c.args.o.lines) c.loop-i.i c.args.m c.loop-i-test.false)
