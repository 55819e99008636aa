use mathlib.Core.Path.{refl, sym, ◌∙◌}
use native.Mathlib.Omega.{arith}
use Rattle.training.specs.Training.{list_of}
use Rattle.training.proofs.Laws.{found_here, found_later, found_none}
use Rattle.training.proofs.find.Goals as goal

pub loop-i-init : goal.loop-i-init
loop-i-init c = (omega arith, refl)

pub returns-then-key_is : goal.returns-then-key_is
returns-then-key_is c = sym (c.loop-i.invariant.1 ∙ found_here (list_of c.args.b) c.loop-i.i c.args.key (omega (arith, c.size-i-end.ensures, c.loop-i-test.true)) c.order_at.ensures c.key_is.ensures c.if-key_is.true)

pub loop-i-preserved : goal.loop-i-preserved
loop-i-preserved c = (omega (arith, c.loop-i-test.true), c.loop-i.invariant.1 ∙ found_later (list_of c.args.b) c.loop-i.i c.args.key (omega (arith, c.size-i-end.ensures, c.loop-i-test.true)) c.order_at.ensures c.key_is.ensures c.if-key_is.false)

pub returns : goal.returns
returns c = sym (c.loop-i.invariant.1 ∙ found_none (list_of c.args.b) c.loop-i.i c.args.key (omega (arith, c.size-i-end.ensures, c.loop-i-test.false)))
