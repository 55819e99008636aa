use native.Mathlib.Omega.{arith}
use Rattle.training.specs.Training.{list_of}
use Rattle.room_notices.proofs.Laws.{amounts_at, counted_none, counted_same, counted_other, counted_all}
use Rattle.room_notices.proofs.cents_of.Goals as goal
use Rattle.room_notices.proofs.cents_of.Goals.{then-r-kind, else-r-kind}

pub loop-i-init : goal.loop-i-init
loop-i-init c = (omega arith, counted_none (list_of c.args.b) c.args.kind)

pub record_cents-cents-requires : goal.record_cents-cents-requires
record_cents-cents-requires c = amounts_at (list_of c.args.b) c.loop-i.i c.requires (omega (arith, c.size-i-end.ensures, c.loop-i-test.true)) c.order_at-r.ensures

pub overflow_add-cents : goal.overflow_add-cents
overflow_add-cents c = omega (arith, c.record_cents-cents.ensures, c.loop-i.invariant.1.few, c.size-i-end.ensures, c.loop-i-test.true)

pub loop-i-preserved : goal.loop-i-preserved
loop-i-preserved c = (omega (arith, c.loop-i-test.true), elim c.if-r-kind.branch [ then-r-kind w ↦ counted_same (list_of c.args.b) c.args.kind c.loop-i.i c.loop-i.cents c.loop-i.invariant.1 (omega (arith, c.size-i-end.ensures, c.loop-i-test.true)) c.order_at-r.ensures w.if-r-kind.true w.record_cents-cents.ensures w.cents-is | else-r-kind w ↦ counted_other (list_of c.args.b) c.args.kind c.loop-i.i c.loop-i.cents c.loop-i.invariant.1 (omega (arith, c.size-i-end.ensures, c.loop-i-test.true)) c.order_at-r.ensures w.if-r-kind.false w.cents-is ])

pub returns : goal.returns
returns c = (counted_all (list_of c.args.b) c.args.kind c.loop-i.i c.loop-i.cents c.loop-i.invariant.1 (omega (arith, c.size-i-end.ensures, c.loop-i-test.false)), omega (arith, c.loop-i.invariant.1.few, c.loop-i.invariant.0, c.size-i-end.ensures))
