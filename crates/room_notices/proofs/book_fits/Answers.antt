use mathlib.Core.Path.{refl, sym, ◌∙◌}
use native.Mathlib.Omega.{arith}
use borrow.Author.Tests.{not-true, not-false}
use Rattle.training.specs.Training.{list_of}
use Rattle.room_notices.proofs.Laws.{fits_stop, fits_go, fits_end}
use Rattle.room_notices.proofs.book_fits.Goals as goal

pub loop-i-init : goal.loop-i-init
loop-i-init c = (omega arith, refl)

pub returns-then-not-record_fits : goal.returns-then-not-record_fits
returns-then-not-record_fits c = sym (c.loop-i.invariant.1 ∙ fits_stop (list_of c.args.b) c.loop-i.i (omega (arith, c.size-i-end.ensures, c.loop-i-test.true)) c.order_at.ensures c.record_fits.ensures (not-true _ c.if-not-record_fits.true-raw))

pub loop-i-preserved : goal.loop-i-preserved
loop-i-preserved c = (omega (arith, c.loop-i-test.true), c.loop-i.invariant.1 ∙ fits_go (list_of c.args.b) c.loop-i.i (omega (arith, c.size-i-end.ensures, c.loop-i-test.true)) c.order_at.ensures c.record_fits.ensures (not-false _ c.if-not-record_fits.false-raw))

pub returns : goal.returns
returns c = sym (c.loop-i.invariant.1 ∙ fits_end (list_of c.args.b) c.loop-i.i (omega (arith, c.size-i-end.ensures, c.loop-i-test.false)))
