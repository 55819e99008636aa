use mathlib.Core.Path.{sym, ◌∙◌}
use native.Mathlib.Omega.{arith}
use borrow.Author.Tests.{not-true, not-false}
use Rattle.days.proofs.Signed.{difference_fits, difference_is}
use Rattle.training.specs.Training.{list_of}
use Rattle.room_notices.proofs.Laws.{totals_unfit, totals_fit}
use Rattle.room_notices.proofs.book_totals.Goals as goal

pub returns-then-not-book_fits : goal.returns-then-not-book_fits
returns-then-not-book_fits c = totals_unfit (list_of c.args.b) c.book_fits.ensures (not-true _ c.if-not-book_fits.true-raw) c.no_totals.ensures

pub cents_of-paid-requires : goal.cents_of-paid-requires
cents_of-paid-requires c = sym c.book_fits.ensures ∙ not-false _ c.if-not-book_fits.false-raw

pub cents_of-collected-requires : goal.cents_of-collected-requires
cents_of-collected-requires c = sym c.book_fits.ensures ∙ not-false _ c.if-not-book_fits.false-raw

pub overflow_sub-result : goal.overflow_sub-result
overflow_sub-result c = difference_fits c.cents_of-collected.result c.cents_of-paid.result (omega (arith, c.cents_of-collected.ensures)) (omega (arith, c.cents_of-paid.ensures))

pub returns : goal.returns
returns c = totals_fit (list_of c.args.b) c.book_fits.ensures (not-false _ c.if-not-book_fits.false-raw) c.size.ensures.0 c.cents_of-paid.ensures.0 c.cents_of-collected.ensures.0 (difference_is c.cents_of-collected.result c.cents_of-paid.result (omega (arith, c.cents_of-collected.ensures)) (omega (arith, c.cents_of-paid.ensures)))
