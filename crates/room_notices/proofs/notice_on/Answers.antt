use mathlib.Core.Path.{sym, ◌∙◌}
use borrow.Author.Tests.{not-true, not-false}
use Rattle.training.specs.Training.{list_of}
use Rattle.room_notices.proofs.Laws.{eight, on_unfit, on_fit}
use Rattle.room_notices.proofs.notice_on.Goals as goal

pub returns-then-not-book_fits : goal.returns-then-not-book_fits
returns-then-not-book_fits c = on_unfit c.args.executing c.args.key c.args.line (list_of c.args.b) c.book_fits.ensures (not-true _ c.if-not-book_fits.true-raw)

pub take_notice-s-requires : goal.take_notice-s-requires
take_notice-s-requires c = eight (list_of c.args.b) (sym c.book_fits.ensures ∙ not-false _ c.if-not-book_fits.false-raw)

pub returns : goal.returns
returns c = on_fit c.args.executing c.args.key c.args.line (list_of c.args.b) c.book_fits.ensures (not-false _ c.if-not-book_fits.false-raw) c.take_notice-s.ensures.0 c.take_notice-s.ensures.1 c.answer_of.ensures
