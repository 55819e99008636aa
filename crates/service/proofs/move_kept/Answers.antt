use mathlib.Core.Path.{◌∙◌}
use Rattle.service.proofs.Totals.{movable_by, kept_by}
use Rattle.service.proofs.move_kept.Goals as goal

pub sum_moved-more_paid-requires : goal.sum_moved-more_paid-requires
sum_moved-more_paid-requires c = movable_by c.args.executing c.read8-paid.ensures c.line_cents.ensures.0 c.requires.1

pub sum_moved-more_collected-requires : goal.sum_moved-more_collected-requires
sum_moved-more_collected-requires c = movable_by c.args.executing c.read8-collected.ensures c.line_cents-2.ensures.0 c.requires.2

pub returns : goal.returns
returns c = c.settle.ensures ∙ kept_by c.args.t.now c.args.e c.args.executing c.args.kind c.args.cents c.read8-paid.ensures c.read8-collected.ensures c.line_cents.ensures.0 c.line_cents-2.ensures.0 c.sum_moved-more_paid.ensures c.sum_moved-more_collected.ensures
