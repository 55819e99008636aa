use mathlib.Core.Path.{sym, ◌∙◌}
use borrow.Author.Tests.{eqb-true, eqb-false}
use Rattle.message_pen.proofs.Laws.{istat_left, istat_fits, istat_wrote}
use Rattle.message_pen.proofs.istat_code.Goals as goal

pub returns-then-is_empty : goal.returns-then-is_empty
returns-then-is_empty c = istat_left c.part_at-istat.ensures _ _ (eqb-true _ _ (sym c.is_empty.ensures ∙ c.if-is_empty.true))

pub leaf-requires : goal.leaf-requires
leaf-requires c = istat_fits c.part_at-istat.ensures (eqb-false _ _ (sym c.is_empty.ensures ∙ c.if-is_empty.false)) c.requires.1

pub returns-else-is_empty : goal.returns-else-is_empty
returns-else-is_empty c = istat_wrote c.part_at-istat.ensures (eqb-false _ _ (sym c.is_empty.ensures ∙ c.if-is_empty.false)) c.leaf.ensures
