use Rattle.trail.specs.Trail.{Trailed}
use Rattle.trail.proofs.Laws.{rows_kept_lem}
use Rattle.trail.proofs.rows_kept.Goals as goal

pub returns : goal.returns
unfolding Trailed
returns c = rows_kept_lem _ _ c.args.p _ _ _ _ _ c.found_at-e.ensures c.parent_code-parent.ensures c.parent_at.ensures c.requires c.if-e-from.false c.if-parent-eq0.false c.if-e-parent.false c.if-e-ne7.false
