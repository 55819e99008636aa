use Rattle.trail.proofs.Laws.{field_kept_lem}
use Rattle.trail.proofs.field_kept.Goals as goal

pub returns : goal.returns
returns c = field_kept_lem _ _ c.args.p c.args.f _ _ _ _ _ _ c.found_at-e.ensures c.parent_code-parent.ensures c.form_code-holds.ensures c.value_at.ensures c.requires c.if-e-from.false c.if-parent-eq0.false c.if-e-parent.false c.if-holds-eq0.false c.if-e-holds.false c.if-e-eq0.false c.if-e-ge7.false
