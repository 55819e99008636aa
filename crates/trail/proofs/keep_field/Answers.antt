use Rattle.trail.proofs.Laws.{field_keeps}
use Rattle.trail.proofs.keep_field.Goals as goal

pub keep-requires : goal.keep-requires
keep-requires c = field_keeps _ _ c.args.p c.args.f c.args.from c.args.after c.args.v _ _ _ c.parent_code-parent.ensures c.form_code-holds.ensures c.worth_of-w.ensures c.if-parent-eq0.false c.if-holds-eq0.false c.if-w-eq0.false c.requires.0 c.requires.1
