use Rattle.trail.proofs.Laws.{rows_keeps}
use Rattle.trail.proofs.keep_rows.Goals as goal

pub keep-requires : goal.keep-requires
keep-requires c = rows_keeps _ _ c.args.p c.args.from c.args.r _ _ c.parent_code-parent.ensures c.parent_code-holds.ensures c.if-parent-eq0.false c.if-holds-eq0.false c.requires.0 c.requires.1
