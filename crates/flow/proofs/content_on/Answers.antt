use mathlib.Core.Path.{sym, ◌∙◌}
use Rattle.flow.proofs.content_on.Goals as goal

pub returns-else-reached-eq0 : goal.returns-else-reached-eq0
returns-else-reached-eq0 c = (c.children.ensures.0 ∙ sym (c.requires.at_value c.if-reached-eq0.false), c.children.ensures.1)
