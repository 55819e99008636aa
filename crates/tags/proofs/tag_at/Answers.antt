use Rattle.scan.proofs.Laws.{then_is, else_is}
use mathlib.Core.Path.{sym, refl}
use Rattle.tags.proofs.tag_at.Goals as goal

pub returns-then-stands : goal.returns-then-stands
returns-then-stands c = sym (then_is _ _ c.stands.ensures c.if-stands.true)

pub returns-else-stands : goal.returns-else-stands
returns-else-stands c = sym (else_is _ _ c.stands.ensures c.if-stands.false refl)
