use Rattle.std.specs.Prelude.{None}
use Rattle.tags.proofs.Laws.{told, told_order, ordered_roots, spelled_roots}
use Rattle.tags.proofs.in_opi.Goals as goal

pub returns-in-0 : goal.returns-in-0
returns-in-0 c = told _ _ _ _ _ _ None _ spelled_roots.1.0 c.requires tt c.tag_at.ensures

pub returns-in-1 : goal.returns-in-1
returns-in-1 c = told _ _ _ _ _ _ None _ spelled_roots.1.1.0 c.requires tt c.tag_at-in-1.ensures

pub returns-in_default : goal.returns-in_default
returns-in_default c = told_order _ _ _ _ _ ordered_roots.1 c.requires c.order_at.ensures
