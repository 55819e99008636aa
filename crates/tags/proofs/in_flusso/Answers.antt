use Rattle.std.specs.Prelude.{None}
use Rattle.tags.proofs.Laws.{told, told_order, ordered_roots, spelled_roots, headed}
use Rattle.schema.specs.declared.Parent.TheVariants.{FlussoOrdinativi}
use Rattle.tags.proofs.in_flusso.Goals as goal

pub returns-in-0-to-3 : goal.returns-in-0-to-3
returns-in-0-to-3 c = c.header_at.ensures FlussoOrdinativi headed.0

pub returns-in-4 : goal.returns-in-4
returns-in-4 c = told _ _ _ _ _ _ None _ spelled_roots.0 c.requires tt c.tag_at.ensures

pub returns-in_default : goal.returns-in_default
returns-in_default c = told_order _ _ _ _ _ ordered_roots.0 c.requires c.order_at.ensures
