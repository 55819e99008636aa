use borrow.Author.Tests.{eq-eqb, ne_eqb}
use Rattle.message_pen.proofs.date.Goals as goal

pub date_leaf-requires : goal.date_leaf-requires
date_leaf-requires c = rw (eq-eqb _ _ c.if-kind-eq2.true) at c.requires

pub returns-then-kind-eq2 : goal.returns-then-kind-eq2
returns-then-kind-eq2 c = rw (eq-eqb _ _ c.if-kind-eq2.true) c.date_leaf.ensures

pub date_leaf-requires-else-kind-eq2 : goal.date_leaf-requires-else-kind-eq2
date_leaf-requires-else-kind-eq2 c = rw (ne_eqb _ _ c.if-kind-eq2.false) at c.requires

pub returns-else-kind-eq2 : goal.returns-else-kind-eq2
returns-else-kind-eq2 c = rw (ne_eqb _ _ c.if-kind-eq2.false) c.date_leaf-else-kind-eq2.ensures
