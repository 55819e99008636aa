use borrow.Author.Tests.{eq-eqb, ne_eqb}
use Rattle.message_pen.proofs.kind_element.Goals as goal

pub leaf-requires : goal.leaf-requires
leaf-requires c = rw (eq-eqb _ _ c.if-kind-eq2.true) at c.requires

pub returns-then-kind-eq2 : goal.returns-then-kind-eq2
returns-then-kind-eq2 c = rw (eq-eqb _ _ c.if-kind-eq2.true) c.leaf.ensures

pub leaf-requires-else-kind-eq2 : goal.leaf-requires-else-kind-eq2
leaf-requires-else-kind-eq2 c = rw (ne_eqb _ _ c.if-kind-eq2.false) at c.requires

pub returns-else-kind-eq2 : goal.returns-else-kind-eq2
returns-else-kind-eq2 c = rw (ne_eqb _ _ c.if-kind-eq2.false) c.leaf-else-kind-eq2.ensures
