use borrow.Author.Tests.{eq-eqb, ne_eqb}
use Rattle.message_pen.proofs.number.Goals as goal

pub number_leaf-requires : goal.number_leaf-requires
number_leaf-requires c = rw (eq-eqb _ _ c.if-kind-eq2.true) at c.requires

pub returns-then-kind-eq2 : goal.returns-then-kind-eq2
returns-then-kind-eq2 c = rw (eq-eqb _ _ c.if-kind-eq2.true) c.number_leaf.ensures

pub number_leaf-requires-else-kind-eq2 : goal.number_leaf-requires-else-kind-eq2
number_leaf-requires-else-kind-eq2 c = rw (ne_eqb _ _ c.if-kind-eq2.false) at c.requires

pub returns-else-kind-eq2 : goal.returns-else-kind-eq2
returns-else-kind-eq2 c = rw (ne_eqb _ _ c.if-kind-eq2.false) c.number_leaf-else-kind-eq2.ensures
