use borrow.Author.Tests.{eq-eqb, ne_eqb}
use Rattle.message_pen.proofs.Laws.{wrote_none, leaf_room, leaf_rest, wrote_leaf, wrote_alone, first_room, wrote_first}
use Rattle.message_pen.proofs.outcome.Goals as goal

pub accepted_word-a-requires : goal.accepted_word-a-requires
accepted_word-a-requires c = leaf_room (rw (eq-eqb _ _ c.if-v-eq0.true) at c.requires)

pub leaf-requires : goal.leaf-requires
leaf-requires c = leaf_room (leaf_rest (rw (eq-eqb _ _ c.if-v-eq0.true) at c.requires) c.accepted_word-a.ensures)

pub returns-then-v-eq0 : goal.returns-then-v-eq0
returns-then-v-eq0 c = rw (eq-eqb _ _ c.if-v-eq0.true) (wrote_leaf c.accepted_word-a.ensures (wrote_alone c.leaf.ensures))

pub refused_word-b-requires : goal.refused_word-b-requires
refused_word-b-requires c = leaf_room (rw (ne_eqb _ _ c.if-v-eq0.false) at c.requires)

pub leaf-c-requires : goal.leaf-c-requires
leaf-c-requires c = leaf_room (leaf_rest (rw (ne_eqb _ _ c.if-v-eq0.false) at c.requires) c.refused_word-b.ensures)

pub error-requires : goal.error-requires
error-requires c = first_room (leaf_rest (leaf_rest (rw (ne_eqb _ _ c.if-v-eq0.false) at c.requires) c.refused_word-b.ensures) c.leaf-c.ensures)

pub returns : goal.returns
returns c = rw (ne_eqb _ _ c.if-v-eq0.false) (wrote_leaf c.refused_word-b.ensures (wrote_leaf c.leaf-c.ensures (wrote_first c.error.ensures (wrote_none _ _))))
