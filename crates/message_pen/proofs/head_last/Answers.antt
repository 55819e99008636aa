use Rattle.message_pen.proofs.Laws.{leaf_room, leaf_rest, wrote_leaf, wrote_alone}
use Rattle.message_pen.proofs.head_last.Goals as goal

pub leaf_at-a-requires : goal.leaf_at-a-requires
leaf_at-a-requires c = (c.requires.0.fiscal, leaf_room c.requires.1)

pub leaf_at-b-requires : goal.leaf_at-b-requires
leaf_at-b-requires c = (c.requires.0.tramite, leaf_room (leaf_rest c.requires.1 c.leaf_at-a.ensures))

pub leaf_at-c-requires : goal.leaf_at-c-requires
leaf_at-c-requires c = (c.requires.0.bank, leaf_room (leaf_rest (leaf_rest c.requires.1 c.leaf_at-a.ensures) c.leaf_at-b.ensures))

pub leaf-requires : goal.leaf-requires
leaf-requires c = leaf_room (leaf_rest (leaf_rest (leaf_rest c.requires.1 c.leaf_at-a.ensures) c.leaf_at-b.ensures) c.leaf_at-c.ensures)

pub returns : goal.returns
returns c = wrote_leaf c.leaf_at-a.ensures (wrote_leaf c.leaf_at-b.ensures (wrote_leaf c.leaf_at-c.ensures (wrote_alone c.leaf.ensures)))
