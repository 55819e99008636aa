use Rattle.message_pen.proofs.Laws.{leaf_room, leaf_rest, wrote_leaf, wrote_alone}
use Rattle.message_pen.proofs.head_first.Goals as goal

pub leaf-a-requires : goal.leaf-a-requires
leaf-a-requires c = leaf_room c.requires.1

pub leaf_at-b-requires : goal.leaf_at-b-requires
leaf_at-b-requires c = (c.requires.0.created, leaf_room (leaf_rest c.requires.1 c.leaf-a.ensures))

pub leaf_at-c-requires : goal.leaf_at-c-requires
leaf_at-c-requires c = (c.requires.0.ente, leaf_room (leaf_rest (leaf_rest c.requires.1 c.leaf-a.ensures) c.leaf_at-b.ensures))

pub leaf_at-requires : goal.leaf_at-requires
leaf_at-requires c = (c.requires.0.described, leaf_room (leaf_rest (leaf_rest (leaf_rest c.requires.1 c.leaf-a.ensures) c.leaf_at-b.ensures) c.leaf_at-c.ensures))

pub returns : goal.returns
returns c = wrote_leaf c.leaf-a.ensures (wrote_leaf c.leaf_at-b.ensures (wrote_leaf c.leaf_at-c.ensures (wrote_alone c.leaf_at.ensures)))
