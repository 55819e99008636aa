use Rattle.message_pen.proofs.Laws.{leaf_room, leaf_rest, wrote_leaf, wrote_alone}
use Rattle.message_pen.proofs.named.Goals as goal

pub leaf-a-requires : goal.leaf-a-requires
leaf-a-requires c = leaf_room c.requires

pub fixed_leaf-requires : goal.fixed_leaf-requires
fixed_leaf-requires c = leaf_room (leaf_rest c.requires c.leaf-a.ensures)

pub returns : goal.returns
returns c = wrote_leaf c.leaf-a.ensures (wrote_alone c.fixed_leaf.ensures)
