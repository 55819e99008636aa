use Rattle.message_pen.proofs.Laws.{leaf_room, leaf_rest, wrote_leaf, wrote_alone, node_open, node_in, node_close, wrote_node}
use Rattle.message_pen.proofs.error.Goals as goal

pub open_tag-a-requires : goal.open_tag-a-requires
open_tag-a-requires c = node_open c.requires

pub fixed_leaf-b-requires : goal.fixed_leaf-b-requires
fixed_leaf-b-requires c = leaf_room (node_in c.requires c.open_tag-a.ensures)

pub fixed_leaf-c-requires : goal.fixed_leaf-c-requires
fixed_leaf-c-requires c = leaf_room (leaf_rest (node_in c.requires c.open_tag-a.ensures) c.fixed_leaf-b.ensures)

pub element-d-requires : goal.element-d-requires
element-d-requires c = leaf_room (leaf_rest (leaf_rest (node_in c.requires c.open_tag-a.ensures) c.fixed_leaf-b.ensures) c.fixed_leaf-c.ensures)

pub close_tag-requires : goal.close_tag-requires
close_tag-requires c = node_close c.requires c.open_tag-a.ensures (wrote_leaf c.fixed_leaf-b.ensures (wrote_leaf c.fixed_leaf-c.ensures (wrote_alone c.element-d.ensures)))

pub returns : goal.returns
returns c = wrote_node c.open_tag-a.ensures (wrote_leaf c.fixed_leaf-b.ensures (wrote_leaf c.fixed_leaf-c.ensures (wrote_alone c.element-d.ensures))) c.close_tag.ensures
