use Rattle.message_pen.proofs.Laws.{leaf_room, leaf_rest, wrote_leaf, wrote_alone}
use Rattle.message_pen.proofs.order.Goals as goal

pub number-a-requires : goal.number-a-requires
number-a-requires c = leaf_room c.requires

pub date-b-requires : goal.date-b-requires
date-b-requires c = leaf_room (leaf_rest c.requires c.number-a.ensures)

pub amount_leaf-requires : goal.amount_leaf-requires
amount_leaf-requires c = leaf_room (leaf_rest (leaf_rest c.requires c.number-a.ensures) c.date-b.ensures)

pub returns : goal.returns
returns c = wrote_leaf c.number-a.ensures (wrote_leaf c.date-b.ensures (wrote_alone c.amount_leaf.ensures))
