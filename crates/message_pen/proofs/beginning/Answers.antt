use Rattle.message_pen.proofs.Laws.{leaf_room, wrote_alone, first_room, first_rest, wrote_first}
use Rattle.message_pen.proofs.beginning.Goals as goal

pub head-a-requires : goal.head-a-requires
head-a-requires c = (c.requires.0, first_room c.requires.1)

pub leaf_at-requires : goal.leaf_at-requires
leaf_at-requires c = (c.requires.0.flow, leaf_room (first_rest c.requires.1 c.head-a.ensures))

pub returns : goal.returns
returns c = wrote_first c.head-a.ensures (wrote_alone c.leaf_at.ensures)
