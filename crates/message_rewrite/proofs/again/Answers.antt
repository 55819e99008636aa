use Rattle.message_pen.proofs.Laws.{node_in, node_close, wrote_node, join_room, join_rest, wrote_join}
use Rattle.message_rewrite.specs.Again.{head_again, entries_again}
use Rattle.message_rewrite.proofs.again.Goals as goal

pub head_again-b-requires : goal.head_again-b-requires
head_again-b-requires c = (c.requires.1.head, join_room (head_again c.args.s.now c.args.v.now) (entries_again c.args.s.now c.args.v.now 80 c.args.n) (node_in c.requires.2 c.open_tag-a.ensures))

pub entries_again-c-requires : goal.entries_again-c-requires
entries_again-c-requires c = (c.requires.0, c.requires.1.entries, join_rest (head_again c.args.s.now c.args.v.now) (entries_again c.args.s.now c.args.v.now 80 c.args.n) (node_in c.requires.2 c.open_tag-a.ensures) c.head_again-b.ensures)

pub close_tag-requires : goal.close_tag-requires
close_tag-requires c = node_close c.requires.2 c.open_tag-a.ensures (wrote_join (head_again c.args.s.now c.args.v.now) (entries_again c.args.s.now c.args.v.now 80 c.args.n) c.head_again-b.ensures c.entries_again-c.ensures)

pub returns : goal.returns
returns c = wrote_node c.open_tag-a.ensures (wrote_join (head_again c.args.s.now c.args.v.now) (entries_again c.args.s.now c.args.v.now 80 c.args.n) c.head_again-b.ensures c.entries_again-c.ensures) c.close_tag.ensures
