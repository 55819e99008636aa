use Rattle.message_pen.proofs.Laws.{node_open, node_close, wrote_node, head_first_room, head_istat_room, head_last_room, head_all}
use Rattle.message_pen.proofs.head.Goals as goal

pub open_tag-a-requires : goal.open_tag-a-requires
open_tag-a-requires c = node_open c.requires.1

pub head_first-b-requires : goal.head_first-b-requires
head_first-b-requires c = (c.requires.0, head_first_room c.args.abi.now c.args.s.now c.args.g c.args.body.now c.requires.1 c.open_tag-a.ensures)

pub istat_code-c-requires : goal.istat_code-c-requires
istat_code-c-requires c = (c.requires.0.istat, head_istat_room c.args.abi.now c.args.s.now c.args.g c.args.body.now c.requires.1 c.open_tag-a.ensures c.head_first-b.ensures)

pub head_last-d-requires : goal.head_last-d-requires
head_last-d-requires c = (c.requires.0, head_last_room c.args.abi.now c.args.s.now c.args.g c.args.body.now c.requires.1 c.open_tag-a.ensures c.head_first-b.ensures c.istat_code-c.ensures)

pub close_tag-requires : goal.close_tag-requires
close_tag-requires c = node_close c.requires.1 c.open_tag-a.ensures (head_all c.args.abi.now c.args.s.now c.args.g c.args.body.now c.head_first-b.ensures c.istat_code-c.ensures c.head_last-d.ensures)

pub returns : goal.returns
returns c = wrote_node c.open_tag-a.ensures (head_all c.args.abi.now c.args.s.now c.args.g c.args.body.now c.head_first-b.ensures c.istat_code-c.ensures c.head_last-d.ensures) c.close_tag.ensures
