use Rattle.message_pen.specs.Parts.{join, named_out, order_out, outcome_out}
use Rattle.message_pen.proofs.Laws.{node_open, node_in, node_close, wrote_node, join_room, join_rest, wrote_join}
use Rattle.message_pen.proofs.entry_named.Goals as goal

pub open_tag-a-requires : goal.open_tag-a-requires
open_tag-a-requires c = node_open c.requires

pub named-b-requires : goal.named-b-requires
named-b-requires c = join_room (named_out c.args.flow.now c.args.v.esercizio) (join (order_out c.args.v) (outcome_out c.args.v c.args.time.now)) (node_in c.requires c.open_tag-a.ensures)

pub order-c-requires : goal.order-c-requires
order-c-requires c = join_room (order_out c.args.v) (outcome_out c.args.v c.args.time.now) (join_rest (named_out c.args.flow.now c.args.v.esercizio) (join (order_out c.args.v) (outcome_out c.args.v c.args.time.now)) (node_in c.requires c.open_tag-a.ensures) c.named-b.ensures)

pub outcome-d-requires : goal.outcome-d-requires
outcome-d-requires c = join_rest (order_out c.args.v) (outcome_out c.args.v c.args.time.now) (join_rest (named_out c.args.flow.now c.args.v.esercizio) (join (order_out c.args.v) (outcome_out c.args.v c.args.time.now)) (node_in c.requires c.open_tag-a.ensures) c.named-b.ensures) c.order-c.ensures

pub close_tag-requires : goal.close_tag-requires
close_tag-requires c = node_close c.requires c.open_tag-a.ensures (wrote_join (named_out c.args.flow.now c.args.v.esercizio) (join (order_out c.args.v) (outcome_out c.args.v c.args.time.now)) c.named-b.ensures (wrote_join (order_out c.args.v) (outcome_out c.args.v c.args.time.now) c.order-c.ensures c.outcome-d.ensures))

pub returns : goal.returns
returns c = wrote_node c.open_tag-a.ensures (wrote_join (named_out c.args.flow.now c.args.v.esercizio) (join (order_out c.args.v) (outcome_out c.args.v c.args.time.now)) c.named-b.ensures (wrote_join (order_out c.args.v) (outcome_out c.args.v c.args.time.now) c.order-c.ensures c.outcome-d.ensures)) c.close_tag.ensures
