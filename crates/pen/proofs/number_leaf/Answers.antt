use Rattle.pen.specs.Decimal.{decimal}
use Rattle.pen.proofs.Laws.{room_open, room_in, room_close, wrote_tagged}
use Rattle.pen.proofs.number_leaf.Goals as goal

pub open_tag-a-requires : goal.open_tag-a-requires
open_tag-a-requires c = room_open c.args.name.now (decimal c.args.n) c.requires

pub decimal_digits-b-requires : goal.decimal_digits-b-requires
decimal_digits-b-requires c = room_in c.args.name.now (decimal c.args.n) c.requires c.open_tag-a.ensures

pub close_tag-requires : goal.close_tag-requires
close_tag-requires c = room_close c.args.name.now (decimal c.args.n) c.requires c.open_tag-a.ensures c.decimal_digits-b.ensures

pub returns : goal.returns
returns c = wrote_tagged c.args.name.now (decimal c.args.n) c.open_tag-a.ensures c.decimal_digits-b.ensures c.close_tag.ensures
