use Rattle.pen.specs.Decimal.{dated}
use Rattle.pen.proofs.Laws.{room_open, room_in, room_close, wrote_tagged}
use Rattle.pen.proofs.date_leaf.Goals as goal

pub open_tag-a-requires : goal.open_tag-a-requires
open_tag-a-requires c = room_open c.args.name.now (dated c.args.d) c.requires

pub date_of-b-requires : goal.date_of-b-requires
date_of-b-requires c = room_in c.args.name.now (dated c.args.d) c.requires c.open_tag-a.ensures

pub close_tag-requires : goal.close_tag-requires
close_tag-requires c = room_close c.args.name.now (dated c.args.d) c.requires c.open_tag-a.ensures c.date_of-b.ensures

pub returns : goal.returns
returns c = wrote_tagged c.args.name.now (dated c.args.d) c.open_tag-a.ensures c.date_of-b.ensures c.close_tag.ensures
