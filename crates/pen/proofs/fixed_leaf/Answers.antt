use Rattle.pen.specs.Decimal.{fixed}
use Rattle.pen.proofs.Laws.{room_open, room_in, room_close, wrote_tagged}
use Rattle.pen.proofs.fixed_leaf.Goals as goal

pub open_tag-a-requires : goal.open_tag-a-requires
open_tag-a-requires c = room_open c.args.name.now (fixed c.args.w c.args.n) c.requires

pub fixed_digits-b-requires : goal.fixed_digits-b-requires
fixed_digits-b-requires c = room_in c.args.name.now (fixed c.args.w c.args.n) c.requires c.open_tag-a.ensures

pub close_tag-requires : goal.close_tag-requires
close_tag-requires c = room_close c.args.name.now (fixed c.args.w c.args.n) c.requires c.open_tag-a.ensures c.fixed_digits-b.ensures

pub returns : goal.returns
returns c = wrote_tagged c.args.name.now (fixed c.args.w c.args.n) c.open_tag-a.ensures c.fixed_digits-b.ensures c.close_tag.ensures
