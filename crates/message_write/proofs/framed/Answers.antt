use Rattle.message_write.proofs.Laws.{framed_before, framed_reversali, framed_mandati, framed_close, framed_wrote}
use Rattle.message_write.proofs.framed.Goals as goal

pub beginning-b-requires : goal.beginning-b-requires
beginning-b-requires c = (c.requires.2.given, framed_before c.args.abi.now c.args.body.now c.args.year c.args.name.now c.args.all.root c.args.all.flow.now c.args.all.from c.args.all.out.now c.args.t.held c.args.t.bytes.now c.part_at-time.ensures c.requires.3 c.open_tag-a.ensures)

pub entries_of-d-requires : goal.entries_of-d-requires
entries_of-d-requires c = (c.requires.0, c.requires.1, framed_reversali c.args.abi.now c.args.body.now c.args.year c.args.name.now c.args.all.root c.args.all.flow.now c.args.all.from c.args.all.out.now c.args.t.held c.args.t.bytes.now c.part_at-time.ensures c.requires.3 c.open_tag-a.ensures c.beginning-b.ensures)

pub entries_of-e-requires : goal.entries_of-e-requires
entries_of-e-requires c = (c.requires.0, c.requires.1, framed_mandati c.args.abi.now c.args.body.now c.args.year c.args.name.now c.args.all.root c.args.all.flow.now c.args.all.from c.args.all.out.now c.args.t.held c.args.t.bytes.now c.part_at-time.ensures c.requires.3 c.open_tag-a.ensures c.beginning-b.ensures c.entries_of-d.ensures)

pub close_tag-requires : goal.close_tag-requires
close_tag-requires c = framed_close c.args.abi.now c.args.body.now c.args.year c.args.name.now c.args.all.root c.args.all.flow.now c.args.all.from c.args.all.out.now c.args.t.held c.args.t.bytes.now c.part_at-time.ensures c.requires.3 c.open_tag-a.ensures c.beginning-b.ensures c.entries_of-d.ensures c.entries_of-e.ensures

pub returns : goal.returns
returns c = framed_wrote c.args.abi.now c.args.body.now c.args.year c.args.name.now c.args.all.root c.args.all.flow.now c.args.all.from c.args.all.out.now c.args.t.held c.args.t.bytes.now c.part_at-time.ensures c.requires.3 c.open_tag-a.ensures c.beginning-b.ensures c.entries_of-d.ensures c.entries_of-e.ensures c.close_tag.ensures
