use mathlib.Core.Path.{refl}
use Rattle.message_fit.specs.Holding.{caller_in}
use Rattle.message_write.proofs.Laws.{own_room, own_wrote}
use Rattle.message_write.proofs.whole.Goals as goal

pub framed-requires : goal.framed-requires
framed-requires c = (c.requires.rooted, c.requires.fits, c.requires.held, own_room c.part_at-abi.result.now c.part_at-body.result.now c.args.h.esercizio c.part_at-name.result.now c.args.all.root c.args.all.flow.now c.args.all.from c.args.all.out.now (caller_in c.args.t.held c.args.t.bytes.now) c.args.h c.args.w c.part_at-abi.ensures c.part_at-body.ensures refl c.part_at-name.ensures c.requires.room)

pub returns : goal.returns
returns c = own_wrote c.part_at-abi.result.now c.part_at-body.result.now c.args.h.esercizio c.part_at-name.result.now c.args.all.root c.args.all.flow.now c.args.all.from c.args.all.out.now (caller_in c.args.t.held c.args.t.bytes.now) c.args.h c.args.w c.part_at-abi.ensures c.part_at-body.ensures refl c.part_at-name.ensures c.framed.ensures
