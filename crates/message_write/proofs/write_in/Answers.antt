use Rattle.markup.proofs.Noted.{noted_none}
use Rattle.message_fit.specs.Holding.{caller_in}
use Rattle.message_write.proofs.Laws.{write_long}
use Rattle.message_write.proofs.write_in.Goals as goal

pub returns-then-f-gt32768 : goal.returns-then-f-gt32768
returns-then-f-gt32768 c = write_long c.args.f.now c.args.out.now (caller_in c.args.t.held c.args.t.bytes.now) c.args.m.now c.args.e c.if-f-gt32768.true

pub write_noted-requires : goal.write_noted-requires
write_noted-requires c = (c.if-f-gt32768.false, noted_none c.args.f.now 1024, c.requires)

pub write_noted-requires-2 : goal.write_noted-requires-2
write_noted-requires-2 c = (c.if-f-gt32768.false, noted_none c.args.f.now 8193, c.requires)
