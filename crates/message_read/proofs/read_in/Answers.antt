use Rattle.markup.proofs.Noted.{noted_none}
use Rattle.message_read.proofs.Book.{long_promise}
use Rattle.message_read.proofs.read_in.Goals as goal

pub returns-then-s-gt65536 : goal.returns-then-s-gt65536
returns-then-s-gt65536 c = long_promise c.args.ed c.args.s.now c.args.values.now c.if-s-gt65536.true _ c.refusal.ensures

pub read_noted-requires : goal.read_noted-requires
read_noted-requires c = (c.if-s-gt65536.false, noted_none c.args.s.now 16385)
