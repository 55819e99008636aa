use Rattle.room.specs.Room.{room_of}
use Rattle.room_notices.proofs.Laws.{on_target, off_target}
use Rattle.room_notices.proofs.dated.Goals as goal

pub returns-then-refused-eq0 : goal.returns-then-refused-eq0
returns-then-refused-eq0 c = on_target (room_of c.args.r) c.args.executing c.args.code.now c.args.key c.args.line c.args.day c.code_of-refused.ensures c.if-refused-eq0.true c.notice.ensures

pub returns : goal.returns
returns c = off_target (room_of c.args.r) c.args.executing c.args.code.now c.args.key c.args.line c.args.day c.code_of-refused.ensures c.if-refused-eq0.false
