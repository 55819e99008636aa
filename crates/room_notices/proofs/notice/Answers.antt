use mathlib.Core.Path.{sym, ◌∙◌}
use Rattle.room.specs.Room.{room_of}
use Rattle.room.proofs.Laws.{numbered_low}
use Rattle.room_notices.proofs.Laws.{for_none, for_at}
use Rattle.room_notices.proofs.notice.Goals as goal

pub seat_at-p-requires : goal.seat_at-p-requires
seat_at-p-requires c = numbered_low (room_of c.args.r) c.args.code.now _ (sym c.find_seat.ensures ∙ c.in-Some.is)

pub with_book-requires : goal.with_book-requires
with_book-requires c = numbered_low (room_of c.args.r) c.args.code.now _ (sym c.find_seat.ensures ∙ c.in-Some.is)

pub returns-in-Some : goal.returns-in-Some
returns-in-Some c = for_at (room_of c.args.r) c.args.executing c.args.key c.args.line c.args.code.now c.find_seat.ensures c.in-Some.is c.seat_at-p.ensures c.notice_on-s.ensures c.with_book.ensures

pub returns-in-None : goal.returns-in-None
returns-in-None c = for_none (room_of c.args.r) c.args.executing c.args.key c.args.line c.args.code.now c.find_seat.ensures c.in-None.is
