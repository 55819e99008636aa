use mathlib.Core.Path.{sym, ap, ◌∙◌}
use Rattle.plain.specs.Plain.{Listed}
use Rattle.plain.specs.Notices.{list_totals}
use Rattle.room.specs.Room.{room_of}
use Rattle.room.proofs.Laws.{numbered_low}
use Rattle.room_notices.proofs.Laws.{totals_at}
use Rattle.room_notices.proofs.totals.Goals as goal

pub seat_at-requires : goal.seat_at-requires
seat_at-requires c = numbered_low (room_of c.args.r) c.args.code.now _ (sym c.find_seat.ensures ∙ c.in-Some.is)

pub returns-in-Some : goal.returns-in-Some
returns-in-Some c = totals_at (room_of c.args.r) c.args.code.now c.find_seat.ensures c.in-Some.is (c.book_totals.ensures ∙ ap (λ (l : Listed). list_totals l.orders) c.seat_at.ensures)

pub returns-in-None : goal.returns-in-None
returns-in-None c = totals_at (room_of c.args.r) c.args.code.now c.find_seat.ensures c.in-None.is c.no_totals.ensures
