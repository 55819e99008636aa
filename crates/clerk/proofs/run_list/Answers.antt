use mathlib.Core.Path.{sym, ◌∙◌}
use Rattle.room.specs.Room.{room_of}
use Rattle.room.proofs.Laws.{numbered_low}
use Rattle.clerk.proofs.run_list.Goals as goal

pub seat_at-p-requires : goal.seat_at-p-requires
seat_at-p-requires g c = numbered_low (room_of c.args.r) c.args.body.now _ (sym c.find_seat.ensures ∙ c.in-Some.is)
