-- The training room as the code holds it, and the plain lists that it stands for (crates/plain).
use Rattle.std.specs.Prelude.{cond, map, take, leb}
use Rattle.training.specs.Training.{places, list_of}
use Rattle.plain.specs.Plain.{Listed, Plain}
use Rattle.room.specs.declared.Seat.{Seat}
use Rattle.room.specs.declared.Room.{Room}

-- "as many as the body has slots", of "bodies [that] have at most 32 slots"
abbrev pub listed : Seat → Listed
listed p = record { code = take p.size p.code; slots = cond (leb p.slots places) p.slots places; orders = list_of p.book }

abbrev pub room_of : Room → Plain
room_of r = record { abi = r.abi; bodies = map listed (take r.count r.seats) }
