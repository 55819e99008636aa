use mathlib.Core.Path.{refl, sym, ◌∙◌}
use Rattle.header.specs.Heading.{header_by}
use Rattle.serving.specs.Served.{orders_from}
use Rattle.room.specs.Room.{room_of}
use Rattle.room.proofs.Laws.{numbered_low}
use Rattle.room_flow.proofs.Laws.{body_read}
use Rattle.room_flow.proofs.with_code.Goals as goal

pub part_at-ente-requires : goal.part_at-ente-requires
part_at-ente-requires c = c.requires.0.ente

pub for_body-requires : goal.for_body-requires
for_body-requires c = (numbered_low (room_of c.args.r) _ _ (sym c.find_seat.ensures ∙ c.in-Some.is), c.requires.1, c.requires.2)

pub returns-in-Some : goal.returns-in-Some
returns-in-Some c = let a = c.args in
    body_read (room_of a.r) a.out.now (header_by a.f.now a.h) (orders_from a.root a.f.now a.h.orders) c.part_at-ente.ensures c.find_seat.ensures c.in-Some.is c.for_body.ensures

pub returns-in-None : goal.returns-in-None
returns-in-None c = let a = c.args in
    body_read (room_of a.r) a.out.now (header_by a.f.now a.h) (orders_from a.root a.f.now a.h.orders) c.part_at-ente.ensures c.find_seat.ensures c.in-None.is (refl, refl, refl)
