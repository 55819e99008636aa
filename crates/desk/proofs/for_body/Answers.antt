use Rattle.std.specs.Prelude.{Err}
use mathlib.Core.Path.{ap, refl, sym, ◌∙◌}
use native.Mathlib.Omega.{arith}
use Rattle.serving.specs.Served.{orders_from}
use Rattle.header.specs.Heading.{header_by}
use Rattle.address.proofs.Laws.{named_slots}
use Rattle.desk.proofs.Laws.{body_read, year_closed, year_open}
use Rattle.desk.proofs.for_body.Goals as goal

pub part_at-ente-requires : goal.part_at-ente-requires
part_at-ente-requires c = c.requires.1.ente

pub closed_of-requires : goal.closed_of-requires
closed_of-requires c = let s = named_slots c.args.t.now _ c.requires.0 (sym c.body_named.ensures ∙ c.in-Ok.is) in
    let x = s.entry in
    let y = s.inside in
    omega arith

pub returns-then-year-closed_of : goal.returns-then-year-closed_of
returns-then-year-closed_of c = year_closed c.args.t.now c.args.out.now (header_by c.args.f.now c.args.h) (orders_from c.args.root c.args.f.now c.args.h.orders) c.part_at-ente.ensures c.body_named.ensures c.in-Ok.is c.closed_of.ensures.0 c.if-year-closed_of.true

pub with_room-requires : goal.with_room-requires
with_room-requires c = let s = named_slots c.args.t.now _ c.requires.0 (sym c.body_named.ensures ∙ c.in-Ok.is) in
    (record { inside = s.inside; few = s.few; valid = s.valid; orders = c.requires.4 }, c.requires.2, c.requires.3)

pub returns-else-year-closed_of : goal.returns-else-year-closed_of
returns-else-year-closed_of c = year_open c.args.t.now c.args.out.now (header_by c.args.f.now c.args.h) (orders_from c.args.root c.args.f.now c.args.h.orders) c.part_at-ente.ensures c.body_named.ensures c.in-Ok.is c.closed_of.ensures.0 c.if-year-closed_of.false c.with_room.ensures

pub returns-in-Err-Unknown : goal.returns-in-Err-Unknown
returns-in-Err-Unknown c = body_read c.args.t.now c.args.out.now (header_by c.args.f.now c.args.h) (orders_from c.args.root c.args.f.now c.args.h.orders) c.part_at-ente.ensures c.body_named.ensures (c.in-Err-Unknown.is ∙ ap Err c.in-Err-Unknown.field-0-is) (refl, refl, refl)

pub returns-in-Err-Invalid : goal.returns-in-Err-Invalid
returns-in-Err-Invalid c = body_read c.args.t.now c.args.out.now (header_by c.args.f.now c.args.h) (orders_from c.args.root c.args.f.now c.args.h.orders) c.part_at-ente.ensures c.body_named.ensures (c.in-Err-Invalid.is ∙ ap Err c.in-Err-Invalid.field-0-is) (refl, refl, refl)
