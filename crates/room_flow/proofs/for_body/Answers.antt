use native.Mathlib.Omega.{arith}
use Rattle.serving.specs.Served.{orders_from}
use Rattle.serving.proofs.Laws.{orders_few, orders_count}
use Rattle.room.specs.Room.{room_of}
use Rattle.room_flow.proofs.Laws.{room_none, room_taken}
use Rattle.room_flow.proofs.for_body.Goals as goal

pub overflow_mul-count : goal.overflow_mul-count
overflow_mul-count c = let a = c.args in
    let e = orders_count a.root a.f.now a.from c.count_orders-count.ensures in
    let m = orders_few a.root a.f.now a.from c.requires.1.within in
    let l = c.requires.2 in
    omega arith

pub returns-then-out-count : goal.returns-then-out-count
returns-then-out-count c = let a = c.args in
    let e = orders_count a.root a.f.now a.from c.count_orders-count.ensures in
    room_none (room_of a.r) a.out.now (orders_from a.root a.f.now a.from) a.b a.year e c.if-out-count.true

pub take_orders-s-requires : goal.take_orders-s-requires
take_orders-s-requires c = let a = c.args in
    let e = orders_count a.root a.f.now a.from c.count_orders-count.ensures in
    let m = orders_few a.root a.f.now a.from c.requires.1.within in
    let l = c.requires.2 in
    let g = c.if-out-count.false in
    (c.slots_of.ensures.1, c.requires.1, omega arith, omega arith)

pub returns : goal.returns
returns c = let a = c.args in
    let e = orders_count a.root a.f.now a.from c.count_orders-count.ensures in
    room_taken (room_of a.r) a.out.now (orders_from a.root a.f.now a.from) a.b a.year e c.if-out-count.false c.seat_at-p.ensures c.slots_of.ensures.0 c.take_orders-s.ensures c.with_book.ensures
