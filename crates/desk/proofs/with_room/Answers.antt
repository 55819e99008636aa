use native.Mathlib.Omega.{arith}
use Rattle.serving.specs.Served.{orders_from}
use Rattle.serving.proofs.Laws.{orders_few, orders_count}
use Rattle.desk.proofs.Laws.{room_none, room_served}
use Rattle.desk.proofs.with_room.Goals as goal

pub overflow_mul-count : goal.overflow_mul-count
overflow_mul-count c = let e = orders_count c.args.root c.args.f.now c.args.from c.count_orders-count.ensures in
    let m = orders_few c.args.root c.args.f.now c.args.from c.requires.1.within in
    let l = c.requires.2 in
    omega arith

pub returns-then-out-count : goal.returns-then-out-count
returns-then-out-count c = let e = orders_count c.args.root c.args.f.now c.args.from c.count_orders-count.ensures in
    room_none c.args.t.now c.args.out.now (orders_from c.args.root c.args.f.now c.args.from) c.args.base c.args.n c.args.year e c.if-out-count.true

pub serve_all-s-requires : goal.serve_all-s-requires
serve_all-s-requires c = let e = orders_count c.args.root c.args.f.now c.args.from c.count_orders-count.ensures in
    let m = orders_few c.args.root c.args.f.now c.args.from c.requires.1.within in
    let l = c.requires.2 in
    let g = c.if-out-count.false in
    (c.requires.0, c.requires.1, omega arith, omega arith)

pub returns : goal.returns
returns c = let e = orders_count c.args.root c.args.f.now c.args.from c.count_orders-count.ensures in
    room_served c.args.t.now c.args.out.now (orders_from c.args.root c.args.f.now c.args.from) c.args.base c.args.n c.args.year e c.if-out-count.false c.serve_all-s.ensures.0 c.serve_all-s.ensures.1 c.serve_all-s.ensures.2 c.serve_all-s.ensures.3
