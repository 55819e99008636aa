use native.Mathlib.Omega.{arith}
use lib.ListN.{length-set}
use Rattle.table.proofs.Bodies.{body_at_lem}
use Rattle.enrolment.proofs.Laws.{valid_head, entry_inside, small_at, seats_none, seats_more, seats_all}
use Rattle.enrolment.proofs.seated.Goals as goal

pub body_count-n-requires : goal.body_count-n-requires
body_count-n-requires c = (valid_head c.args.t.now c.requires.0).long

pub loop-b-init : goal.loop-b-init
loop-b-init c = (omega arith, c.empty_room.ensures.1, seats_none c.args.t.now c.empty_room.result.seats)

pub overflow_mul-b : goal.overflow_mul-b
overflow_mul-b c = omega (arith, entry_inside c.args.t.now c.requires.0 c.body_count-n.ensures.0 c.loop-b.b (omega arith))

pub overflow_add-b : goal.overflow_add-b
overflow_add-b c = omega (arith, entry_inside c.args.t.now c.requires.0 c.body_count-n.ensures.0 c.loop-b.b (omega arith))

pub seat_of-requires : goal.seat_of-requires
seat_of-requires c = let h = valid_head c.args.t.now c.requires.0 in
    let n = c.body_count-n.ensures.0 in
    let b = body_at_lem c.args.t.now c.requires.0 c.loop-b.b (omega arith) in
    (omega (arith, b.entry_in), b.own_form.short, small_at c.args.t.now c.loop-b.b c.requires.1 (omega arith), b.inside)

pub offset_bounds-seats-b : goal.offset_bounds-seats-b
offset_bounds-seats-b c = let h = valid_head c.args.t.now c.requires.0 in
    let n = c.body_count-n.ensures.0 in
    omega arith

pub bounds-seats-b : goal.bounds-seats-b
bounds-seats-b c = let h = valid_head c.args.t.now c.requires.0 in
    let n = c.body_count-n.ensures.0 in
    omega arith

pub loop-b-preserved : goal.loop-b-preserved
loop-b-preserved c = let h = valid_head c.args.t.now c.requires.0 in
    let n = c.body_count-n.ensures.0 in
    let l = c.loop-b in
    (omega arith, simp length-set l.invariant.1, seats_more c.args.t.now l.seats l.b c.seat_of.result (omega arith) l.invariant.2 c.seat_of.ensures)

pub abi_of-requires : goal.abi_of-requires
abi_of-requires c = (valid_head c.args.t.now c.requires.0).long

pub returns : goal.returns
returns c = let l = c.loop-b in
    let a = c.abi_of.ensures in
    let s = seats_all c.args.t.now l.seats l.b c.body_count-n.result c.body_count-n.ensures.0 (omega arith) (omega arith) l.invariant.2 in
    λ i. record { abi = a i; bodies = s i }
