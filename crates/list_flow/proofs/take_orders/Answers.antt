use mathlib.Core.Path.{◌≡◌}
use Prim.Native.Nat.{◌-◌}
use native.Mathlib.Omega.{arith}
use borrow.Author.Rules.{rules}
use lib.ListN.{length}
use Rattle.training.specs.Training.{list_of}
use Rattle.list_flow.proofs.Laws.{taken_most, taking_start, taking_end, taking_order, taking_room, taking_steps, taking_step}
use Rattle.list_flow.proofs.take_orders.Goals as goal

pub loop-k-init : goal.loop-k-init
loop-k-init c = let a = c.args in
    let z : length a.b.records ≡ 32 = c.well_formed.0.1.1.1.0.1.0.1 in
    taking_start a.root a.f.now a.past.now a.slots a.year (list_of a.b) a.out.now a.from (omega (arith, z, taken_most a.b.count a.b.records)) c.requires.1 c.requires.2 c.requires.3

pub next_order-requires : goal.next_order-requires
next_order-requires c = (c.loop-k.invariant.rooted.within, c.loop-k.invariant.rooted.noted)

pub shape_of-out : goal.shape_of-out
shape_of-out c = c.loop-k.invariant.same_out

pub returns : goal.returns
returns c = let a = c.args in
    taking_end a.root a.f.now a.past.now a.slots a.year (list_of a.b) a.out.now a.from _ _ _ _ _ _ c.loop-k.invariant c.next_order.ensures c.in_default.is

pub order_of-o-requires : goal.order_of-o-requires
order_of-o-requires c = let a = c.args in
    let s = c.loop-k.invariant in
    ((taking_order a.root a.f.now a.past.now a.slots a.year (list_of a.b) a.out.now a.from _ _ _ _ _ _ s c.next_order.ensures c.in-Some.is).shaped, s.rooted.noted)

pub put_outcome-requires : goal.put_outcome-requires
put_outcome-requires c = let a = c.args in
    let s = c.loop-k.invariant in
    taking_room a.root a.f.now a.past.now a.slots a.year (list_of a.b) a.out.now a.from _ _ _ _ _ _ s c.next_order.ensures c.in-Some.is

pub overflow_add-accepted : goal.overflow_add-accepted
overflow_add-accepted c = let a = c.args in
    let s = c.loop-k.invariant in
    let r = taking_room a.root a.f.now a.past.now a.slots a.year (list_of a.b) a.out.now a.from _ _ _ _ _ _ s c.next_order.ensures c.in-Some.is in
    let w = s.few in
    let o = c.one_of-accepted.ensures.1 in
    let m = s.same_out in
    let g = c.well_formed in
    omega arith

pub overflow_add-steps : goal.overflow_add-steps
overflow_add-steps c = let a = c.args in
    let s = c.loop-k.invariant in
    let r = taking_steps a.root a.f.now a.past.now a.slots a.year (list_of a.b) a.out.now a.from _ _ _ _ _ _ s c.next_order.ensures c.in-Some.is _ c.take_order-s.ensures.1 in
    omega arith

pub overflow_add-to : goal.overflow_add-to
overflow_add-to c = let a = c.args in
    let s = c.loop-k.invariant in
    let r = taking_room a.root a.f.now a.past.now a.slots a.year (list_of a.b) a.out.now a.from _ _ _ _ _ _ s c.next_order.ensures c.in-Some.is in
    let m = s.same_out in
    let g = c.well_formed in
    omega arith

pub loop-k-smaller : goal.loop-k-smaller
loop-k-smaller c = let a = c.args in
    let s = c.loop-k.invariant in
    let l = (taking_order a.root a.f.now a.past.now a.slots a.year (list_of a.b) a.out.now a.from _ _ _ _ _ _ s c.next_order.ensures c.in-Some.is).lies in
    omega arith

pub loop-k-preserved : goal.loop-k-preserved
loop-k-preserved c = let a = c.args in
    let s = c.loop-k.invariant in
    let b = c.take_order-s.result.book in
    let z : length b.records ≡ 32 = c.take_order-s.type_inv.1.1.1.1.0.1.1.1.0.1.0.1 in
    taking_step a.root a.f.now a.past.now a.slots a.year (list_of a.b) a.out.now a.from _ _ _ _ _ _ s c.next_order.ensures c.in-Some.is (omega (arith, z, taken_most b.count b.records)) c.order_of-o.ensures.0 c.take_order-s.ensures.0 c.take_order-s.ensures.1 c.take_order-s.ensures.2 c.code_of-code.ensures c.put_outcome.ensures (search rules) c.one_of-accepted.ensures.0 c.one_of-accepted.ensures.1
