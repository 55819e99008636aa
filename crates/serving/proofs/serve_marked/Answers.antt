use Rattle.std.specs.Prelude.{Some}
use mathlib.Core.Path.{◌≡◌, sym, ◌∙◌}
use native.Mathlib.Omega.{arith}
use borrow.Author.Rules.{rules}
use Rattle.rows.specs.Kept.{kept_from, next_of}
use Rattle.orders.specs.Orders.{those, is_order}
use Rattle.serving.proofs.Laws.{serving_start, serving_end, serving_order, serving_room, serving_steps, serving_step}
use Rattle.serving.proofs.serve_marked.Goals as goal

pub loop-k-init : goal.loop-k-init
loop-k-init c = let a = c.args in
    serving_start a.root a.f.now a.past.now a.base a.n a.year a.t.now a.out.now a.from c.requires.1 c.requires.0 c.requires.2 c.requires.3 c.requires.4 c.requires.5

pub next_order-requires : goal.next_order-requires
next_order-requires c = (c.loop-k.invariant.rooted.within, c.loop-k.invariant.rooted.noted)

pub shape_of-t : goal.shape_of-t
shape_of-t c = c.loop-k.invariant.same_table

pub shape_of-out : goal.shape_of-out
shape_of-out c = c.loop-k.invariant.same_out

pub shape_of-marks : goal.shape_of-marks
shape_of-marks c = c.loop-k.invariant.keys.marked.size ∙ sym c.requires.5.marked.size

pub returns : goal.returns
returns c = let a = c.args in
    serving_end a.root a.f.now a.past.now a.base a.n a.year a.t.now a.out.now a.from _ _ _ _ _ _ _ _ c.loop-k.invariant (sym c.next_order.ensures ∙ c.in_default.is)

pub order_of-o-requires : goal.order_of-o-requires
order_of-o-requires c = let a = c.args in
    let s = c.loop-k.invariant in
    let k = c.in-Some.k in
    let e : next_of (those is_order (kept_from a.root a.f.now c.loop-k.i)) ≡ Some k = sym c.next_order.ensures ∙ c.in-Some.is in
    ((serving_order a.root a.f.now a.past.now a.base a.n a.year a.t.now a.out.now a.from _ _ _ _ _ _ _ _ s k e).shaped, s.rooted.noted)

pub serve_order-s-requires : goal.serve_order-s-requires
serve_order-s-requires c = (c.loop-k.invariant.body.inside, c.loop-k.invariant.keys)

pub note_order-used-requires : goal.note_order-used-requires
note_order-used-requires c = let s = c.loop-k.invariant in
    (s.keys.marked.size, omega (arith, s.low, s.body.few))

pub put_outcome-requires : goal.put_outcome-requires
put_outcome-requires c = let a = c.args in
    let s = c.loop-k.invariant in
    let k = c.in-Some.k in
    let e : next_of (those is_order (kept_from a.root a.f.now c.loop-k.i)) ≡ Some k = sym c.next_order.ensures ∙ c.in-Some.is in
    serving_room a.root a.f.now a.past.now a.base a.n a.year a.t.now a.out.now a.from _ _ _ _ _ _ _ _ s k e

pub overflow_add-accepted : goal.overflow_add-accepted
overflow_add-accepted c = let a = c.args in
    let s = c.loop-k.invariant in
    let k = c.in-Some.k in
    let e : next_of (those is_order (kept_from a.root a.f.now c.loop-k.i)) ≡ Some k = sym c.next_order.ensures ∙ c.in-Some.is in
    let r = serving_room a.root a.f.now a.past.now a.base a.n a.year a.t.now a.out.now a.from _ _ _ _ _ _ _ _ s k e in
    let w = s.few in
    let o = c.one_of-accepted.ensures.1 in
    let m = s.same_out in
    let g = c.well_formed.1.1.1.1.1.1.1.0.0 in
    omega arith

pub overflow_add-steps : goal.overflow_add-steps
overflow_add-steps c = let a = c.args in
    let s = c.loop-k.invariant in
    let k = c.in-Some.k in
    let e : next_of (those is_order (kept_from a.root a.f.now c.loop-k.i)) ≡ Some k = sym c.next_order.ensures ∙ c.in-Some.is in
    let r = serving_steps a.root a.f.now a.past.now a.base a.n a.year a.t.now a.out.now a.from _ _ _ _ _ _ _ _ s k e _ c.serve_order-s.ensures.1 in
    omega arith

pub overflow_add-to : goal.overflow_add-to
overflow_add-to c = let a = c.args in
    let s = c.loop-k.invariant in
    let k = c.in-Some.k in
    let e : next_of (those is_order (kept_from a.root a.f.now c.loop-k.i)) ≡ Some k = sym c.next_order.ensures ∙ c.in-Some.is in
    let r = serving_room a.root a.f.now a.past.now a.base a.n a.year a.t.now a.out.now a.from _ _ _ _ _ _ _ _ s k e in
    let m = s.same_out in
    let g = c.well_formed.1.1.1.1.1.1.1.0.0 in
    omega arith

pub loop-k-smaller : goal.loop-k-smaller
loop-k-smaller c = let a = c.args in
    let s = c.loop-k.invariant in
    let k = c.in-Some.k in
    let e : next_of (those is_order (kept_from a.root a.f.now c.loop-k.i)) ≡ Some k = sym c.next_order.ensures ∙ c.in-Some.is in
    let l = (serving_order a.root a.f.now a.past.now a.base a.n a.year a.t.now a.out.now a.from _ _ _ _ _ _ _ _ s k e).lies in
    omega arith

pub loop-k-preserved : goal.loop-k-preserved
loop-k-preserved c = let a = c.args in
    let s = c.loop-k.invariant in
    let k = c.in-Some.k in
    let e : next_of (those is_order (kept_from a.root a.f.now c.loop-k.i)) ≡ Some k = sym c.next_order.ensures ∙ c.in-Some.is in
    serving_step a.root a.f.now a.past.now a.base a.n a.year a.t.now a.out.now a.from _ _ _ _ _ _ _ _ s k e c.order_of-o.ensures.0 c.serve_order-s.ensures.0 c.serve_order-s.ensures.1 c.serve_order-s.ensures.2 (search rules) c.code_of-code.ensures c.put_outcome.ensures (search rules) c.one_of-accepted.ensures.0 c.one_of-accepted.ensures.1 c.note_order-used.ensures.0 c.note_order-used.ensures.1
