use borrow.Author.Rules.{rules}
use mathlib.Core.Path.{refl}
use mathlib.Core.List.{[]}
use native.Mathlib.Omega.{arith}
use lib.ListN.{length-set}
use Rattle.enrolment.proofs.Laws.{orders_none, orders_more, orders_all, orders_few}
use Rattle.enrolment.proofs.book_of.Goals as goal

pub loop-i-init : goal.loop-i-init
loop-i-init c = (omega arith, refl, orders_none c.args.t.now c.args.base [])

pub overflow_mul-i : goal.overflow_mul-i
overflow_mul-i c = let f = orders_few c.args.t.now c.args.base c.args.n _ c.used_slots-used.ensures in
    search rules

pub overflow_add-base : goal.overflow_add-base
overflow_add-base c = let f = orders_few c.args.t.now c.args.base c.args.n _ c.used_slots-used.ensures in
    search rules

pub record_at-requires : goal.record_at-requires
record_at-requires c = let f = orders_few c.args.t.now c.args.base c.args.n _ c.used_slots-used.ensures in
    omega arith

pub offset_bounds-records-i : goal.offset_bounds-records-i
offset_bounds-records-i c = let f = orders_few c.args.t.now c.args.base c.args.n _ c.used_slots-used.ensures in
    search rules

pub bounds-records-i : goal.bounds-records-i
bounds-records-i c = let f = orders_few c.args.t.now c.args.base c.args.n _ c.used_slots-used.ensures in
    omega arith

pub loop-i-preserved : goal.loop-i-preserved
loop-i-preserved c = let l = c.loop-i in
    let f = orders_few c.args.t.now c.args.base c.args.n _ c.used_slots-used.ensures in
    (omega arith, simp length-set l.invariant.1, orders_more c.args.t.now c.args.base l.records l.i (omega arith) l.invariant.2 c.record_at.ensures)

pub returns : goal.returns
returns c = let l = c.loop-i in
    let f = orders_few c.args.t.now c.args.base c.args.n _ c.used_slots-used.ensures in
    orders_all c.args.t.now c.args.base l.records l.i c.args.n _ c.used_slots-used.ensures (omega arith) (omega arith) l.invariant.2
