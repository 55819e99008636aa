use mathlib.Core.Bool.{Bool, cond}
use mathlib.Core.Path.{sym, ap, ◌∙◌}
use native.Mathlib.Omega.{arith}
use Rattle.journal.proofs.Marks.{used_few}
use Rattle.journal.proofs.Walk.{code_start, marks_start, used_inside, no_order, slot_in, other_code, mark_in, twice, goes_on_lem, marked_too, left_over}
use Rattle.journal.proofs.one_by_one.Goals as goal

pub note_orders-requires : goal.note_orders-requires
note_orders-requires c = (used_inside c.requires.0, used_few c.requires.0)

pub loop-j-init : goal.loop-j-init
loop-j-init c = (omega arith, (code_start c.args.t.now c.args.base c.args.n c.args.s.now c.args.count, marks_start c.requires.0 c.args.s.now))

pub returns-in_default : goal.returns-in_default
returns-in_default c = sym (c.loop-j.invariant.1.0 ∙ no_order c.requires.0 c.args.s.now c.args.count c.loop-j.j (omega arith) c.movement_at-m.ensures (sym c.order_of.ensures ∙ c.in_default.is))

pub overflow_mul-i : goal.overflow_mul-i
overflow_mul-i c = omega (arith, slot_in c.requires.0 c.args.s.now c.args.count c.loop-j.j (omega arith) c.movement_at-m.ensures _ (sym c.order_of.ensures ∙ c.in-Some.is))

pub overflow_add-base : goal.overflow_add-base
overflow_add-base c = omega (arith, slot_in c.requires.0 c.args.s.now c.args.count c.loop-j.j (omega arith) c.movement_at-m.ensures _ (sym c.order_of.ensures ∙ c.in-Some.is))

pub code_by-code-requires : goal.code_by-code-requires
code_by-code-requires c = omega (arith, slot_in c.requires.0 c.args.s.now c.args.count c.loop-j.j (omega arith) c.movement_at-m.ensures _ (sym c.order_of.ensures ∙ c.in-Some.is))

pub returns-then-code-ne0 : goal.returns-then-code-ne0
returns-then-code-ne0 c = sym (c.loop-j.invariant.1.0 ∙ other_code c.requires.0 c.args.s.now c.args.count c.loop-j.j (omega arith) c.movement_at-m.ensures _ (sym c.order_of.ensures ∙ c.in-Some.is) c.code_by-code.ensures c.if-code-ne0.true)

pub overflow_mul-p : goal.overflow_mul-p
overflow_mul-p c = omega (arith, mark_in c.requires.0 c.args.s.now c.args.count c.loop-j.j (omega arith) c.movement_at-m.ensures _ (sym c.order_of.ensures ∙ c.in-Some.is) c.code_by-code.ensures c.if-code-ne0.false)

pub overflow_add-p : goal.overflow_add-p
overflow_add-p c = omega (arith, mark_in c.requires.0 c.args.s.now c.args.count c.loop-j.j (omega arith) c.movement_at-m.ensures _ (sym c.order_of.ensures ∙ c.in-Some.is) c.code_by-code.ensures c.if-code-ne0.false)

pub overflow_sub-p : goal.overflow_sub-p
overflow_sub-p c = omega (arith, mark_in c.requires.0 c.args.s.now c.args.count c.loop-j.j (omega arith) c.movement_at-m.ensures _ (sym c.order_of.ensures ∙ c.in-Some.is) c.code_by-code.ensures c.if-code-ne0.false)

pub bounds-marks-p : goal.bounds-marks-p
bounds-marks-p c = omega (arith, mark_in c.requires.0 c.args.s.now c.args.count c.loop-j.j (omega arith) c.movement_at-m.ensures _ (sym c.order_of.ensures ∙ c.in-Some.is) c.code_by-code.ensures c.if-code-ne0.false, c.loop-j.invariant.1.1.size)

pub returns-then-marks-p-ne0 : goal.returns-then-marks-p-ne0
returns-then-marks-p-ne0 c = let y = c.if-code-ne0.false in
    let l = mark_in c.requires.0 c.args.s.now c.args.count c.loop-j.j (omega arith) c.movement_at-m.ensures _ (sym c.order_of.ensures ∙ c.in-Some.is) c.code_by-code.ensures y in
    sym (c.loop-j.invariant.1.0 ∙ twice c.requires.0 c.args.s.now c.args.count c.loop-j.j (omega arith) c.movement_at-m.ensures _ (sym c.order_of.ensures ∙ c.in-Some.is) c.code_by-code.ensures y _ (omega arith) c.loop-j.invariant.1.1 c.if-marks-p-ne0.true)

pub bounds-marks-p-in-loop-j : goal.bounds-marks-p-in-loop-j
bounds-marks-p-in-loop-j c = omega (arith, mark_in c.requires.0 c.args.s.now c.args.count c.loop-j.j (omega arith) c.movement_at-m.ensures _ (sym c.order_of.ensures ∙ c.in-Some.is) c.code_by-code.ensures c.if-code-ne0.false, c.loop-j.invariant.1.1.size)

pub loop-j-preserved : goal.loop-j-preserved
loop-j-preserved c = let y = c.if-code-ne0.false in
    let l = mark_in c.requires.0 c.args.s.now c.args.count c.loop-j.j (omega arith) c.movement_at-m.ensures _ (sym c.order_of.ensures ∙ c.in-Some.is) c.code_by-code.ensures y in
    (omega arith, (c.loop-j.invariant.1.0 ∙ goes_on_lem c.requires.0 c.args.s.now c.args.count c.loop-j.j (omega arith) c.movement_at-m.ensures _ (sym c.order_of.ensures ∙ c.in-Some.is) c.code_by-code.ensures y _ (omega arith) c.loop-j.invariant.1.1 c.if-marks-p-ne0.false, marked_too c.requires.0 c.args.s.now c.args.count c.loop-j.j (omega arith) c.movement_at-m.ensures _ (sym c.order_of.ensures ∙ c.in-Some.is) c.code_by-code.ensures y _ (omega arith) c.loop-j.invariant.1.1))

pub all_marked-requires : goal.all_marked-requires
all_marked-requires c = let i = used_inside c.requires.0 in
    let f = used_few c.requires.0 in
    omega (arith, c.loop-j.invariant.1.1.size)

pub returns-then-all_marked : goal.returns-then-all_marked
returns-then-all_marked c = sym (c.loop-j.invariant.1.0 ∙ left_over c.requires.0 c.args.s.now c.args.count c.loop-j.j (omega arith) c.loop-j.invariant.1.1 c.all_marked.ensures ∙ ap (λ (b : Bool). cond b 0 33) c.if-all_marked.true)

pub returns-else-all_marked : goal.returns-else-all_marked
returns-else-all_marked c = sym (c.loop-j.invariant.1.0 ∙ left_over c.requires.0 c.args.s.now c.args.count c.loop-j.j (omega arith) c.loop-j.invariant.1.1 c.all_marked.ensures ∙ ap (λ (b : Bool). cond b 0 33) c.if-all_marked.false)
