use mathlib.Core.Path.{refl, sym, ◌∙◌}
use native.Mathlib.Omega.{arith}
use borrow.Author.Tests.{not-false}
use Rattle.onward.proofs.Laws.{told_within, told_content, tagged_on, field_taken, reached_eleven, rows_taken, stood_first, stood_reaches, next_passed, foreign_within, next_taken, few_rows}
use Rattle.onward.proofs.+child_onward.Goals as goal

pub child-overflow_add-inner : goal.child-overflow_add-inner
child-overflow_add-inner t c = omega (arith, c.requires.0.within)

pub child-field-p-requires : goal.child-field-p-requires
child-field-p-requires t c = omega (arith, c.requires.0.within)

pub child-returns-then-p-eq0 : goal.child-returns-then-p-eq0
child-returns-then-p-eq0 t c = (λ f. absurd (f refl), c.requires.4)

pub child-overflow_add-i : goal.child-overflow_add-i
child-overflow_add-i t c = omega (arith, c.requires.0.within, tagged_on c.requires.0)

pub child-ended-requires : goal.child-ended-requires
child-ended-requires t c = let t = c.field-p.ensures c.if-p-eq0.false in
    (c.requires.0, told_within t, told_content t 11, c.requires.4)

pub child-returns-then-d-eq1 : goal.child-returns-then-d-eq1
child-returns-then-d-eq1 t c = (λ f. absurd (f refl), c.requires.4)

pub child-rows_for-parent-requires : goal.child-rows_for-parent-requires
child-rows_for-parent-requires t c = (omega (arith, c.requires.0.within), c.requires.4)

pub child-overflow_sub-d : goal.child-overflow_sub-d
child-overflow_sub-d t c = c.requires.1

pub child-overflow_sub-depth : goal.child-overflow_sub-depth
child-overflow_sub-depth t c = c.requires.2

pub child-onward-r-requires : goal.child-onward-r-requires
child-onward-r-requires t c = (omega (arith, c.if-d-eq1.false, c.requires.0, c.requires.1), (omega (arith, c.requires.0.within), omega (arith, c.if-d-eq1.false, c.requires.1), omega (arith, c.requires.3), c.requires.4))

pub child-shape_of-past-then-r-eq0 : goal.child-shape_of-past-then-r-eq0
child-shape_of-past-then-r-eq0 t c = omega (arith, c.past-in-Rows-1.given)

pub child-returns-then-r-eq0 : goal.child-returns-then-r-eq0
child-returns-then-r-eq0 t c = (λ f. absurd (f refl), c.onward-r.ensures.1)

pub child-in_turn-requires : goal.child-in_turn-requires
child-in_turn-requires t c = c.onward-r.ensures.0.goes.2

pub child-shape_of-past-then-not-in_turn : goal.child-shape_of-past-then-not-in_turn
child-shape_of-past-then-not-in_turn t c = omega (arith, c.past-in-Rows-1.given)

pub child-returns-then-not-in_turn : goal.child-returns-then-not-in_turn
child-returns-then-not-in_turn t c = (λ f. absurd (f refl), c.onward-r.ensures.1)

pub child-overflow_add-i-in-Rows : goal.child-overflow_add-i-in-Rows
child-overflow_add-i-in-Rows t c = omega (arith, c.requires.0.within, tagged_on c.requires.0)

pub child-ended-requires-in-Rows : goal.child-ended-requires-in-Rows
child-ended-requires-in-Rows t c = let g = c.onward-r.ensures.0 in
    (c.requires.0, g.goes.0, reached_eleven g c.if-r-eq0.false (omega (arith, c.requires.3)), c.onward-r.ensures.1)

pub child-shape_of-past-else-p-eq0 : goal.child-shape_of-past-else-p-eq0
child-shape_of-past-else-p-eq0 t c = omega (arith, c.past-1.given)

pub child-returns-else-p-eq0 : goal.child-returns-else-p-eq0
child-returns-else-p-eq0 t c = (λ x. rw c.in-Text.is (field_taken (c.field-p.ensures c.if-p-eq0.false) (c.ended.ensures.0 x)), c.ended.ensures.1)

pub child-shape_of-past-else-not-in_turn : goal.child-shape_of-past-else-not-in_turn
child-shape_of-past-else-not-in_turn t c = omega (arith, c.past-in-Rows-1.given, c.past-in-Rows-2-1.given)

pub child-returns-else-not-in_turn : goal.child-returns-else-not-in_turn
child-returns-else-not-in_turn t c = let k = rw c.rows.ensures at (sym c.in_turn.ensures ∙ not-false _ c.if-not-in_turn.false-raw) in
    (λ x. rw c.in-Rows.is (rows_taken c.rows_for-parent.ensures c.onward-r.ensures.0 c.if-r-eq0.false k (c.ended-in-Rows.ensures.0 x)), c.ended-in-Rows.ensures.1)

pub onward-white_end-i-requires : goal.onward-white_end-i-requires
onward-white_end-i-requires t c = c.requires.0

pub onward-returns-then-depth-eq0 : goal.onward-returns-then-depth-eq0
onward-returns-then-depth-eq0 t c = (stood_reaches (stood_first c.requires.0 c.requires.1 c.white_end-i.ensures), c.requires.3)

pub onward-loop-e-init : goal.onward-loop-e-init
onward-loop-e-init t c = (stood_first c.requires.0 c.requires.1 c.white_end-i.ensures, c.requires.3, refl)

pub onward-start_at-requires : goal.onward-start_at-requires
onward-start_at-requires t c = c.loop-e.invariant.0.goes.0

pub onward-in_turn-requires : goal.onward-in_turn-requires
onward-in_turn-requires t c = c.loop-e.invariant.0.goes.2

pub onward-shape_of-past-then-not-in_turn : goal.onward-shape_of-past-then-not-in_turn
onward-shape_of-past-then-not-in_turn t c = omega (arith, c.loop-e.invariant.2)

pub onward-returns-then-not-in_turn : goal.onward-returns-then-not-in_turn
onward-returns-then-not-in_turn t c = (stood_reaches c.loop-e.invariant.0, c.loop-e.invariant.1)

pub onward-child-j-requires : goal.onward-child-j-requires
onward-child-j-requires t c = let o = (rw c.in-Named.is at c.start_at.ensures) in
    (omega arith, (record { name = o.name; gt = o.gt; within = o.within }, c.requires.1, omega (arith, c.if-depth-eq0.false), c.requires.2, c.loop-e.invariant.1))

pub onward-shape_of-past-then-j-eq0 : goal.onward-shape_of-past-then-j-eq0
onward-shape_of-past-then-j-eq0 t c = omega (arith, c.loop-e.invariant.2, c.past-1.given)

pub onward-returns-then-j-eq0 : goal.onward-returns-then-j-eq0
onward-returns-then-j-eq0 t c = (stood_reaches c.loop-e.invariant.0, c.child-j.ensures.1)

pub onward-counted-count-requires : goal.onward-counted-count-requires
onward-counted-count-requires t c = omega (arith, c.loop-e.invariant.0.goes.1, c.loop-e.invariant.0.goes.0)

pub onward-overflow_add-want : goal.onward-overflow_add-want
onward-overflow_add-want t c = let y = next_taken (rw c.in-Named.is at c.start_at.ensures) (c.child-j.ensures.0 c.if-j-eq0.false) c.requires.2 c.if-depth-eq0.false c.loop-e.invariant.0 (sym c.in_turn.ensures ∙ not-false _ c.if-not-in_turn.false-raw) c.counted-count.ensures in
    omega (arith, y.stood.goes.2, few_rows c.args.p)

pub onward-loop-e-smaller-in-Named : goal.onward-loop-e-smaller-in-Named
onward-loop-e-smaller-in-Named t c = let y = next_taken (rw c.in-Named.is at c.start_at.ensures) (c.child-j.ensures.0 c.if-j-eq0.false) c.requires.2 c.if-depth-eq0.false c.loop-e.invariant.0 (sym c.in_turn.ensures ∙ not-false _ c.if-not-in_turn.false-raw) c.counted-count.ensures in
    omega (arith, y.stood.goes.0)

pub onward-loop-e-preserved-in-Named : goal.onward-loop-e-preserved-in-Named
onward-loop-e-preserved-in-Named t c = let y = next_taken (rw c.in-Named.is at c.start_at.ensures) (c.child-j.ensures.0 c.if-j-eq0.false) c.requires.2 c.if-depth-eq0.false c.loop-e.invariant.0 (sym c.in_turn.ensures ∙ not-false _ c.if-not-in_turn.false-raw) c.counted-count.ensures in
    (y.stood, c.child-j.ensures.1, omega (arith, c.loop-e.invariant.2, c.past-1.given))

pub onward-passed-j-requires : goal.onward-passed-j-requires
onward-passed-j-requires t c = (foreign_within (rw c.in-Unnamed.is at c.start_at.ensures), c.requires.2, c.loop-e.invariant.1)

pub onward-shape_of-past-then-j-eq0-2 : goal.onward-shape_of-past-then-j-eq0-2
onward-shape_of-past-then-j-eq0-2 t c = omega (arith, c.loop-e.invariant.2, c.past-in-Unnamed-1.given)

pub onward-returns-then-j-eq0-2 : goal.onward-returns-then-j-eq0-2
onward-returns-then-j-eq0-2 t c = (stood_reaches c.loop-e.invariant.0, c.passed-j.ensures.1)

pub onward-loop-e-smaller : goal.onward-loop-e-smaller
onward-loop-e-smaller t c = let y = next_passed c.loop-e.invariant.0 c.requires.2 (rw c.in-Unnamed.is at c.start_at.ensures) (c.passed-j.ensures.0 c.if-j-eq0-2.false) in
    omega (arith, y.stood.goes.0)

pub onward-loop-e-preserved : goal.onward-loop-e-preserved
onward-loop-e-preserved t c = let y = next_passed c.loop-e.invariant.0 c.requires.2 (rw c.in-Unnamed.is at c.start_at.ensures) (c.passed-j.ensures.0 c.if-j-eq0-2.false) in
    (y.stood, c.passed-j.ensures.1, omega (arith, c.loop-e.invariant.2, c.past-in-Unnamed-1.given))

pub onward-shape_of-past-in-Other : goal.onward-shape_of-past-in-Other
onward-shape_of-past-in-Other t c = omega (arith, c.loop-e.invariant.2)

pub onward-returns-in-Other : goal.onward-returns-in-Other
onward-returns-in-Other t c = (stood_reaches c.loop-e.invariant.0, c.loop-e.invariant.1)
