use mathlib.Core.Path.{refl, sym, ◌∙◌}
use Prim.Native.Nat.{◌+◌}
use native.Mathlib.Omega.{arith}
use borrow.Author.Tests.{not-true, not-false}
use Rattle.scan.specs.Bytes.{is_white}
use Rattle.scan.proofs.Laws.{run_within}
use Rattle.structure.proofs.Walk.{some_row}
use Rattle.standing.proofs.Laws.{not_structured, held_text, held_none, held_rows, found, whole, unfilled}
use Rattle.standing.proofs.+held_breaking_walk_on.Goals as goal

pub held_breaking-field_breaking-requires : goal.held_breaking-field_breaking-requires
held_breaking-field_breaking-requires t c = (c.requires.0, c.requires.1, c.requires.3)

pub held_breaking-returns-then-d-eq1 : goal.held_breaking-returns-then-d-eq1
held_breaking-returns-then-d-eq1 t c = held_none c.args.d c.args.s.now c.args.c c.args.h _ c.in-Rows.is c.if-d-eq1.true

pub held_breaking-overflow_add-inner : goal.held_breaking-overflow_add-inner
held_breaking-overflow_add-inner t c = omega (arith, c.requires.0, c.requires.1)

pub held_breaking-rows_for-p-requires : goal.held_breaking-rows_for-p-requires
held_breaking-rows_for-p-requires t c = (omega (arith, c.requires.0, c.requires.1), c.requires.3)

pub held_breaking-white_end-requires : goal.held_breaking-white_end-requires
held_breaking-white_end-requires t c = omega (arith, c.requires.0, c.requires.1)

pub held_breaking-overflow_sub-d : goal.held_breaking-overflow_sub-d
held_breaking-overflow_sub-d t c = omega (arith, c.requires.2)

pub held_breaking-walk_on-requires : goal.held_breaking-walk_on-requires
held_breaking-walk_on-requires t c = let w = run_within is_white c.args.s.now (c.args.c.gt + 1) (omega (arith, c.requires.0, c.requires.1)) in
    (omega (arith, c.requires.0, c.requires.2), (rw c.white_end.ensures w, omega arith, some_row c.rows_for-p.result, omega (arith, c.if-d-eq1.false, c.requires.2), c.requires.3))

pub held_breaking-returns-in-Text : goal.held_breaking-returns-in-Text
held_breaking-returns-in-Text t c = c.field_breaking.ensures ∙ held_text c.args.d c.args.s.now c.args.c c.args.h _ c.in-Text.is

pub held_breaking-returns-else-d-eq1 : goal.held_breaking-returns-else-d-eq1
held_breaking-returns-else-d-eq1 t c = c.walk_on.ensures ∙ held_rows c.args.d c.args.s.now c.args.c c.args.h _ c.in-Rows.is (λ z. omega (arith, c.if-d-eq1.false, c.requires.2)) _ c.rows_for-p.ensures _ c.white_end.ensures

pub walk_on-loop-parent-init : goal.walk_on-loop-parent-init
walk_on-loop-parent-init t c = (c.requires.0, c.requires.1, c.requires.2, refl)

pub walk_on-next_named-requires : goal.walk_on-next_named-requires
walk_on-next_named-requires t c = (c.loop-parent.invariant.0, c.requires.4)

pub walk_on-returns-then-filled : goal.walk_on-returns-then-filled
walk_on-returns-then-filled t c = whole _ c.args.d _ _ c.loop-parent.so_far _ _ _ c.loop-parent.invariant (sym c.next_named.ensures ∙ c.in_default.is) (rw c.rows.ensures at (sym c.filled.ensures ∙ c.if-filled.true))

pub walk_on-returns-else-filled : goal.walk_on-returns-else-filled
walk_on-returns-else-filled t c = unfilled _ c.args.d _ _ c.loop-parent.so_far _ _ _ c.loop-parent.invariant (sym c.next_named.ensures ∙ c.in_default.is) (rw c.rows.ensures at (sym c.filled.ensures ∙ c.if-filled.false))

pub walk_on-returns-then-not-filled : goal.walk_on-returns-then-not-filled
walk_on-returns-then-not-filled t c = let g = found _ c.args.d _ _ c.loop-parent.so_far _ _ _ c.loop-parent.invariant _ (sym c.next_named.ensures ∙ c.in-Some.is) in
    let l = g.lies in
    g.short (sym c.filled-in-loop-parent.ensures ∙ not-true _ c.if-not-filled.true-raw)

pub walk_on-counted-m-requires : goal.walk_on-counted-m-requires
walk_on-counted-m-requires t c = let g = found _ c.args.d _ _ c.loop-parent.so_far _ _ _ c.loop-parent.invariant _ (sym c.next_named.ensures ∙ c.in-Some.is) in
    let l = g.lies in
    omega (arith, c.loop-parent.invariant.1)

pub walk_on-held_breaking-requires : goal.walk_on-held_breaking-requires
walk_on-held_breaking-requires t c = let g = found _ c.args.d _ _ c.loop-parent.so_far _ _ _ c.loop-parent.invariant _ (sym c.next_named.ensures ∙ c.in-Some.is) in
    let l = g.lies in
    (omega arith, (l.inner, omega arith, c.requires.3, c.requires.4))

pub walk_on-loop-parent-smaller : goal.walk_on-loop-parent-smaller
walk_on-loop-parent-smaller t c = let g = found _ c.args.d _ _ c.loop-parent.so_far _ _ _ c.loop-parent.invariant _ (sym c.next_named.ensures ∙ c.in-Some.is) in
    let l = g.lies in
    omega arith

pub walk_on-loop-parent-preserved : goal.walk_on-loop-parent-preserved
walk_on-loop-parent-preserved t c = let g = found _ c.args.d _ _ c.loop-parent.so_far _ _ _ c.loop-parent.invariant _ (sym c.next_named.ensures ∙ c.in-Some.is) in
    let l = g.lies in
    g.on (sym c.filled-in-loop-parent.ensures ∙ not-false _ c.if-not-filled.false-raw) _ c.counted-m.ensures _ refl _ c.held_breaking.ensures _ c.then-so_far.ensures

pub walk_on-returns : goal.walk_on-returns
walk_on-returns t c = not_structured c.loop-parent.so_far _ (sym c.has_structure.ensures ∙ c.loop-parent-test.false) ∙ sym c.loop-parent.invariant.3
