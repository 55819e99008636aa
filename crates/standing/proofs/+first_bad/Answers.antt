use Rattle.std.specs.Prelude.{Ok}
use mathlib.Core.Path.{refl, sym, ◌∙◌}
use native.Mathlib.Omega.{arith}
use Rattle.scan.specs.Bytes.{is_white}
use Rattle.scan.proofs.Laws.{run_within}
use Rattle.rows.proofs.Laws.{next_at}
use Rattle.markup.proofs.Laws.{passed_on}
use Rattle.standing.proofs.Second.{sound_err, seek_none, seek_level, seek_found, seek_end, seek_on}
use Rattle.standing.proofs.+first_bad.Goals as goal

pub returns-then-d-eq0 : goal.returns-then-d-eq0
returns-then-d-eq0 t c = rw c.if-d-eq0.true (seek_none c.args.parent c.args.s.now c.args.at)

pub white_end-i-requires : goal.white_end-i-requires
white_end-i-requires t c = c.requires.0

pub loop-k-init : goal.loop-k-init
loop-k-init t c = let s = c.args.s.now in
    let at = c.args.at in
    (rw c.white_end-i.ensures (run_within is_white s at c.requires.0), rw c.white_end-i.ensures (seek_level c.args.d c.args.parent s at c.if-d-eq0.false))

pub next_named-requires : goal.next_named-requires
next_named-requires t c = (c.loop-k.invariant.0, c.requires.1)

pub field_found-requires : goal.field_found-requires
field_found-requires t c = let a = next_at c.args.parent c.args.s.now c.loop-k.i _ (sym c.next_named.ensures ∙ c.in-Some.is) in
    let l = a.lies in
    (l.inner, omega arith)

pub returns-in_err-field_found-in-Text : goal.returns-in_err-field_found-in-Text
returns-in_err-field_found-in-Text t c = passed_on c.from_residual.result _ c.from_residual.ensures.1 ∙ seek_found _ c.args.d _ _ _ _ (seek_on _ c.args.d _ _ (Ok tt) _ c.loop-k.invariant refl _ (sym c.next_named.ensures ∙ c.in-Some.is) _ c.in-Text.is _ (sym c.in_err-field_found-in-Text.was ∙ c.field_found.ensures)) (sound_err _)

pub overflow_add-inner : goal.overflow_add-inner
overflow_add-inner t c = let a = next_at c.args.parent c.args.s.now c.loop-k.i _ (sym c.next_named.ensures ∙ c.in-Some.is) in
    let l = a.lies in
    omega arith

pub rows_for-deeper-requires : goal.rows_for-deeper-requires
rows_for-deeper-requires t c = let a = next_at c.args.parent c.args.s.now c.loop-k.i _ (sym c.next_named.ensures ∙ c.in-Some.is) in
    let l = a.lies in
    (omega arith, c.requires.1)

pub overflow_sub-d : goal.overflow_sub-d
overflow_sub-d t c = omega (arith, c.if-d-eq0.false)

pub first_bad-requires : goal.first_bad-requires
first_bad-requires t c = let a = next_at c.args.parent c.args.s.now c.loop-k.i _ (sym c.next_named.ensures ∙ c.in-Some.is) in
    let l = a.lies in
    (omega (arith, c.if-d-eq0.false), (omega arith, c.requires.1))

pub returns-in_err-first_bad-in-Rows : goal.returns-in_err-first_bad-in-Rows
returns-in_err-first_bad-in-Rows t c = passed_on c.from_residual-in_err-first_bad-in-Rows.result _ c.from_residual-in_err-first_bad-in-Rows.ensures.1 ∙ seek_found _ c.args.d _ _ _ _ (seek_on _ c.args.d _ _ (Ok tt) _ c.loop-k.invariant refl _ (sym c.next_named.ensures ∙ c.in-Some.is) _ c.in-Rows.is _ (sym c.in_err-first_bad-in-Rows.was ∙ rw c.rows_for-deeper.ensures at c.first_bad.ensures)) (sound_err _)

pub loop-k-smaller-in_ok-field_found-in-Text : goal.loop-k-smaller-in_ok-field_found-in-Text
loop-k-smaller-in_ok-field_found-in-Text t c = let a = next_at c.args.parent c.args.s.now c.loop-k.i _ (sym c.next_named.ensures ∙ c.in-Some.is) in
    let l = a.lies in
    omega arith

pub loop-k-preserved-in_ok-field_found-in-Text : goal.loop-k-preserved-in_ok-field_found-in-Text
loop-k-preserved-in_ok-field_found-in-Text t c = seek_on _ c.args.d _ _ (Ok tt) _ c.loop-k.invariant refl _ (sym c.next_named.ensures ∙ c.in-Some.is) _ c.in-Text.is (Ok tt) (sym c.in_ok-field_found-in-Text.was ∙ c.field_found.ensures)

pub loop-k-smaller : goal.loop-k-smaller
loop-k-smaller t c = let a = next_at c.args.parent c.args.s.now c.loop-k.i _ (sym c.next_named.ensures ∙ c.in-Some.is) in
    let l = a.lies in
    omega arith

pub loop-k-preserved : goal.loop-k-preserved
loop-k-preserved t c = seek_on _ c.args.d _ _ (Ok tt) _ c.loop-k.invariant refl _ (sym c.next_named.ensures ∙ c.in-Some.is) _ c.in-Rows.is (Ok tt) (sym c.in_ok-first_bad-in-Rows.was ∙ rw c.rows_for-deeper.ensures at c.first_bad.ensures)

pub returns : goal.returns
returns t c = seek_end _ c.args.d _ _ (Ok tt) _ c.loop-k.invariant refl (sym c.next_named.ensures ∙ c.in_default.is)
