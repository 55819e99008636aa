use mathlib.Core.Path.{sym, ◌∙◌}
use native.Mathlib.Omega.{arith}
use borrow.Author.Tests.{eq-eqb}
use Rattle.scan.proofs.Laws.{stands}
use Rattle.tokens.proofs.Laws.{name_past, end_past}
use Rattle.markup.proofs.Laws.{content_at_past}
use Rattle.children.proofs.Laws.{ok_some, ok_none, child_none, child_no_name, child_no_gt, child_no_content, child_no_end, child_one}
use Rattle.children.proofs.child_alone.Goals as goal

pub returns-then-byte-ne60 : goal.returns-then-byte-ne60
returns-then-byte-ne60 c = sym (child_none _ _ (λ h. c.if-byte-ne60.true (c.byte.ensures ∙ h)))

pub name_end-requires : goal.name_end-requires
name_end-requires c = let a = c.args in let b = stands 59 a.s.now a.i (eq-eqb _ _ (sym c.byte.ensures ∙ c.if-byte-ne60.false)) in omega arith

pub returns-in_err-e : goal.returns-in_err-e
returns-in_err-e c = c.from_residual.ensures ∙ sym (child_no_name _ _ (sym c.byte.ensures ∙ c.if-byte-ne60.false) (ok_none _ _ c.ok.ensures.value c.in_err-e.was).0 (sym c.name_end.ensures ∙ (ok_none _ _ c.ok.ensures.value c.in_err-e.was).1))

pub returns-then-byte-ne62 : goal.returns-then-byte-ne62
returns-then-byte-ne62 c = sym (child_no_gt _ _ (sym c.byte.ensures ∙ c.if-byte-ne60.false) _ (sym c.name_end.ensures ∙ ok_some _ _ _ c.ok.ensures.value c.in_ok-e.was) (λ h. c.if-byte-ne62.true (c.byte-2.ensures ∙ h)))

pub overflow_add-e : goal.overflow_add-e
overflow_add-e c = omega (arith, (stands 61 c.args.s.now _ (eq-eqb _ _ (sym c.byte-2.ensures ∙ c.if-byte-ne62.false))))

pub content_alone-requires : goal.content_alone-requires
content_alone-requires c = omega (arith, (stands 61 c.args.s.now _ (eq-eqb _ _ (sym c.byte-2.ensures ∙ c.if-byte-ne62.false))))

pub returns-in_err-p : goal.returns-in_err-p
returns-in_err-p c = c.from_residual-in_err-p.ensures ∙ sym (child_no_content _ _ (sym c.byte.ensures ∙ c.if-byte-ne60.false) _ (sym c.name_end.ensures ∙ ok_some _ _ _ c.ok.ensures.value c.in_ok-e.was) (sym c.byte-2.ensures ∙ c.if-byte-ne62.false) (ok_none _ _ c.ok-2.ensures.value c.in_err-p.was).0 (sym c.content_alone.ensures ∙ (ok_none _ _ c.ok-2.ensures.value c.in_err-p.was).1))

pub end_tag-requires : goal.end_tag-requires
end_tag-requires c = let f = name_past _ _ _ (sym c.name_end.ensures ∙ ok_some _ _ _ c.ok.ensures.value c.in_ok-e.was) in
    let o = content_at_past 12 _ _ _ (sym c.content_alone.ensures ∙ ok_some _ _ _ c.ok-2.ensures.value c.in_ok-p.was) in
    (omega arith, omega arith, omega arith)

pub returns-in_err-q : goal.returns-in_err-q
returns-in_err-q c = c.from_residual-in_err-q.ensures ∙ sym (child_no_end _ _ (sym c.byte.ensures ∙ c.if-byte-ne60.false) _ (sym c.name_end.ensures ∙ ok_some _ _ _ c.ok.ensures.value c.in_ok-e.was) (sym c.byte-2.ensures ∙ c.if-byte-ne62.false) _ (sym c.content_alone.ensures ∙ ok_some _ _ _ c.ok-2.ensures.value c.in_ok-p.was) (ok_none _ _ c.ok-3.ensures.value c.in_err-q.was).0 (sym c.end_tag.ensures ∙ (ok_none _ _ c.ok-3.ensures.value c.in_err-q.was).1))

pub white_end-after-requires : goal.white_end-after-requires
white_end-after-requires c = (end_past _ _ _ _ _ (sym c.end_tag.ensures ∙ ok_some _ _ _ c.ok-3.ensures.value c.in_ok-q.was)).within

pub returns : goal.returns
returns c = rw c.white_end-after.ensures (sym (child_one _ _ (sym c.byte.ensures ∙ c.if-byte-ne60.false) _ (sym c.name_end.ensures ∙ ok_some _ _ _ c.ok.ensures.value c.in_ok-e.was) (sym c.byte-2.ensures ∙ c.if-byte-ne62.false) _ (sym c.content_alone.ensures ∙ ok_some _ _ _ c.ok-2.ensures.value c.in_ok-p.was) _ (sym c.end_tag.ensures ∙ ok_some _ _ _ c.ok-3.ensures.value c.in_ok-q.was)))
