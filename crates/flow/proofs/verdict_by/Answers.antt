use mathlib.Core.Path.{sym, ◌∙◌}
use native.Mathlib.Omega.{arith}
use Rattle.markup.proofs.Laws.{opened_placed}
use Rattle.flow.proofs.Laws.{document_unopened, document_unclosed, document_rooted}
use Rattle.flow.proofs.verdict_by.Goals as goal

pub onward-reached-requires : goal.onward-reached-requires
onward-reached-requires c = let o = opened_placed c.args.ids c.args.s.now _ _ _ (sym c.open.ensures ∙ c.in-Ok.is) in
    (o.within, omega arith, omega arith, c.requires)

pub content_on-inside-requires : goal.content_on-inside-requires
content_on-inside-requires c = let o = opened_placed c.args.ids c.args.s.now _ _ _ (sym c.open.ensures ∙ c.in-Ok.is) in
    record { at_in_bounds = (o.within, c.onward-reached.ensures.0.goes.0, c.onward-reached.ensures.1); at_value = c.onward-reached.ensures.0.read }

pub close-requires : goal.close-requires
close-requires c = let o = opened_placed c.args.ids c.args.s.now _ _ _ (sym c.open.ensures ∙ c.in-Ok.is) in
    (omega arith, omega arith, c.content_on-inside.ensures.0)

pub verdict_at-requires : goal.verdict_at-requires
verdict_at-requires c = let o = opened_placed c.args.ids c.args.s.now _ _ _ (sym c.open.ensures ∙ c.in-Ok.is) in
    (omega arith, omega arith, o.within, c.content_on-inside.ensures.1, c.onward-reached.ensures.0)

pub returns-in-Err : goal.returns-in-Err
returns-in-Err c = (sym (document_unopened c.args.name.now c.args.root c.args.ids c.args.s.now _ (sym c.open.ensures ∙ c.in-Err.is)), c.requires)

pub returns-in-Err-close : goal.returns-in-Err-close
returns-in-Err-close c = (sym (document_unclosed c.args.name.now c.args.root c.args.ids c.args.s.now _ _ _ (sym c.open.ensures ∙ c.in-Ok.is) _ c.content_on-inside.ensures.0 _ (sym c.close.ensures ∙ c.in-Err-close.is)), c.content_on-inside.ensures.1)

pub returns-in-Ok-close : goal.returns-in-Ok-close
returns-in-Ok-close c = (c.verdict_at.ensures ∙ sym (document_rooted c.args.name.now c.args.root c.args.ids c.args.s.now _ _ _ (sym c.open.ensures ∙ c.in-Ok.is) _ c.content_on-inside.ensures.0 (sym c.close.ensures ∙ c.in-Ok-close.is)), c.content_on-inside.ensures.1)
