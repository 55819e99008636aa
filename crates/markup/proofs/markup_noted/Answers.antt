use mathlib.Core.Path.{sym, ap, ◌∙◌}
use native.Mathlib.Omega.{arith}
use Rattle.markup.specs.Inner.{then_closed}
use Rattle.markup.proofs.Laws.{passed_on, markup_opened, opened_placed}
use Rattle.markup.proofs.markup_noted.Goals as goal

pub returns-in_err-lt : goal.returns-in_err-lt
returns-in_err-lt c = (passed_on c.from_residual.result _ c.from_residual.ensures.1 ∙ sym (markup_opened c.args.ids c.args.s.now ∙ ap (then_closed c.args.s.now) (sym c.open.ensures ∙ c.in_err-lt.was)), c.requires)

pub content-inside-requires : goal.content-inside-requires
content-inside-requires c = let o = opened_placed c.args.ids c.args.s.now _ _ _ (sym c.open.ensures ∙ c.in_ok-lt.was) in
    (o.within, omega arith, c.requires)

pub close-requires : goal.close-requires
close-requires c = let o = opened_placed c.args.ids c.args.s.now _ _ _ (sym c.open.ensures ∙ c.in_ok-lt.was) in
    (omega arith, omega arith, c.content-inside.ensures.0)

pub returns : goal.returns
returns c = let m = markup_opened c.args.ids c.args.s.now ∙ ap (then_closed c.args.s.now) (sym c.open.ensures ∙ c.in_ok-lt.was) in
    (c.close.ensures ∙ sym (rw c.content-inside.ensures.0 m), c.content-inside.ensures.1)
