use mathlib.Core.Path.{sym, ◌∙◌}
use native.Mathlib.Omega.{arith}
use borrow.Author.Tests.{not-true, not-false}
use Rattle.order.specs.Ordinativo.{ordinativo}
use Rattle.message_fit.proofs.Laws.{fitting_start, fitting_end, fitting_order, fitting_short, fitting_not, fitting_step, whole_rest}
use Rattle.message_fit.proofs.outcomes_fit.Goals as goal

pub loop-k-init : goal.loop-k-init
loop-k-init c = fitting_start c.args.out.now c.requires

pub next_order-requires : goal.next_order-requires
next_order-requires c = (c.loop-k.invariant.rooted.within, c.loop-k.invariant.rooted.noted)

pub returns : goal.returns
returns c = fitting_end c.loop-k.invariant (sym c.next_order.ensures ∙ c.in_default.is)

pub overflow_sub-out : goal.overflow_sub-out
overflow_sub-out c = let w = c.loop-k.invariant.within in omega arith

pub returns-then-out-at-lt16 : goal.returns-then-out-at-lt16
returns-then-out-at-lt16 c = fitting_short c.loop-k.invariant c.in-Some.k (sym c.next_order.ensures ∙ c.in-Some.is) c.if-out-at-lt16.true

pub order_of-o-requires : goal.order_of-o-requires
order_of-o-requires c = ((fitting_order c.loop-k.invariant c.in-Some.k (sym c.next_order.ensures ∙ c.in-Some.is)).shaped, c.loop-k.invariant.rooted.noted)

pub outcome_fits-requires : goal.outcome_fits-requires
outcome_fits-requires c = let w = c.loop-k.invariant.within in omega (arith, c.if-out-at-lt16.false)

pub returns-then-not-outcome_fits : goal.returns-then-not-outcome_fits
returns-then-not-outcome_fits c = fitting_not c.loop-k.invariant c.in-Some.k (sym c.next_order.ensures ∙ c.in-Some.is) c.if-out-at-lt16.false c.order_of-o.ensures.0 (whole_rest c.args.out.now c.loop-k.at (ordinativo c.order_of-o.result) c.outcome_fits.ensures) (not-true _ c.if-not-outcome_fits.true-raw)

pub overflow_add-at : goal.overflow_add-at
overflow_add-at c = let w = c.loop-k.invariant.within in let g = c.well_formed.1.1.1.0.0 in omega (arith, c.if-out-at-lt16.false)

pub loop-k-smaller : goal.loop-k-smaller
loop-k-smaller c = let l = (fitting_order c.loop-k.invariant c.in-Some.k (sym c.next_order.ensures ∙ c.in-Some.is)).lies in omega arith

pub loop-k-preserved : goal.loop-k-preserved
loop-k-preserved c = fitting_step c.loop-k.invariant c.in-Some.k (sym c.next_order.ensures ∙ c.in-Some.is) c.if-out-at-lt16.false c.order_of-o.ensures.0 (whole_rest c.args.out.now c.loop-k.at (ordinativo c.order_of-o.result) c.outcome_fits.ensures) (not-false _ c.if-not-outcome_fits.false-raw)
