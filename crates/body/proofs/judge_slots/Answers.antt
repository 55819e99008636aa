use Rattle.std.proofs.Common.{arith, sym, ◌∙◌}
use Rattle.body.proofs.Laws.{sofar_start, sofar_broken, its_most, sofar_more, sofar_done}
use Rattle.body.proofs.judge_slots.Goals as goal

pub loop-i-init : goal.loop-i-init
loop-i-init c = sofar_start c.args.t.now c.args.base c.args.n

pub returns-in_err-cents : goal.returns-in_err-cents
returns-in_err-cents c = c.from_residual.ensures ∙ sofar_broken c.loop-i.invariant _ (omega arith) (sym c.judge_slot.ensures ∙ c.in_err-cents.was)

pub overflow_add-paid : goal.overflow_add-paid
overflow_add-paid c = let m = its_most c.loop-i.invariant (omega arith) (sym c.judge_slot.ensures ∙ c.in_ok-cents.was) in
    omega (arith, c.loop-i.invariant.paid_most, c.line_cents-paid.ensures.1)

pub overflow_add-collected : goal.overflow_add-collected
overflow_add-collected c = let m = its_most c.loop-i.invariant (omega arith) (sym c.judge_slot.ensures ∙ c.in_ok-cents.was) in
    omega (arith, c.loop-i.invariant.collected_most, c.line_cents-collected.ensures.1)

pub loop-i-preserved : goal.loop-i-preserved
loop-i-preserved c = sofar_more c.loop-i.invariant (omega arith) (sym c.judge_slot.ensures ∙ c.in_ok-cents.was) c.line_cents-paid.result c.line_cents-collected.result c.line_cents-paid.ensures.0 c.line_cents-collected.ensures.0 c.line_cents-paid.ensures.1 c.line_cents-collected.ensures.1

pub returns : goal.returns
returns c = sofar_done c.loop-i.invariant (omega arith)
