use borrow.Author.Tests.{not-true, not-false}
use Rattle.flow.proofs.Laws.{flow_stood}
use Rattle.message_fit.specs.Holding.{caller_in}
use Rattle.message_write.specs.Parts.{message_by}
use Rattle.message_write.proofs.Laws.{flow_rooted, flow_filled, unfit_outcomes, unfit_caller, fit_written, fit_made, counted_none, counted_some}
use Rattle.message_write.proofs.standing.Goals as goal

pub white_end-from-requires : goal.white_end-from-requires
white_end-from-requires c = (flow_stood c.args.e c.args.f.now c.args.at c.requires.0).within

pub outcomes_fit-requires : goal.outcomes_fit-requires
outcomes_fit-requires c = flow_rooted c.args.e c.args.f.now c.args.at c.white_end-from.result c.white_end-from.ensures c.root_of-root.result c.root_of-root.ensures c.args.past.now c.requires.0 c.requires.1

pub returns-then-not-outcomes_fit : goal.returns-then-not-outcomes_fit
returns-then-not-outcomes_fit c = unfit_outcomes c.args.e c.args.f.now c.args.at c.white_end-from.result c.white_end-from.ensures c.root_of-root.result c.root_of-root.ensures c.args.m.now c.args.out.now (caller_in c.args.t.held c.args.t.bytes.now) c.outcomes_fit.ensures (not-true _ c.if-not-outcomes_fit.true-raw)

pub returns-then-not-t : goal.returns-then-not-t
returns-then-not-t c = unfit_caller c.args.e c.args.f.now c.args.at c.white_end-from.result c.white_end-from.ensures c.root_of-root.result c.root_of-root.ensures c.args.m.now c.args.out.now (caller_in c.args.t.held c.args.t.bytes.now) c.outcomes_fit.ensures (not-false _ c.if-not-outcomes_fit.false-raw) c.requires.2.right c.if-not-t.true

pub header_from-h-requires : goal.header_from-h-requires
header_from-h-requires c = (flow_filled c.args.e c.args.f.now c.args.at c.white_end-from.result c.white_end-from.ensures c.requires.0, c.requires.1)

pub name_of-w-requires : goal.name_of-w-requires
name_of-w-requires c = (flow_filled c.args.e c.args.f.now c.args.at c.white_end-from.result c.white_end-from.ensures c.requires.0, c.requires.1)

pub whole-n-requires : goal.whole-n-requires
whole-n-requires c = fit_made c.args.e c.args.f.now c.args.past.now c.args.at c.white_end-from.result c.white_end-from.ensures c.root_of-root.result c.root_of-root.ensures c.args.m.now c.args.out.now c.outcomes_fit.ensures (not-false _ c.if-not-outcomes_fit.false-raw) c.requires.2 c.if-not-t.false c.header_from-h.result c.name_of-w.result c.header_from-h.ensures c.name_of-w.ensures c.requires.0 c.requires.1

pub returns-then-m-n : goal.returns-then-m-n
returns-then-m-n c = fit_written c.args.e c.args.f.now c.args.at c.white_end-from.result c.white_end-from.ensures c.root_of-root.result c.root_of-root.ensures c.args.m.now c.args.out.now (caller_in c.args.t.held c.args.t.bytes.now) c.outcomes_fit.ensures (not-false _ c.if-not-outcomes_fit.false-raw) c.requires.2.right c.if-not-t.false c.header_from-h.result c.name_of-w.result c.header_from-h.ensures c.name_of-w.ensures.0 (counted_none c.args.m.now (message_by c.args.f.now c.white_end-from.result c.root_of-root.result c.header_from-h.result c.name_of-w.result c.args.out.now (caller_in c.args.t.held c.args.t.bytes.now)) c.whole-n.ensures c.if-m-n.true)

pub whole-requires : goal.whole-requires
whole-requires c = fit_made c.args.e c.args.f.now c.args.past.now c.args.at c.white_end-from.result c.white_end-from.ensures c.root_of-root.result c.root_of-root.ensures c.args.m.now c.args.out.now c.outcomes_fit.ensures (not-false _ c.if-not-outcomes_fit.false-raw) c.requires.2 c.if-not-t.false c.header_from-h.result c.name_of-w.result c.header_from-h.ensures c.name_of-w.ensures c.requires.0 c.requires.1

pub returns : goal.returns
returns c = fit_written c.args.e c.args.f.now c.args.at c.white_end-from.result c.white_end-from.ensures c.root_of-root.result c.root_of-root.ensures c.args.m.now c.args.out.now (caller_in c.args.t.held c.args.t.bytes.now) c.outcomes_fit.ensures (not-false _ c.if-not-outcomes_fit.false-raw) c.requires.2.right c.if-not-t.false c.header_from-h.result c.name_of-w.result c.header_from-h.ensures c.name_of-w.ensures.0 (counted_some c.args.m.now (message_by c.args.f.now c.white_end-from.result c.root_of-root.result c.header_from-h.result c.name_of-w.result c.args.out.now (caller_in c.args.t.held c.args.t.bytes.now)) c.whole-n.ensures c.if-m-n.false c.whole.ensures)
