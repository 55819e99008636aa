use mathlib.Core.Path.{sym, ap, ◌∙◌}
use mathlib.Core.Bool.{Bool}
use native.Mathlib.Omega.{arith}
use borrow.Author.Tests.{not-true, not-false}
use Rattle.record.specs.Slot.{record_at}
use Rattle.valid.specs.Valid.{executed}
use Rattle.valid.specs.Inner.{judged_by}
use Rattle.valid.proofs.Valid.{ranges_bounds}
use Rattle.valid.proofs.Lines.{broken, ranges_not, lines_is, lines_most, past_not, past_ok, past_sum}
use Rattle.valid.proofs.judge_at.Goals as goal

pub returns-then-not-ranges_ok : goal.returns-then-not-ranges_ok
returns-then-not-ranges_ok c = broken (record_at c.args.t.now c.args.at) (ranges_not (record_at c.args.t.now c.args.at) (sym c.ranges_ok.ensures ∙ not-true _ c.if-not-ranges_ok.true-raw))

pub lines_absent-requires : goal.lines_absent-requires
lines_absent-requires c = (omega arith, lines_most c.args.t.now c.args.at c.from-lines.ensures (sym c.ranges_ok.ensures ∙ not-false _ c.if-not-ranges_ok.false-raw), lines_is c.args.t.now c.args.at c.from-lines.ensures (sym c.ranges_ok.ensures ∙ not-false _ c.if-not-ranges_ok.false-raw))

pub returns-then-not-lines_absent : goal.returns-then-not-lines_absent
returns-then-not-lines_absent c = broken (record_at c.args.t.now c.args.at) (past_not c.args.t.now c.args.at c.from-lines.ensures (sym c.ranges_ok.ensures ∙ not-false _ c.if-not-ranges_ok.false-raw) (sym c.lines_absent.ensures ∙ not-true _ c.if-not-lines_absent.true-raw))

pub lines_there-requires : goal.lines_there-requires
lines_there-requires c = (omega arith, lines_most c.args.t.now c.args.at c.from-lines.ensures (sym c.ranges_ok.ensures ∙ not-false _ c.if-not-ranges_ok.false-raw), lines_is c.args.t.now c.args.at c.from-lines.ensures (sym c.ranges_ok.ensures ∙ not-false _ c.if-not-ranges_ok.false-raw), past_sum c.args.t.now c.args.at c.from-lines.ensures (sym c.ranges_ok.ensures ∙ not-false _ c.if-not-ranges_ok.false-raw) (sym c.lines_absent.ensures ∙ not-false _ c.if-not-lines_absent.false-raw), (ranges_bounds (record_at c.args.t.now c.args.at) (sym c.ranges_ok.ensures ∙ not-false _ c.if-not-ranges_ok.false-raw)).total)

pub returns : goal.returns
returns c = c.lines_there.ensures ∙ ap (λ (b : Bool). judged_by b (executed (record_at c.args.t.now c.args.at))) (sym (past_ok c.args.t.now c.args.at c.from-lines.ensures (sym c.ranges_ok.ensures ∙ not-false _ c.if-not-ranges_ok.false-raw) (sym c.lines_absent.ensures ∙ not-false _ c.if-not-lines_absent.false-raw)))
