use mathlib.Core.Path.{sym, ◌∙◌}
use borrow.Author.Tests.{not-true, not-false}
use Rattle.flow.proofs.Laws.{root_other, root_judged}
use native.Mathlib.Omega.{arith}
use Rattle.flow.proofs.verdict_at.Goals as goal

pub returns-then-not-is : goal.returns-then-not-is
returns-then-not-is c = sym (root_other c.args.name.now c.args.root c.args.s.now c.args.lt c.args.e c.args.at (sym c.is.ensures ∙ not-true _ c.if-not-is.true-raw))

pub judge_on-requires : goal.judge_on-requires
judge_on-requires c = record { at_in_bounds = (c.requires.2, omega arith, c.requires.3); goes = c.requires.4.goes }

pub returns-in-Err-StructureBreaks : goal.returns-in-Err-StructureBreaks
returns-in-Err-StructureBreaks c = sym (root_judged c.args.name.now c.args.root c.args.s.now c.args.lt c.args.e c.args.at _ (sym c.is.ensures ∙ not-false _ c.if-not-is.false-raw) (rw c.in-Err-StructureBreaks.field-0-is at (sym c.judge_on.ensures ∙ c.in-Err-StructureBreaks.is)))

pub returns-in-Err-FieldBreaks : goal.returns-in-Err-FieldBreaks
returns-in-Err-FieldBreaks c = sym (root_judged c.args.name.now c.args.root c.args.s.now c.args.lt c.args.e c.args.at _ (sym c.is.ensures ∙ not-false _ c.if-not-is.false-raw) (rw c.in-Err-FieldBreaks.field-0-is at (sym c.judge_on.ensures ∙ c.in-Err-FieldBreaks.is)))

pub returns-in-Ok : goal.returns-in-Ok
returns-in-Ok c = sym (root_judged c.args.name.now c.args.root c.args.s.now c.args.lt c.args.e c.args.at _ (sym c.is.ensures ∙ not-false _ c.if-not-is.false-raw) (sym c.judge_on.ensures ∙ c.in-Ok.is))
