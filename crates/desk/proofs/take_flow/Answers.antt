use mathlib.Core.Path.{sym, ◌∙◌}
use borrow.Author.Tests.{not-true, not-false}
use Rattle.markup.proofs.Noted.{noted_none}
use Rattle.desk.proofs.Laws.{flow_invalid, flow_unknown, flow_long, flow_read}
use Rattle.desk.proofs.take_flow.Goals as goal

pub returns-then-not-table_ok : goal.returns-then-not-table_ok
returns-then-not-table_ok c = flow_invalid c.args.t.now c.args.edition c.args.f.now c.args.out.now (sym c.table_ok.ensures ∙ not-true _ c.if-not-table_ok.true-raw)

pub returns-in_default : goal.returns-in_default
returns-in_default c = flow_unknown c.args.t.now c.args.edition c.args.f.now c.args.out.now (sym c.table_ok.ensures ∙ not-false _ c.if-not-table_ok.false-raw) (sym c.edition_of.ensures ∙ c.in_default.is)

pub returns-then-f-gt32768 : goal.returns-then-f-gt32768
returns-then-f-gt32768 c = flow_long c.args.t.now c.args.edition c.args.f.now c.args.out.now (sym c.table_ok.ensures ∙ not-false _ c.if-not-table_ok.false-raw) _ (sym c.edition_of.ensures ∙ c.in-Some.is) c.if-f-gt32768.true

pub take_noted-requires : goal.take_noted-requires
take_noted-requires c = ((sym c.table_ok.ensures ∙ not-false _ c.if-not-table_ok.false-raw), c.if-f-gt32768.false, noted_none c.args.f.now 1024)

pub returns-then-f-lt4096 : goal.returns-then-f-lt4096
returns-then-f-lt4096 c = flow_read c.args.t.now c.args.edition c.args.f.now c.args.out.now (sym c.table_ok.ensures ∙ not-false _ c.if-not-table_ok.false-raw) _ (sym c.edition_of.ensures ∙ c.in-Some.is) c.if-f-gt32768.false c.take_noted.ensures

pub take_noted-requires-2 : goal.take_noted-requires-2
take_noted-requires-2 c = ((sym c.table_ok.ensures ∙ not-false _ c.if-not-table_ok.false-raw), c.if-f-gt32768.false, noted_none c.args.f.now 8193)

pub returns : goal.returns
returns c = flow_read c.args.t.now c.args.edition c.args.f.now c.args.out.now (sym c.table_ok.ensures ∙ not-false _ c.if-not-table_ok.false-raw) _ (sym c.edition_of.ensures ∙ c.in-Some.is) c.if-f-gt32768.false c.take_noted-2.ensures
