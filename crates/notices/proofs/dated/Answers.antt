use mathlib.Core.Bool.{true, false}
use mathlib.Core.Path.{sym, ◌∙◌}
use Rattle.notices.proofs.Laws.{on_target, off_target}
use Rattle.notices.proofs.dated.Goals as goal

pub returns-then-refused-eq0 : goal.returns-then-refused-eq0
returns-then-refused-eq0 c = on_target c.args.t.now c.args.code.now c.args.executing c.args.key c.args.line c.args.day (sym c.code_of-refused.ensures ∙ c.if-refused-eq0.true) c.notice.ensures

pub returns-then-table_ok : goal.returns-then-table_ok
returns-then-table_ok c = off_target c.args.t.now c.args.code.now c.args.executing c.args.key c.args.line c.args.day c.code_of-refused.result (sym c.code_of-refused.ensures) c.if-refused-eq0.false true (sym c.table_ok.ensures ∙ c.if-table_ok.true)

pub returns-else-table_ok : goal.returns-else-table_ok
returns-else-table_ok c = off_target c.args.t.now c.args.code.now c.args.executing c.args.key c.args.line c.args.day c.code_of-refused.result (sym c.code_of-refused.ensures) c.if-refused-eq0.false false (sym c.table_ok.ensures ∙ c.if-table_ok.false)
