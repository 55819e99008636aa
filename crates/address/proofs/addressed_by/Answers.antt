use mathlib.Core.Path.{sym, ◌∙◌}
use borrow.Author.Tests.{not-true, not-false}
use Rattle.address.proofs.Laws.{to_invalid, to_named}
use Rattle.address.proofs.addressed_by.Goals as goal

pub returns-then-not-table_ok : goal.returns-then-not-table_ok
returns-then-not-table_ok c = to_invalid c.args.t.now c.args.code.now (sym c.table_ok.ensures ∙ not-true _ c.if-not-table_ok.true-raw)

pub body_named-requires : goal.body_named-requires
body_named-requires c = sym c.table_ok.ensures ∙ not-false _ c.if-not-table_ok.false-raw

pub returns : goal.returns
returns c = to_named c.args.t.now c.args.code.now (sym c.table_ok.ensures ∙ not-false _ c.if-not-table_ok.false-raw) c.body_named.ensures
