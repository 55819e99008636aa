use mathlib.Core.Path.{sym, ◌∙◌}
use borrow.Author.Tests.{not-false}
use Rattle.cases_table.proofs.say_table.Goals as goal

pub say_bodies-requires : goal.say_bodies-requires
say_bodies-requires g c = sym c.table_ok.ensures ∙ not-false _ c.if-not-table_ok.false-raw

pub say_found-requires : goal.say_found-requires
say_found-requires g c = sym c.table_ok.ensures ∙ not-false _ c.if-not-table_ok.false-raw
