use mathlib.Core.Path.{sym, ap, ◌∙◌}
use Rattle.markup.proofs.Laws.{passed_on}
use Rattle.rows.specs.Read.{read_at, field_read}
use Rattle.rows.proofs.Laws.{read_ok, read_err}
use Rattle.rows.proofs.read_field.Goals as goal

pub returns-in_err-v : goal.returns-in_err-v
unfolding field_read
returns-in_err-v c = passed_on c.from_residual.result _ c.from_residual.ensures.1 ∙ (read_err c.value_of.result c.args.c _ (sym c.ok_or.ensures.value ∙ c.in_err-v.was) ∙ ap (read_at c.args.c) c.value_of.ensures)

pub returns : goal.returns
unfolding field_read
returns c = read_ok c.value_of.result c.args.c _ (sym c.ok_or.ensures.value ∙ c.in_ok-v.was) ∙ ap (read_at c.args.c) c.value_of.ensures
