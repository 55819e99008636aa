use Rattle.std.specs.Prelude.{Err}
use mathlib.Core.Path.{ap, sym, ◌∙◌}
use Rattle.address.proofs.Laws.{slots}
use Rattle.year_end.proofs.Laws.{slots_fit, no_table, no_body, closed_at}
use Rattle.year_end.proofs.close.Goals as goal

pub close_in-requires : goal.close_in-requires
close_in-requires c = slots_fit (slots c.args.t.now c.args.code.now (sym c.addressed_by.ensures ∙ c.in-Ok.is))

pub returns-in-Err-Invalid : goal.returns-in-Err-Invalid
returns-in-Err-Invalid c = no_table c.args.t.now c.args.code.now c.args.year (sym c.addressed_by.ensures ∙ c.in-Err-Invalid.is ∙ ap Err c.in-Err-Invalid.field-0-is)

pub returns-in-Err-Unknown : goal.returns-in-Err-Unknown
returns-in-Err-Unknown c = no_body c.args.t.now c.args.code.now c.args.year (sym c.addressed_by.ensures ∙ c.in-Err-Unknown.is ∙ ap Err c.in-Err-Unknown.field-0-is)

pub returns-in-Ok : goal.returns-in-Ok
returns-in-Ok c = closed_at c.args.t.now c.args.code.now c.args.year (sym c.addressed_by.ensures ∙ c.in-Ok.is) c.close_in.ensures.0 c.close_in.ensures.1
