use mathlib.Core.Path.{sym, ap, ◌∙◌}
use Rattle.standing.proofs.Second.{found_by}
use Rattle.standing.proofs.field_found.Goals as goal

pub returns-in-Ok : goal.returns-in-Ok
returns-in-Ok c = ap (found_by c.args.c.lt) (sym c.in-Ok.is ∙ c.field_of.ensures)

pub returns-in-Err : goal.returns-in-Err
returns-in-Err c = ap (found_by c.args.c.lt) (sym c.in-Err.is ∙ c.field_of.ensures)
