use mathlib.Core.Path.{sym, ◌∙◌}
use Rattle.texts.proofs.Laws.{whole_is}
use Rattle.texts.proofs.is_text.Goals as goal

pub returns-in-Ok : goal.returns-in-Ok
returns-in-Ok c = sym (whole_is c.args.t.now _ (sym c.in-Ok.is ∙ c.text.ensures))

pub returns-in-Err : goal.returns-in-Err
returns-in-Err c = sym (whole_is c.args.t.now _ (sym c.in-Err.is ∙ c.text.ensures))
