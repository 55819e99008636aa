use mathlib.Core.Path.{sym, ◌∙◌}
use Rattle.standing.proofs.Second.{judged}
use Rattle.standing.proofs.judge_on.Goals as goal

pub returns-in-Some-Structure : goal.returns-in-Some-Structure
returns-in-Some-Structure c = judged c.args.d c.args.parent c.args.s.now c.args.at (rw c.in-Some-Structure.field-0-is at (sym c.in-Some-Structure.is ∙ (c.walk_on.ensures ∙ sym c.requires.goes.3)))

pub returns-in-Some-Field : goal.returns-in-Some-Field
returns-in-Some-Field c = c.first_bad.ensures ∙ judged c.args.d c.args.parent c.args.s.now c.args.at (rw c.in-Some-Field.field-0-is at (sym c.in-Some-Field.is ∙ (c.walk_on.ensures ∙ sym c.requires.goes.3)))

pub returns-in-None : goal.returns-in-None
returns-in-None c = judged c.args.d c.args.parent c.args.s.now c.args.at (sym c.in-None.is ∙ (c.walk_on.ensures ∙ sym c.requires.goes.3))
