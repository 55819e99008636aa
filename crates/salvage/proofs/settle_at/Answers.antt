use mathlib.Core.Path.{sym, ◌∙◌}
use Rattle.convert.proofs.Laws.{totals_right, totals_broken}
use Rattle.salvage.proofs.Laws.{settled_with}
use Rattle.salvage.proofs.settle_at.Goals as goal

pub returns-in_default : goal.returns-in_default
returns-in_default c = absurd (totals_broken c.args.t.now c.args.at c.place_of-base.ensures.0 c.slots_of-n.ensures.0 c.requires.1 (sym c.judge.ensures ∙ c.in_default.is))

pub returns-in-Some : goal.returns-in-Some
returns-in-Some c = let w = totals_right c.args.t.now c.args.at c.place_of-base.ensures.0 c.slots_of-n.ensures.0 c.requires.1 (sym c.judge.ensures ∙ c.in-Some.is) in
    settled_with c.args.t.now _ c.args.at w.0 w.1 c.settle.ensures
