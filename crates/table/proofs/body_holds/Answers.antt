use mathlib.Core.Path.{sym, ◌∙◌}
use native.Mathlib.Omega.{arith}
use Rattle.body.proofs.Laws.{summed_right}
use Rattle.table.proofs.body_holds.Goals as goal

pub years_hold-requires : goal.years_hold-requires
years_hold-requires c = let e = sym c.judge.ensures ∙ c.in-Some.is in
    (c.requires.0, omega arith, omega arith, (summed_right _ _ _ e).0)
