use mathlib.Core.Path.{◌≡◌}
use Prim.Native.Nat.{◌-◌}
use Rattle.target_days.specs.Target.{first_from}
use Rattle.target_days.proofs.first_from.Given as goal

abbrev pub invariant-loop-passed : goal.invariant-loop-passed
invariant-loop-passed l = first_from 4 l.initial.e ≡ first_from (4 - l.passed) l.e
