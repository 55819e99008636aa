use mathlib.Core.Path.{◌≡◌}
use Prim.Native.Nat.{◌≤◌, ◌<◌}
use lib.ListN.{length, drop}
use Rattle.digits.specs.Digits.{digits, digits_after}
use Rattle.digits.proofs.Laws.{p10}
use Rattle.digits.proofs.digits_of.Given as goal

abbrev pub invariant-loop-b : goal.invariant-loop-b
invariant-loop-b l = (length l.t ≤ 9) × (l.v < p10 l.b-index) × (digits l.lo l.hi l.t ≡ digits_after l.v (drop l.b-index l.t))
