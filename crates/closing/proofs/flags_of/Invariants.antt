use lib.ListN.{take}
use Rattle.closing.specs.Closing.{stays_at}
use mathlib.Core.Path.{◌≡◌}
use Rattle.closing.proofs.flags_of.Given as goal

abbrev pub invariant-loop-i : goal.invariant-loop-i
invariant-loop-i l = take l.i l.flags ≡ stays_at l.t l.base l.i l.year
