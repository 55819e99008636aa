use mathlib.Core.Path.{◌≡◌}
use lib.Seq.{paste}
use Rattle.words.proofs.copy_in.Given as goal

abbrev pub invariant-loop-i : goal.invariant-loop-i
invariant-loop-i l = l.s ≡ paste l.initial.s l.at l.v l.i
