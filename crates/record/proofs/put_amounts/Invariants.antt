use mathlib.Core.Path.{◌≡◌}
use lib.ListN.{take}
use Rattle.words.specs.Numbers.{put}
use Rattle.record.specs.Slot.{flat8}
use Rattle.record.proofs.put_amounts.Given as goal

abbrev pub invariant-loop-i : goal.invariant-loop-i
invariant-loop-i l = l.t ≡ put l.initial.t l.at (flat8 (take l.i l.a))
