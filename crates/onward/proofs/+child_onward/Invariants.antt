use mathlib.Core.Path.{◌≡◌}
use Prim.Native.Nat.{◌+◌, ◌-◌}
use lib.ListN.{length}
use Rattle.markup.specs.Noted.{Noted}
use Rattle.onward.proofs.Laws.{Stood}
use Rattle.onward.proofs.+child_onward.Given as goal

abbrev pub decreases-child : goal.decreases-child
decreases-child l = l.d + l.d

abbrev pub decreases-onward : goal.decreases-onward
decreases-onward l = l.d + l.d + 1

abbrev pub invariant-onward-loop-e : goal.invariant-onward-loop-e
invariant-onward-loop-e l = Stood l.d l.depth l.p l.s l.at l.i l.row l.count × Noted l.s l.past × (length l.past ≡ length l.initial.past)

abbrev pub decreases-onward-loop-e : goal.decreases-onward-loop-e
decreases-onward-loop-e l = length l.s - l.i
