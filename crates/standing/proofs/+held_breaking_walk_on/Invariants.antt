use Prim.Native.Nat.{◌-◌, ◌+◌, ◌*◌}
use lib.ListN.{length}
use Rattle.rows.specs.Kept.{kept_from}
use Rattle.standing.specs.Walk.{rest, Goes}
use Rattle.standing.proofs.+held_breaking_walk_on.Given as goal

abbrev pub decreases-held_breaking : goal.decreases-held_breaking
decreases-held_breaking l = 2 * l.d

abbrev pub decreases-walk_on : goal.decreases-walk_on
decreases-walk_on l = 2 * l.d + 1

abbrev pub invariant-walk_on-loop-parent : goal.invariant-walk_on-loop-parent
invariant-walk_on-loop-parent l = Goes (rest l.d l.parent l.s l.row l.n (kept_from l.parent l.s l.from)) l.d l.parent l.s l.so_far l.i l.last l.m

abbrev pub decreases-walk_on-loop-parent : goal.decreases-walk_on-loop-parent
decreases-walk_on-loop-parent l = length l.s - l.i
