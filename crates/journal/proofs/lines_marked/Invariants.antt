use Prim.Native.Nat.{◌+◌, ◌≤◌}
use mathlib.Core.Path.{◌≡◌}
use lib.ListN.{drop}
use Rattle.record.specs.Slot.{states_offset, eight_at}
use Rattle.journal.specs.Inner.{states_marked}
use Rattle.journal.proofs.lines_marked.Given as goal

abbrev pub invariant-loop-k : goal.invariant-loop-k
invariant-loop-k l = (l.k ≤ 8) × (states_marked l.marks l.p (eight_at l.t (l.at + states_offset)) ≡ states_marked l.marks (l.p + l.k) (drop l.k (eight_at l.t (l.at + states_offset))))
