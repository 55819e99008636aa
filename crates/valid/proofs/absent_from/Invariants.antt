use Prim.Native.Nat.{◌-◌}
use mathlib.Core.Path.{◌≡◌}
use mathlib.Core.Bool.{◌&&◌}
use Rattle.record.specs.Slot.{record_at}
use Rattle.valid.specs.Valid.{line_ok, all_from}
use Rattle.valid.proofs.absent_from.Given as goal

abbrev pub invariant-loop-k : goal.invariant-loop-k
invariant-loop-k l = all_from (line_ok (record_at l.t l.at)) l.lines (8 - l.lines) ≡ (l.right && all_from (line_ok (record_at l.t l.at)) l.k (8 - l.k))
