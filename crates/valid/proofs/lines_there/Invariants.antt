use Prim.Native.Nat.{◌+◌, ◌≤◌}
use mathlib.Core.Path.{◌≡◌}
use lib.ListN.{drop}
use Rattle.bounds.specs.Bounds.{max_cents}
use Rattle.record.specs.Slot.{record_at}
use Rattle.valid.specs.Valid.{executed_in, executed}
use Rattle.valid.proofs.Lines.{left_ok}
use Rattle.valid.proofs.lines_there.Given as goal

abbrev pub invariant-loop-k : goal.invariant-loop-k
invariant-loop-k l = (l.cents + l.rest ≤ 18446744073709551615)
    × (executed (record_at l.t l.at) ≡ l.cents + executed_in (drop l.k (record_at l.t l.at).states) (drop l.k (record_at l.t l.at).amounts))
    × (left_ok (record_at l.t l.at) l.lines 0 (record_at l.t l.at).total ≡ left_ok (record_at l.t l.at) l.lines l.k l.rest)
    × (l.rest ≤ max_cents)
