use Prim.Native.Nat.{◌+◌, ◌*◌, ◌≤◌}
use mathlib.Core.Path.{◌≡◌}
use lib.ListN.{drop}
use Rattle.bounds.specs.Bounds.{max_cents}
use Rattle.valid.specs.Valid.{executed_in}
use Rattle.room_notices.proofs.record_cents.Given as goal

abbrev pub invariant-loop-k : goal.invariant-loop-k
invariant-loop-k l = (l.k ≤ 8) × (l.cents ≤ max_cents * l.k) × (executed_in l.r.states l.r.amounts ≡ l.cents + executed_in (drop l.k l.r.states) (drop l.k l.r.amounts))
