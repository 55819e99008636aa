use Prim.Native.Nat.{◌≤◌}
use mathlib.Core.Path.{◌≡◌}
use mathlib.Core.List.{map}
use lib.ListN.{length, take}
use Rattle.table.specs.Table.{head_size}
use Rattle.room.specs.Room.{listed}
use Rattle.plain.specs.Says.{listed_from}
use Rattle.enrolment.proofs.seated.Given as goal

abbrev pub invariant-loop-b : goal.invariant-loop-b
invariant-loop-b l = (l.b ≤ l.n) × (length l.seats ≡ 16) × (map listed (take l.b l.seats) ≡ listed_from l.t head_size l.b)
