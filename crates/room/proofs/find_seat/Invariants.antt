use Prim.Native.Nat.{◌≤◌}
use mathlib.Core.Path.{◌≡◌}
use lib.ListN.{drop}
use Rattle.entries.specs.Entry.{find_code}
use Rattle.plain.specs.Plain.{numbered}
use Rattle.room.specs.Room.{room_of}
use Rattle.room.proofs.Laws.{codes_of}
use Rattle.room.proofs.find_seat.Given as goal

abbrev pub invariant-loop-b : goal.invariant-loop-b
invariant-loop-b l = (l.b ≤ l.b-end) × (numbered (room_of l.r) l.code ≡ find_code (drop l.b (codes_of (room_of l.r))) l.b l.code)
