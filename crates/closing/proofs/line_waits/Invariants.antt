use Prim.Native.Nat.{◌+◌, ◌-◌, ◌*◌}
use mathlib.Core.Path.{◌≡◌}
use Rattle.record.specs.Slot.{slot_size}
use Rattle.slots.specs.Slots.{records_at}
use Rattle.closing.specs.Closing.{line_waits}
use Rattle.closing.proofs.line_waits.Given as goal

abbrev pub invariant-loop-i : goal.invariant-loop-i
invariant-loop-i l = line_waits l.year (records_at l.t l.base l.n) ≡ line_waits l.year (records_at l.t (l.base + slot_size * l.i) (l.n - l.i))
