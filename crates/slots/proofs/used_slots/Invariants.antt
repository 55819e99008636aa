use Prim.Native.Nat.{◌+◌, ◌-◌, ◌*◌}
use mathlib.Core.Path.{◌≡◌}
use Rattle.record.specs.Slot.{slot_size}
use Rattle.slots.specs.Slots.{used_at}
use Rattle.slots.proofs.used_slots.Given as goal

abbrev pub invariant-loop-i : goal.invariant-loop-i
invariant-loop-i l = used_at l.t l.base l.n ≡ l.i + used_at l.t (l.base + slot_size * l.i) (l.n - l.i)
