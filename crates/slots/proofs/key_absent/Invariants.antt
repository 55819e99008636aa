use Prim.Native.Nat.{◌+◌, ◌-◌, ◌*◌}
use mathlib.Core.Path.{◌≡◌}
use Rattle.record.specs.Slot.{slot_size}
use Rattle.slots.specs.Slots.{find_in, slots_at}
use Rattle.slots.proofs.key_absent.Given as goal

abbrev pub invariant-loop-i : goal.invariant-loop-i
invariant-loop-i l = find_in (slots_at l.t l.base l.n) 0 l.key ≡ find_in (slots_at l.t (l.base + slot_size * l.i) (l.n - l.i)) l.i l.key
