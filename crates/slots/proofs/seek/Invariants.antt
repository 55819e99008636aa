use Prim.Native.Nat.{◌+◌, ◌-◌, ◌*◌}
use mathlib.Core.Path.{◌≡◌}
use Rattle.record.specs.Slot.{slot_size}
use Rattle.slots.specs.Slots.{records_at}
use Rattle.slots.specs.Inner.{seek_in}
use Rattle.slots.proofs.seek.Given as goal

abbrev pub invariant-loop-i : goal.invariant-loop-i
invariant-loop-i l = seek_in (records_at l.t l.base l.n) 0 l.key ≡ seek_in (records_at l.t (l.base + slot_size * l.i) (l.n - l.i)) l.i l.key
