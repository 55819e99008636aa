use Prim.Native.Nat.{◌+◌, ◌-◌, ◌*◌}
use mathlib.Core.Path.{◌≡◌}
use Rattle.record.specs.Slot.{slot_size}
use Rattle.slots.specs.Slots.{slots_at}
use Rattle.body.specs.Body.{none_replaced}
use Rattle.body.proofs.slots_unreplaced.Given as goal

abbrev pub invariant-loop-i : goal.invariant-loop-i
invariant-loop-i l = none_replaced (slots_at l.t l.base l.n) ≡ none_replaced (slots_at l.t (l.base + slot_size * l.i) (l.n - l.i))
