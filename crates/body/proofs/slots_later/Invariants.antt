use Prim.Native.Nat.{◌+◌, ◌-◌, ◌*◌}
use mathlib.Core.Path.{◌≡◌}
use Rattle.record.specs.Slot.{slot_size}
use Rattle.slots.specs.Slots.{slots_at}
use Rattle.body.specs.Body.{all_later}
use Rattle.body.proofs.slots_later.Given as goal

abbrev pub invariant-loop-i : goal.invariant-loop-i
invariant-loop-i l = all_later l.year (slots_at l.t l.base l.n) ≡ all_later l.year (slots_at l.t (l.base + slot_size * l.i) (l.n - l.i))
