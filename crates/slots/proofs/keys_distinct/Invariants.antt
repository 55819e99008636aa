use Prim.Native.Nat.{◌+◌, ◌-◌, ◌*◌}
use mathlib.Core.Bool.{true}
use mathlib.Core.Path.{◌≡◌}
use Rattle.record.specs.Slot.{slot_size}
use Rattle.slots.specs.Slots.{slots_at, distinct}
use Rattle.slots.proofs.Filter.{Marked}
use Rattle.slots.proofs.keys_distinct.Given as goal

abbrev pub invariant-loop-later : goal.invariant-loop-later
invariant-loop-later l = (distinct (slots_at l.t (l.base + slot_size * (l.n - l.later)) l.later) ≡ true) × Marked l.seen (slots_at l.t (l.base + slot_size * (l.n - l.later)) l.later)
