use Prim.Native.Nat.{◌+◌, ◌-◌, ◌*◌, ◌≤◌}
use mathlib.Core.Path.{◌≡◌}
use Rattle.record.specs.Slot.{slot_size}
use Rattle.slots.specs.Slots.{slots_at}
use Rattle.journal.specs.Inner.{all_marked}
use Rattle.journal.proofs.all_marked.Given as goal

abbrev pub invariant-loop-i : goal.invariant-loop-i
invariant-loop-i l = (l.i ≤ l.used) × (all_marked l.marks 0 (slots_at l.t l.base l.used) ≡ all_marked l.marks (8 * l.i) (slots_at l.t (l.base + slot_size * l.i) (l.used - l.i)))
