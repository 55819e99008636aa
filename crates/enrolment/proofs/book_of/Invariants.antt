use Prim.Native.Nat.{◌≤◌}
use mathlib.Core.Path.{◌≡◌}
use lib.ListN.{length, take}
use Rattle.slots.specs.Slots.{slots_at}
use Rattle.enrolment.proofs.book_of.Given as goal

abbrev pub invariant-loop-i : goal.invariant-loop-i
invariant-loop-i l = (l.i ≤ l.used) × (length l.records ≡ 32) × (take l.i l.records ≡ slots_at l.t l.base l.i)
