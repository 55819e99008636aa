use Prim.Native.Nat.{◌≤◌}
use mathlib.Core.Path.{◌≡◌}
use lib.ListN.{drop}
use Rattle.training.specs.Training.{list_of}
use Rattle.plain.specs.Plain.{fits}
use Rattle.room_notices.proofs.book_fits.Given as goal

abbrev pub invariant-loop-i : goal.invariant-loop-i
invariant-loop-i l = (l.i ≤ l.i-end) × (fits (list_of l.b) ≡ fits (drop l.i (list_of l.b)))
