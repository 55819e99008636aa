use Prim.Native.Nat.{◌+◌, ◌≤◌}
use lib.ListN.{length}
use Rattle.keeping.specs.Keeping.{blanked_from}
use Rattle.keeping.proofs.Laws.{blanked_rest}
use mathlib.Core.Path.{◌≡◌}
use Rattle.keeping.proofs.count_blanked.Given as goal

abbrev pub invariant-loop-i : goal.invariant-loop-i
invariant-loop-i l = (l.count ≤ l.i) × (length (blanked_from l.t l.base l.flags) ≡ l.count + length (blanked_rest l.t l.base l.flags l.i))
