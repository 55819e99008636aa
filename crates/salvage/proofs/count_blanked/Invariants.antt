use Prim.Native.Nat.{◌+◌, ◌-◌, ◌*◌, ◌≤◌}
use lib.ListN.{length}
use mathlib.Core.Path.{◌≡◌}
use Rattle.table.specs.Table.{entry_of}
use Rattle.salvage.specs.Salvage.{blanked, blanked_in}
use Rattle.salvage.proofs.count_blanked.Given as goal

abbrev pub invariant-loop-i : goal.invariant-loop-i
invariant-loop-i l = (length (blanked l.t) ≡ l.count + length (blanked_in l.t (entry_of l.i) (l.n - l.i))) × (l.count ≤ 512 * l.i)
