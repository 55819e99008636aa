use Prim.Native.Nat.{◌+◌, ◌-◌, ◌*◌}
use lib.ListN.{length}
use mathlib.Core.Path.{◌≡◌}
use Rattle.words.specs.Numbers.{put, bytes4}
use Rattle.table.specs.Table.{entry_of}
use Rattle.keeping.specs.Keeping.{each_bytes}
use Rattle.salvage.specs.Salvage.{blanked, blanked_in}
use Rattle.salvage.proofs.put_blanked.Given as goal

abbrev pub invariant-loop-i : goal.invariant-loop-i
invariant-loop-i l = (2 * l.n + 4 * length (blanked l.t) ≡ l.to + 4 * length (blanked_in l.t (entry_of l.i) (l.n - l.i)))
    × (put l.initial.r (2 * l.n) (each_bytes bytes4 (blanked l.t)) ≡ put l.r l.to (each_bytes bytes4 (blanked_in l.t (entry_of l.i) (l.n - l.i))))
