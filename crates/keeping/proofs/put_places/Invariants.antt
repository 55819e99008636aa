use Prim.Native.Nat.{◌+◌, ◌*◌}
use lib.ListN.{length}
use Rattle.words.specs.Numbers.{put, bytes4}
use Rattle.keeping.specs.Keeping.{blanked_from, each_bytes}
use Rattle.keeping.proofs.Laws.{blanked_rest}
use mathlib.Core.Path.{◌≡◌}
use Rattle.keeping.proofs.put_places.Given as goal

abbrev pub invariant-loop-i : goal.invariant-loop-i
invariant-loop-i l = (l.to + 4 * length (blanked_from l.t l.base l.flags) ≡ l.next + 4 * length (blanked_rest l.t l.base l.flags l.i))
    × (put l.initial.r l.to (each_bytes bytes4 (blanked_from l.t l.base l.flags)) ≡ put l.r l.next (each_bytes bytes4 (blanked_rest l.t l.base l.flags l.i)))
