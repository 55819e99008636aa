use Prim.Native.Nat.{◌-◌, ◌*◌}
use mathlib.Core.Path.{◌≡◌}
use Rattle.words.specs.Numbers.{put, bytes2}
use Rattle.table.specs.Table.{head_size, entry_of}
use Rattle.keeping.specs.Keeping.{each_bytes}
use Rattle.salvage.specs.Salvage.{moved_in}
use Rattle.salvage.proofs.put_moved.Given as goal

abbrev pub invariant-loop-i : goal.invariant-loop-i
invariant-loop-i l = (put l.initial.r 0 (each_bytes bytes2 (moved_in l.t head_size l.n)) ≡ put l.r (2 * l.i) (each_bytes bytes2 (moved_in l.t (entry_of l.i) (l.n - l.i))))
