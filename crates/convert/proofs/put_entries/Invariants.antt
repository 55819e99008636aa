use Prim.Native.Nat.{◌≤◌, ◌-◌, ◌+◌, ◌*◌}
use mathlib.Core.Path.{◌≡◌}
use Rattle.words.specs.Numbers.{put}
use Rattle.entries.specs.Entry.{entry_size}
use Rattle.table.specs.Table.{table1, head_size}
use Rattle.contents.specs.Contents.{entries_bytes}
use Rattle.convert.specs.Convert.{cents_at}
use Rattle.convert.proofs.put_entries.Given as goal

abbrev pub invariant-loop-i : goal.invariant-loop-i
invariant-loop-i l = (l.p ≤ head_size + entry_size * l.n + 6291360 * l.i)
    × (put l.initial.t head_size (entries_bytes table1.entry (cents_at l.o) l.o head_size l.n (head_size + entry_size * l.n))
    ≡ put l.t (head_size + entry_size * l.i) (entries_bytes table1.entry (cents_at l.o) l.o (head_size + table1.entry * l.i) (l.n - l.i) l.p))
