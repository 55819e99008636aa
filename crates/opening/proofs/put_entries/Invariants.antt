use Prim.Native.Nat.{◌≤◌, ◌-◌, ◌+◌, ◌*◌}
use mathlib.Core.Path.{◌≡◌}
use Rattle.words.specs.Numbers.{put}
use Rattle.entries.specs.Entry.{entry_size, request_size}
use Rattle.contents.specs.Contents.{entries_bytes}
use Rattle.table.specs.Table.{head_size}
use Rattle.request.specs.Request.{first_body}
use Rattle.opening.specs.Opening.{no_cents}
use Rattle.opening.proofs.put_entries.Given as goal

abbrev pub invariant-loop-i : goal.invariant-loop-i
invariant-loop-i l = (l.p ≤ head_size + entry_size * l.n + 6291360 * l.i)
    × (put l.initial.t head_size (entries_bytes request_size no_cents l.q first_body l.n (head_size + entry_size * l.n))
    ≡ put l.t (head_size + entry_size * l.i) (entries_bytes request_size no_cents l.q (first_body + request_size * l.i) (l.n - l.i) l.p))
