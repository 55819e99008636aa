use Prim.Native.Nat.{◌<◌, ◌-◌, ◌+◌, ◌*◌}
use mathlib.Core.Bool.{true}
use mathlib.Core.Path.{◌≡◌}
use Rattle.entries.specs.Entry.{place_of}
use Rattle.table.specs.Table.{head_size, layout_ok, bodies_ok}
use Rattle.table.proofs.bodies_ok.Given as goal

abbrev pub invariant-loop-i : goal.invariant-loop-i
invariant-loop-i l = (l.i < l.n → layout_ok l.l l.t (head_size + l.l.entry * l.i) (l.n - l.i) (place_of l.t (head_size + l.l.entry * l.i)) ≡ true)
    × (bodies_ok l.l l.t head_size l.n ≡ bodies_ok l.l l.t (head_size + l.l.entry * l.i) (l.n - l.i))
