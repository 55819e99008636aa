use Prim.Native.Nat.{◌≤◌, ◌-◌, ◌+◌, ◌*◌}
use mathlib.Core.Path.{◌≡◌}
use Rattle.table.specs.Table.{head_size, layout_ok}
use Rattle.table.proofs.layout_ok.Given as goal

abbrev pub invariant-loop-i : goal.invariant-loop-i
invariant-loop-i l = (l.p + 49152 * (l.n - l.i) ≤ head_size + l.l.entry * l.n + 49152 * l.n)
    × (layout_ok l.l l.t head_size l.n (head_size + l.l.entry * l.n) ≡ layout_ok l.l l.t (head_size + l.l.entry * l.i) (l.n - l.i) l.p)
