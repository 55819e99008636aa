use Prim.Native.Nat.{◌≤◌}
use mathlib.Core.Path.{◌≡◌}
use Rattle.order.specs.Ordinativo.{lines_there}
use Rattle.replacing.specs.Inner.{named_earlier}
use Rattle.replacing.proofs.named_before.Given as goal

abbrev pub invariant-loop-i : goal.invariant-loop-i
invariant-loop-i l = (l.i ≤ l.j) × (named_earlier l.o.kind (lines_there l.o.lines) l.j l.m ≡ named_earlier l.o.kind (lines_there l.o.lines) l.i l.m)
