use mathlib.Core.Path.{◌≡◌}
use Prim.Native.Nat.{◌≤◌}
use Rattle.structure.specs.Walk.{paired, filled_from}
use Rattle.structure.proofs.filled_in.Given as goal

abbrev pub invariant-loop-i : goal.invariant-loop-i
invariant-loop-i l = (l.i ≤ l.to) × (filled_from (paired l.pairs) l.row l.n l.to ≡ filled_from (paired l.pairs) l.i l.m l.to)
