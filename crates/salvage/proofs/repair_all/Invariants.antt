use Prim.Native.Nat.{◌-◌}
use mathlib.Core.Bool.{true}
use mathlib.Core.Path.{◌≡◌}
use Rattle.table.specs.Table.{table2, entry_of, bodies, contents_ok}
use Rattle.salvage.specs.Salvage.{repaired, repaired_from}
use Rattle.salvage.proofs.repair_all.Given as goal

abbrev pub invariant-loop-i : goal.invariant-loop-i
invariant-loop-i l = (contents_ok table2 l.t ≡ true)
    × (l.n ≡ bodies l.t)
    × (repaired l.initial.t ≡ repaired_from l.t (entry_of l.i) (l.n - l.i))
