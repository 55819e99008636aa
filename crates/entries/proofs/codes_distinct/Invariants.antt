use Prim.Native.Nat.{◌+◌, ◌-◌, ◌*◌}
use mathlib.Core.Bool.{true}
use mathlib.Core.Path.{◌≡◌}
use Rattle.entries.specs.Entry.{forms_ok, codes_from, distinct_codes}
use Rattle.entries.proofs.codes_distinct.Given as goal

abbrev pub invariant-loop-i : goal.invariant-loop-i
invariant-loop-i l = (forms_ok l.size l.t (l.first + l.size * l.i) (l.n - l.i) ≡ true)
    × (distinct_codes (codes_from l.size l.t l.first l.n) ≡ distinct_codes (codes_from l.size l.t (l.first + l.size * l.i) (l.n - l.i)))
