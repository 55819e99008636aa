use Prim.Native.Nat.{◌+◌, ◌-◌, ◌*◌}
use mathlib.Core.Bool.{true}
use mathlib.Core.Path.{◌≡◌}
use Rattle.entries.specs.Entry.{forms_ok, codes_from, find_code}
use Rattle.entries.proofs.find_code.Given as goal

abbrev pub invariant-loop-i : goal.invariant-loop-i
invariant-loop-i l = (forms_ok l.size l.t (l.first + l.size * l.i) (l.n - l.i) ≡ true)
    × (find_code (codes_from l.size l.t l.first l.n) 0 l.code ≡ find_code (codes_from l.size l.t (l.first + l.size * l.i) (l.n - l.i)) l.i l.code)
