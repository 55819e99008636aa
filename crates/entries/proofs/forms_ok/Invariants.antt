use Prim.Native.Nat.{◌+◌, ◌-◌, ◌*◌}
use mathlib.Core.Path.{◌≡◌}
use Rattle.entries.specs.Entry.{forms_ok}
use Rattle.entries.proofs.forms_ok.Given as goal

abbrev pub invariant-loop-i : goal.invariant-loop-i
invariant-loop-i l = forms_ok l.size l.t l.first l.n ≡ forms_ok l.size l.t (l.first + l.size * l.i) (l.n - l.i)
