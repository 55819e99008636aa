use lib.ListN.{length}
use Rattle.slots.proofs.Filter.{Marked}
use Rattle.keeping.specs.Keeping.{keeps_at}
use Rattle.keeping.proofs.Laws.{flags_from, sofar}
use mathlib.Core.Path.{◌≡◌}
use Rattle.keeping.proofs.flags_of.Given as goal

abbrev pub invariant-loop-i : goal.invariant-loop-i
invariant-loop-i l = (keeps_at l.closed l.t l.base (length l.initial.flags) ≡ flags_from l.closed l.t l.base (length l.initial.flags) l.flags l.i) × Marked l.seen (sofar l.t l.base l.flags l.i)
