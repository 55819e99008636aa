use lib.ListN.{take}
use Rattle.ranges.specs.Ranges.{is_nothing}
use Rattle.slots.specs.Slots.{slots_at, find_in}
use Rattle.packing.specs.Packing.{chosen}
use Rattle.keeping.proofs.Laws.{none_from}
use mathlib.Core.Path.{◌≡◌}
use Rattle.keeping.proofs.key_absent.Given as goal

abbrev pub invariant-loop-i : goal.invariant-loop-i
invariant-loop-i l = (is_nothing (find_in (chosen (slots_at l.t l.base l.n) (take l.n l.flags)) 0 l.key) ≡ none_from l.t l.base l.flags l.n l.key l.i)
