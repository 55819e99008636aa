use Prim.Native.Nat.{◌≤◌}
use mathlib.Core.List.{[]}
use mathlib.Core.Path.{◌≡◌}
use Rattle.slots.specs.Slots.{records_at}
use Rattle.journal.specs.Journal.{movements_at, executed_lines, journal_code}
use Rattle.journal.proofs.Marks.{Marks}
use Rattle.journal.proofs.Walk.{code_from}
use Rattle.journal.proofs.one_by_one.Given as goal

abbrev pub invariant-loop-j : goal.invariant-loop-j
invariant-loop-j l = (l.j ≤ l.count) × ((journal_code (executed_lines (records_at l.t l.base l.n)) [] (movements_at l.s 0 l.count) ≡ code_from l.t l.base l.n l.s l.count l.j) × Marks l.t l.base l.used l.marks (movements_at l.s 0 l.j))
