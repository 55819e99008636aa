use mathlib.Core.Path.{◌≡◌}
use Prim.Native.Nat.{◌-◌, ◌≤◌}
use lib.ListN.{length}
use Rattle.schema.specs.declared.Parent.TheVariants.{MessaggiEsito}
use Rattle.rows.specs.Kept.{kept_from}
use Rattle.orders.specs.Orders.{in_row}
use Rattle.agreement.specs.Agreement.{entry_row, entries_off_at}
use Rattle.agreement.proofs.entries_off.Given as goal

abbrev pub invariant-loop-k : goal.invariant-loop-k
invariant-loop-k l = (l.i ≤ length l.s) × (entries_off_at l.kind l.s (in_row (entry_row l.kind) (kept_from MessaggiEsito l.s l.from)) ≡ entries_off_at l.kind l.s (in_row (entry_row l.kind) (kept_from MessaggiEsito l.s l.i)))

abbrev pub decreases-loop-k : goal.decreases-loop-k
decreases-loop-k l = length l.s - l.i
