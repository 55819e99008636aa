use Rattle.std.proofs.Common.{length, ◌≤◌, ◌≡◌}
use Rattle.deskbook.proofs.run_lines.Given as goal

abbrev pub invariant-loop-line : goal.invariant-loop-line
invariant-loop-line g l = (l.len ≤ length l.t) × (length l.t ≡ length l.initial.t)
