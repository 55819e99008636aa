use Rattle.std.proofs.Common.{length, ◌≤◌, ◌≡◌}
use Rattle.splice.proofs.repeated.Given as goal

abbrev pub invariant-loop : goal.invariant-loop
invariant-loop l = (l.m ≤ length l.out) × (length l.out ≡ length l.initial.out)
