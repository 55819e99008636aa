use Rattle.std.proofs.Common.{◌≤◌, length}
use Rattle.casebook.proofs.say_outcomes.Given as goal

abbrev pub invariant-loop : goal.invariant-loop
invariant-loop g l = length l.rest ≤ length l.out
