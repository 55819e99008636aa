-- The loop stands at a place with a tally, and these and the lines still to come determine the whole list's answer.
use Rattle.std.proofs.Common.{◌≡◌, ◌≤◌, length, drop}
use Rattle.lines.specs.Lines.{line_code}
use Rattle.lines.proofs.Laws.{code_from}
use Rattle.lines.proofs.line_check.Given as goal

abbrev pub invariant-loop-i : goal.invariant-loop-i
invariant-loop-i l = record {
  within : l.i ≤ length l.lines;
  so : code_from l.t l.i (drop l.i l.lines) ≡ line_code l.lines l.total;
}
