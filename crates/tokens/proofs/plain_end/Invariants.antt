use mathlib.Core.Path.{◌≡◌}
use Rattle.tokens.specs.Tokens.{text_at}
use Rattle.tokens.proofs.plain_end.Given as goal

abbrev pub invariant-loop-i : goal.invariant-loop-i
invariant-loop-i l = text_at l.s l.at ≡ text_at l.s l.i
