-- What a log tells in numbers. Assumes nothing.
use Rattle.std.specs.Prelude.{List, [], ◌∷◌, ℕ, ◌+◌}

-- a number for each line, a call with its answer, added up
abbrev pub tally : {C A : Type 0} → (C → A → ℕ) → List (C × A) → ℕ
tally f [] = 0
tally f (l ∷ ls) = f l.0 l.1 + tally f ls
