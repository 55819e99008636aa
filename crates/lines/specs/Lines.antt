-- The lines of an order (document 01, "Answers"): what their numbers and their sum come to.
use Rattle.std.specs.Prelude.{ℕ, ◌+◌, Bool, true, ◌&&◌, cond, List, [], ◌∷◌, eqb}
use Rattle.order.specs.declared.Line.{Line}

-- numbered n, n + 1, n + 2 and so on
unfoldable pub numbered_from : ℕ → List Line → Bool
numbered_from n [] = true
numbered_from n (l ∷ ls) = eqb l.progressivo n && numbered_from (n + 1) ls

unfoldable pub sum_of : List Line → ℕ
sum_of [] = 0
sum_of (l ∷ ls) = l.amount + sum_of ls

-- "12 lines not numbered 1, 2, 3 and so on; 13 line amounts don't sum to the total"; 0 where both hold
unfoldable pub line_code : List Line → ℕ → ℕ
line_code ls total = cond (numbered_from 1 ls) (cond (eqb (sum_of ls) total) 0 13) 12
