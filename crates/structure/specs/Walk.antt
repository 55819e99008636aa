-- How the walk over a level's named children counts: names for the contracts of the code's inner functions. What the walk answers is said in Structure.
use Rattle.std.specs.Prelude.{ℕ, zero, suc, ◌+◌, ◌-◌, List, [], ◌∷◌, Bool, true, cond, ◌&&◌, drop, eqb, leb}
use Rattle.scan.specs.Bytes.{run}
use Rattle.schema.specs.declared.Parent.{Parent}
use Rattle.rows.specs.declared.Kept.{Kept}
use Rattle.structure.specs.Structure.{is_nil, all_kept, Range, takes, allows, rows_of, is_row, in_order, fits_at}

-- a table's rows, where the least and the most of each are a pair of bytes
abbrev pub paired : List ℕ → List Range
paired [] = []
paired (a ∷ []) = []
paired (a ∷ b ∷ t) = record { least = a; most = b } ∷ paired t

-- d rows from `row` on, n elements of the first and none of the others counted, take what they have
unfoldable pub filled_by : ℕ → List Range → ℕ → ℕ → Bool
filled_by zero rs row n = true
filled_by (suc d) rs row n = allows rs row n && filled_by d rs (suc row) 0

-- the same of the rows from `row` up to `to`, which is no earlier row
unfoldable pub filled_from : List Range → ℕ → ℕ → ℕ → Bool
filled_from rs row n to = leb row to && filled_by (to - row) rs row n

-- each row takes one element
abbrev pub all_one : List Range → Bool
all_one [] = true
all_one (r ∷ rs) = takes r 1 && all_one rs

-- how many elements of row `to` are counted with one more, where n of `row` were
unfoldable pub counted_of : ℕ → ℕ → ℕ → ℕ
counted_of row n to = cond (eqb to row) (n + 1) 1

-- ORDER AND NUMBER, while the children are walked: n elements of row j, the first of rs, are counted already
unfoldable pub in_order_from : List Range → ℕ → ℕ → List ℕ → Bool
in_order_from [] j n ks = is_nil ks && eqb n 0
in_order_from (r ∷ rs) j n ks = takes r (n + run (is_row j) ks) && in_order rs (suc j) (drop (run (is_row j) ks) ks)

-- THE WALK: what is left to say of the children ks after those that are walked
unfoldable pub goes_on : List Range → (Kept → Bool) → ℕ → ℕ → List Kept → Bool
goes_on rs f row n ks = in_order_from (drop row rs) row n (rows_of ks) && all_kept f ks

-- what the level below says of a parent's content
abbrev pub deeper : ℕ → List ℕ → Parent → ℕ → Bool
deeper d s = λ q a. fits_at (d - 1) q s a
