-- When a flow has the structure of document 01's table ("The structure").
use Rattle.std.specs.Prelude.{ℕ, zero, suc, ◌+◌, List, [], ◌∷◌, Bool, true, false, ◌&&◌, drop, eqb}
use Rattle.scan.specs.Bytes.{between, run}
use Rattle.tokens.specs.Tokens.{white_at}
use Rattle.schema.specs.declared.Parent.{Parent}
use Rattle.schema.specs.declared.Holds.{Holds}
use Rattle.schema.specs.declared.Holds.TheVariants.{Text, Rows}
use Rattle.rows.specs.declared.Kept.{Kept}
use Rattle.children.specs.Child.{children_from}
use Rattle.schema.specs.Table.{Row, table}
use Rattle.rows.specs.Kept.{kept_from}
use Rattle.rows.specs.Replaces.{rows_for}

abbrev pub is_nil : {A : Type 0} → List A → Bool
is_nil [] = true
is_nil (a ∷ t) = false

-- p holds of each of the named children
unfoldable pub all_kept : (Kept → Bool) → List Kept → Bool
all_kept p [] = true
all_kept p (k ∷ ks) = p k && all_kept p ks

-- "NAMED CHILDREN, IN THIS ORDER"

-- how many elements a row takes
pub record Range : Type 0 where
  pub least : ℕ
  pub most : ℕ

abbrev pub ranges : List Row → List Range
ranges [] = []
ranges (r ∷ rs) = record { least = r.least; most = r.most } ∷ ranges rs

abbrev pub takes : Range → ℕ → Bool
takes r n = between r.least r.most n

-- row number `row` takes n elements
abbrev pub allows : List Range → ℕ → ℕ → Bool
allows [] row n = false
allows (r ∷ rs) zero n = takes r n
allows (r ∷ rs) (suc row) n = allows rs row n

-- the row numbers of the named children
unfoldable pub rows_of : List Kept → List ℕ
rows_of [] = []
rows_of (k ∷ ks) = k.row ∷ rows_of ks

abbrev pub is_row : ℕ → ℕ → Bool
is_row n k = eqb k n

-- rows, the first of number n, filled in order: as many elements of row n as it takes, then the rows after it, and nothing more
unfoldable pub in_order : List Range → ℕ → List ℕ → Bool
in_order [] n ks = is_nil ks
in_order (r ∷ rs) n ks = takes r (run (is_row n) ks) && in_order rs (suc n) (drop (run (is_row n) ks) ks)

-- WHAT EACH HOLDS

-- "A childless named element holds text only": content that begins at `at` and holds no element
unfoldable pub text_only : List ℕ → ℕ → Bool
text_only s at = is_nil (children_from s (white_at s at))

-- content that begins at `at` is what is to be held: text only, or the rows of a parent, which an order has by its operation
abbrev pub holds_at : (Parent → ℕ → Bool) → List ℕ → Holds → ℕ → Bool
holds_at deeper s (Text f) at = text_only s at
holds_at deeper s (Rows p) at = deeper (rows_for p s at) at

abbrev pub kept_holds : (Parent → ℕ → Bool) → List ℕ → Kept → Bool
kept_holds deeper s k = holds_at deeper s k.holds (k.child.gt + 1)

-- named children that have the parent's structure: they stand in the order and number of its rows, and each holds what its row says
unfoldable pub fit_by : (Parent → ℕ → Bool) → Parent → List ℕ → List Kept → Bool
fit_by deeper p s ks = in_order (ranges (table p)) 0 (rows_of ks) && all_kept (kept_holds deeper s) ks

-- content that begins at `at` has the structure of the parent, of at most d levels
unfoldable pub fits_at : ℕ → Parent → List ℕ → ℕ → Bool
fits_at zero p s at = false
fits_at (suc d) p s at = fit_by (λ q a. fits_at d q s a) p s (kept_from p s (white_at s at))

-- the root's levels: flusso_ordinativi, mandato, informazioni_beneficiario, beneficiario
abbrev pub levels : ℕ
levels = 4
