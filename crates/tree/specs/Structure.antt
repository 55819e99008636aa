-- Document 01, "The structure", said of a tree: "named children, in this order". The schema is its table as data (crates/schema/specs/Table.antt).
use Rattle.std.specs.Prelude.{ℕ, suc, List, [], ◌∷◌, Bool, true, false, cond, ◌&&◌, ◌||◌, length, drop, eqb}
use Rattle.scan.specs.Bytes.{bytes, between, text_is}
use Rattle.schema.specs.declared.Parent.{Parent}
use Rattle.schema.specs.declared.Holds.{Holds}
use Rattle.schema.specs.declared.Holds.TheVariants.{Text, Rows}
use Rattle.schema.specs.Table.{Named, ◌is◌, Row, table}
use Rattle.rows.specs.Replaces.{as_replacing}
use Rattle.tree.specs.Tree.{Tree, tree, Held, says, holds, Trees, none, more, name_of}
use Rattle.tree.specs.Orders.{text_named}

-- WHICH CHILDREN ARE NAMED

-- what the rows say of a name: its element holds this, or isn't among the named children
pub data Said : Type 0 where
  named : Holds → Said
  passed : Said

abbrev pub said_by : List Named → List ℕ → Said → Said
said_by [] x others = others
said_by ((y is h) ∷ ns) x others = cond (text_is (bytes y) x) (named h) (said_by ns x others)

abbrev pub said : List Row → List ℕ → Said
said [] x = passed
said (r ∷ rs) x = said_by r.names x (said rs x)

abbrev pub keep_name : Said → List ℕ → List (List ℕ) → List (List ℕ)
keep_name (named h) x xs = x ∷ xs
keep_name passed x xs = xs

-- the names of the named children; "Elements whose name isn't among their parent's named children may stand before, between or after these"
unfoldable pub kept_names : List Row → Trees → List (List ℕ)
kept_names rs none = []
kept_names rs (more t ts) = keep_name (said rs (name_of t)) (name_of t) (kept_names rs ts)

-- IN THIS ORDER

abbrev pub has_name : List Named → List ℕ → Bool
has_name [] x = false
has_name ((y is h) ∷ ns) x = text_is (bytes y) x || has_name ns x

-- how many at the front have one of these names
unfoldable pub front : List Named → List (List ℕ) → ℕ
front ns [] = 0
front ns (x ∷ xs) = cond (has_name ns x) (suc (front ns xs)) 0

-- as many of the first row's as it takes, then the rows after it, then nothing
unfoldable pub in_rows : List Row → List (List ℕ) → Bool
in_rows [] xs = eqb (length xs) 0
in_rows (r ∷ rs) xs = between r.least r.most (front r.names xs) && in_rows rs (drop (front r.names xs) xs)

-- WHICH ROWS AN ORDER HAS. Document 02, Req 07: "A SOSTITUZIONE line holds its structure once, after beneficiario or versante, else answer 4; other
-- operations pass it over": the order's tipo_operazione, as it stands, says which
abbrev pub replaces_in : Trees → Bool
replaces_in ts = text_is (bytes "SOSTITUZIONE") (text_named "tipo_operazione" ts)

-- the parent whose rows the elements ts have, where the name of what holds them says q
abbrev pub rows_in : Parent → Trees → Parent
rows_in q ts = as_replacing q (replaces_in ts)

-- WHAT EACH HOLDS: "A childless named element holds text only", a parent its named children; what is passed over is so "with all they hold"
unfoldable mutual
  pub tree_fits : Tree → Parent → Bool
  tree_fits (tree p n h) q = held_fits h (said (table q) n)

  pub held_fits : Held → Said → Bool
  held_fits (says t) (named (Text f)) = true
  held_fits (says t) (named (Rows q)) = in_rows (table q) []
  held_fits (says t) passed = true
  held_fits (holds ts) (named (Text f)) = false
  held_fits (holds ts) (named (Rows q)) = in_rows (table (rows_in q ts)) (kept_names (table (rows_in q ts)) ts) && all_fit ts (rows_in q ts)
  held_fits (holds ts) passed = true

  pub all_fit : Trees → Parent → Bool
  all_fit none q = true
  all_fit (more t ts) q = tree_fits t q && all_fit ts q
