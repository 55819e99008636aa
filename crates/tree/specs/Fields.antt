-- Document 01, "The fields" and code 5, said of a tree: its fields in document order, and which breaks first.
use Rattle.std.specs.Prelude.{◌≡◌, ℕ, List, [], ◌∷◌, ◌++◌, Err}
use Rattle.fields.specs.declared.Cause.{Cause}
use Rattle.fields.specs.declared.Judged.TheVariants.{Stands}
use Rattle.fields.specs.Fields.{reading_of, field_stands}
use Rattle.schema.specs.declared.Parent.{Parent}
use Rattle.schema.specs.declared.Holds.TheVariants.{Text, Rows}
use Rattle.schema.specs.Table.{table}
use Rattle.standing.specs.Readings.{Field}
use Rattle.tree.specs.Tree.{Tree, tree, Held, says, holds, Trees, none, more}
use Rattle.tree.specs.Structure.{Said, named, passed, said, rows_in}

-- the fields in document order: a field has its form, the place of its element's <, and its text
unfoldable mutual
  pub tree_fields : Tree → Parent → List Field
  tree_fields (tree p n h) q = held_fields h p (said (table q) n)

  -- of what the element at p holds
  pub held_fields : Held → ℕ → Said → List Field
  held_fields (says t) p (named (Text f)) = record { form = f; lt = p; text = t } ∷ []
  held_fields (says t) p (named (Rows q)) = []
  held_fields (says t) p passed = []
  held_fields (holds ts) p (named (Text f)) = []
  held_fields (holds ts) p (named (Rows q)) = all_fields ts (rows_in q ts)
  held_fields (holds ts) p passed = []

  pub all_fields : Trees → Parent → List Field
  all_fields none q = []
  all_fields (more t ts) q = tree_fields t q ++ all_fields ts q

-- each stands
pub data AllStand : List Field → Type 0 where
  all_none : AllStand []
  all_next : {f : Field} {fs : List Field} → field_stands f.form f.text ≡ Stands → AllStand fs → AllStand (f ∷ fs)

-- "a field breaks; place is the byte of < of the first such element": the first that breaks stands at p, and c is the cause that its reading tells
-- (document 02, Req 03: "Every field reading tells one, and the flow's answer carries it")
pub data FirstBreaks : List Field → ℕ → Cause → Type 0 where
  here : {f : Field} {fs : List Field} {p : ℕ} {c : Cause} → reading_of f.form f.text ≡ Err c → f.lt ≡ p → FirstBreaks (f ∷ fs) p c
  later : {f : Field} {fs : List Field} {p : ℕ} {c : Cause} → field_stands f.form f.text ≡ Stands → FirstBreaks fs p c → FirstBreaks (f ∷ fs) p c
