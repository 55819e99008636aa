-- The fields of a flow in document order, and the first that breaks (document 01, code 5).
use Rattle.std.specs.Prelude.{ℕ, zero, suc, ◌+◌, List, [], ◌∷◌, ◌++◌, Result, Ok, Err}
use Rattle.scan.specs.Bytes.{part}
use Rattle.tokens.specs.Tokens.{white_at}
use Rattle.fields.specs.declared.Cause.{Cause}
use Rattle.fields.specs.declared.Form.{Form}
use Rattle.fields.specs.Fields.{reading_of}
use Rattle.schema.specs.declared.Parent.{Parent}
use Rattle.schema.specs.declared.Holds.{Holds}
use Rattle.schema.specs.declared.Holds.TheVariants.{Text, Rows}
use Rattle.rows.specs.declared.Kept.{Kept}
use Rattle.rows.specs.Kept.{kept_from}
use Rattle.rows.specs.Replaces.{rows_for}
use Rattle.fields.specs.declared.Value.{Value}

-- a field: the form it is to have, the place of its <, and its text, a part of the flow
pub record Field : Type 0 where
  pub form : Form
  pub lt : ℕ
  pub text : List ℕ

-- the text of a named child: "A field's text is shown as the part of the flow itself, not as a copy"
abbrev pub text_of : List ℕ → Kept → List ℕ
text_of s k = part s (k.child.gt + 1) k.child.to

-- the fields of a named child: itself, or those of what it holds
abbrev pub fields_in : (Parent → ℕ → List Field) → List ℕ → Kept → Holds → List Field
fields_in deeper s k (Text f) = record { form = f; lt = k.child.lt; text = text_of s k } ∷ []
fields_in deeper s k (Rows p) = deeper (rows_for p s (k.child.gt + 1)) (k.child.gt + 1)

unfoldable pub fields_by : (Parent → ℕ → List Field) → List ℕ → List Kept → List Field
fields_by deeper s [] = []
fields_by deeper s (k ∷ ks) = fields_in deeper s k k.holds ++ fields_by deeper s ks

-- the fields of the content that begins at `at`, of at most d levels
unfoldable pub fields_at : ℕ → Parent → List ℕ → ℕ → List Field
fields_at zero p s at = []
fields_at (suc d) p s at = fields_by (λ q a. fields_at d q s a) s (kept_from p s (white_at s at))

-- the `<` of a field that breaks and its cause, or none does
pub data Bad : Type 0 where
  Place : ℕ → Cause → Bad
  Nowhere : Bad

abbrev pub bad_or : ℕ → Bad → Result Value Cause → Bad
bad_or lt rest (Ok v) = rest
bad_or lt rest (Err c) = Place lt c

-- the place of the first field that hasn't its form, and what is wrong with that field
unfoldable pub first_bad : List Field → Bad
first_bad [] = Nowhere
first_bad (f ∷ fs) = bad_or f.lt (first_bad fs) (reading_of f.form f.text)
