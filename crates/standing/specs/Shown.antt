-- A field that breaks can be shown: `children::field_at` at its place gives its name and its text, and the cause told with the place is that field's.
use Rattle.std.specs.Prelude.{ℕ, ◌+◌, ◌≡◌, List, Some}
use Rattle.children.specs.Child.{field_at, own_text}
use Rattle.fields.specs.declared.Cause.{Cause}
use Rattle.fields.specs.declared.Form.{Form}
use Rattle.fields.specs.declared.Judged.TheVariants.{Breaks}
use Rattle.fields.specs.Causes.{cause_of}
use Rattle.fields.specs.Fields.{field_stands}
use Rattle.schema.specs.declared.Parent.{Parent}
use Rattle.schema.specs.declared.Holds.TheVariants.{Text}
use Rattle.schema.specs.Table.{table, spot_in}

-- the name that stands where `field_at` says is one of a parent's table, of this form, and the text that stands where it says breaks the form
pub record Shown (s : List ℕ) (place : ℕ) (cause : Cause) : Type 0 where
  pub parent : Parent
  pub row : ℕ
  pub form : Form
  pub named : spot_in (table parent) 0 s (field_at s place).name ((field_at s place).name + (field_at s place).name_len) ≡ Some (row, (Text form))
  pub breaks : field_stands form (own_text s place) ≡ Breaks
  pub told : cause ≡ cause_of form (own_text s place)
