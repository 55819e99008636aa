-- What content comes to, structure and fields together: its structure breaks, else a field does, else it stands (document 01, codes 4 and 5).
use Rattle.std.specs.Prelude.{ℕ, ◌+◌, List, Bool, true, false, cond, Option, Result, Some, None, Ok, Err}
use Rattle.scan.specs.Bytes.{part}
use Rattle.children.specs.declared.Child.{Child}
use Rattle.fields.specs.declared.Form.{Form}
use Rattle.fields.specs.Fields.{reading_of}
use Rattle.schema.specs.declared.Parent.{Parent}
use Rattle.structure.specs.Structure.{text_only, fits_at}
use Rattle.standing.specs.declared.Flaw.{Flaw}
use Rattle.standing.specs.declared.Flaw.TheVariants.{StructureBreaks, FieldBreaks}
use Rattle.standing.specs.declared.Breaking.{Breaking}
use Rattle.standing.specs.declared.Breaking.TheVariants.{Structure, Field}
use Rattle.standing.specs.Readings.{Bad, Place, Nowhere, bad_or, fields_at, first_bad}

-- "Checked in that order": a structure that breaks is said before any field
abbrev pub standing_by_fields : Bad → Result Unit Flaw
standing_by_fields (Place p c) = Err (FieldBreaks p c)
standing_by_fields Nowhere = Ok tt

abbrev pub standing_by : Bool → Bad → Result Unit Flaw
standing_by fits bad = cond fits (standing_by_fields bad) (Err StructureBreaks)

-- content that begins at `at`, of at most d levels
unfoldable pub standing_at : ℕ → Parent → List ℕ → ℕ → Result Unit Flaw
standing_at d p s at = standing_by (fits_at d p s at) (first_bad (fields_at d p s at))

-- NAMES FOR THE CONTRACTS of the walks

-- what the first walk tells: no place and no cause
abbrev pub forget : Result Unit Flaw → Option Breaking
forget (Err StructureBreaks) = Some Structure
forget (Err (FieldBreaks p c)) = Some Field
forget (Ok tt) = None

abbrev pub breaking_by : Bool → Bad → Option Breaking
breaking_by fits bad = forget (standing_by fits bad)

-- a field by itself: whether it breaks, and where
abbrev pub bad_at : List ℕ → Form → Child → Bad
bad_at s f c = bad_or c.lt Nowhere (reading_of f (part s (c.gt + 1) c.to))

-- it holds text only, and has its form
unfoldable pub field_breaking : List ℕ → Form → Child → Option Breaking
field_breaking s f c = breaking_by (text_only s (c.gt + 1)) (bad_at s f c)

abbrev pub structured : Option Breaking → Bool
structured (Some Structure) = false
structured (Some Field) = true
structured None = true

-- one part and another: the structure of either is said first, then a field
abbrev pub after : Option Breaking → Option Breaking → Option Breaking
after (Some Structure) y = Some Structure
after (Some Field) y = cond (structured y) (Some Field) (Some Structure)
after None y = y

-- the second walk goes on while no field has been found
abbrev pub sound : Result Unit Flaw → Bool
sound (Err StructureBreaks) = false
sound (Err (FieldBreaks p c)) = false
sound (Ok tt) = true
