-- What readings tell, over the four conditions of Causes: when a field stands, when it breaks, and which cause is told. Document 02's own sentences are in Sentences.
use Rattle.std.specs.Prelude.{ℕ, ◌<◌, ◌≡◌, List, true, false, not, ◌&&◌, Err}
use Rattle.fields.specs.declared.Form.{Form}
use Rattle.fields.specs.declared.Cause.{Cause}
use Rattle.fields.specs.declared.Cause.TheVariants.{Empty, Long}
use Rattle.fields.specs.Causes.{cause_number, formed, in_range, applies}
use Rattle.fields.specs.Fields.{reading_of, judged, field_stands}

-- the cause w applies, and none before it: "The first in that order is given"
pub record First (f : Form) (t : List ℕ) (w : Cause) : Type 0 where
  pub it_applies : applies w f t ≡ true
  pub none_before : (v : Cause) → cause_number v < cause_number w → applies v f t ≡ false

pub record Told (f : Form) (t : List ℕ) : Type 0 where
  -- a text stands exactly when it is not empty, not longer than the longest allowed, of the right form and of a value in its range
  pub stands_exactly : field_stands f t ≡ judged (not (applies Empty f t) && (not (applies Long f t) && (formed f t && in_range f t)))
  -- the cause that a reading tells is the first
  pub tells_first : (w : Cause) → reading_of f t ≡ Err w → First f t w
  -- and where one applies a reading breaks, and tells the first
  pub first_told : (w : Cause) → First f t w → reading_of f t ≡ Err w
