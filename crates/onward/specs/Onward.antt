-- How far content was read that stands so far, in the words of the general readers, which go on from there. Where a place is told, 0 says that none is.
use Rattle.std.specs.Prelude.{ℕ, ◌+◌, ◌-◌, ◌<◌, ◌≡◌, List, true, length, None, Ok}
use Rattle.scan.specs.Bytes.{bytes, byte, byte_at, part, has_at}
use Rattle.tokens.specs.Tokens.{name_at, text_at, end_tag_at, white_at}
use Rattle.markup.specs.Markup.{element_at, content_at, children_by}
use Rattle.fields.specs.declared.Form.{Form}
use Rattle.fields.specs.declared.Judged.TheVariants as judged
use Rattle.fields.specs.Fields.{field_stands}
use Rattle.schema.specs.declared.Parent.{Parent}
use Rattle.schema.specs.declared.Holds.{Holds}
use Rattle.schema.specs.Table.{table, spot_in}
use Rattle.standing.specs.Standing.{standing_at, forget}
use Rattle.standing.specs.Walk.{held_breaking, Goes}
use Rattle.tags.specs.Tags.{Opens}
use Rattle.onward.specs.declared.Reached.{Reached}
use Rattle.onward.specs.declared.Start.{Start}
use Rattle.onward.specs.declared.Start.TheVariants.{Named, Unnamed, Other}

-- CONTENT, read up to the place that is reached: its named children before it stand, `count` of them in the last row, and what all come to is still said
-- by those after it; where some were read, the markup of the rest is still to be read
pub record Reaches (d depth : ℕ) (p : Parent) (s : List ℕ) (at : ℕ) (r : Reached) : Type 0 where
  pub goes : Goes (forget (standing_at d p s at)) d p s None r.at r.row r.count
  pub read : (r.count ≡ 0 → ⊥) → content_at depth s at ≡ children_by (element_at depth s) s r.at

-- NAMES FOR THE CONTRACTS of the inner functions

-- where a place is told
abbrev pub Unless : ℕ → Type 0 → Type 0
Unless r A = (r ≡ 0 → ⊥) → A

-- a < and a name that the parent's table has not
pub record Foreign (p : Parent) (s : List ℕ) (i : ℕ) : Type 0 where
  pub gt : ℕ
  pub lt : byte_at s i ≡ byte "<"
  pub name : name_at s (i + 1) ≡ Ok gt
  pub spot : spot_in (table p) 0 s (i + 1) gt ≡ None

-- what begins at i: of anything else nothing is said
abbrev pub Starts : Parent → List ℕ → ℕ → Start → Type 0
Starts p s i (Named e row h) = Opens p s i e row h
Starts p s i Unnamed = Foreign p s i
Starts p s i Other = Unit

-- a start tag after its <, whose > stands at e
pub record Tagged (s : List ℕ) (a e : ℕ) : Type 0 where
  pub name : name_at s a ≡ Ok e
  pub gt : byte_at s e ≡ byte ">"
  pub within : e < length s

-- a text up to p, which has a field's form
pub record Told (f : Form) (s : List ℕ) (at p : ℕ) : Type 0 where
  pub text : text_at s at ≡ Ok p
  pub stands : field_stands f (part s at p) ≡ judged.Stands

-- what a start tag's element holds ends at p, if an end tag is there
abbrev pub Inner : ℕ → List ℕ → ℕ → ℕ → Type 0
Inner depth s e p = has_at (bytes "</") s p ≡ true → content_at depth s (e + 1) ≡ Ok p

-- the end tag of what holds content up to p, and j past the white space after it
pub record Ended (s : List ℕ) (a e p j : ℕ) : Type 0 where
  pub past : ℕ
  pub closes : has_at (bytes "</") s p ≡ true
  pub end : end_tag_at s a e p ≡ Ok past
  pub next : j ≡ white_at s past

-- an element, and j past the white space after it
pub record Passed (depth : ℕ) (s : List ℕ) (i j : ℕ) : Type 0 where
  pub past : ℕ
  pub element : element_at depth s (i + 1) ≡ Ok past
  pub next : j ≡ white_at s past

-- what a child whose start tag ends at e holds, up to its end tag, stands as its row says, and j is past it
pub record Taken (d depth : ℕ) (s : List ℕ) (i e : ℕ) (h : Holds) (j : ℕ) : Type 0 where
  pub to : ℕ
  pub holds : content_at (depth - 1) s (e + 1) ≡ Ok to
  pub ended : Ended s (i + 1) e to j
  pub stands : held_breaking d s (record { lt = i; gt = e; to = to; after = j }) h ≡ None
