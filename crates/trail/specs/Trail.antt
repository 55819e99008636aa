-- What is kept of the children that a pass over content has found, and that all of it is true.
use Rattle.std.specs.Prelude.{ℕ, ◌+◌, ◌*◌, ◌/◌, ◌%◌, ◌≤◌, ◌≡◌, List, cond, length, get_or, leb, Option, Some, None, Ok}
use Rattle.tokens.specs.Tokens.{white_at}
use Rattle.fields.specs.declared.Form.{Form}
use Rattle.fields.specs.declared.Value.{Value}
use Rattle.schema.specs.declared.Parent.{Parent}
use Rattle.schema.specs.declared.Holds.TheVariants.{Rows}
use Rattle.rows.specs.declared.Kept.{Kept}
use Rattle.rows.specs.Kept.{kept_from, next_of}
use Rattle.rows.specs.Read.{field_read}
use Rattle.rows.specs.Replaces.{rows_for}
use Rattle.trail.specs.declared.Found.{Found}
use Rattle.trail.specs.declared.Entered.{Entered}
use Rattle.trail.specs.Codes.{parent_at, form_at, value_at}

-- WHAT IS FOUND. The first child that p names from a place on is a field of this form, with this value, and the place after it is this
pub record FieldFound (p : Parent) (f : Form) (s : List ℕ) (from after : ℕ) (v : Value) : Type 0 where
  pub kept : Kept
  pub next : next_of (kept_from p s from) ≡ Some kept
  pub read : field_read s f kept.child ≡ Ok (v, after)

-- or it has children: by these rows, beginning at this place
pub record RowsFound (p : Parent) (s : List ℕ) (from : ℕ) (e : Entered) : Type 0 where
  pub kept : Kept
  pub named : Parent
  pub next : next_of (kept_from p s from) ≡ Some kept
  pub holds : kept.holds ≡ Rows named
  pub rows : e.parent ≡ rows_for named s (kept.child.gt + 1)
  pub inner : e.inner ≡ white_at s (kept.child.gt + 1)
  pub after : e.after ≡ kept.child.after

-- THE TRAIL: two words for each child
abbrev pub found_of : ℕ → ℕ → Found
found_of k w = record {
  from = k % 65536;
  after = k / 65536 % 65536;
  parent = k / 1099511627776;
  holds = k / 34359738368 % 32;
  shape = k / 4294967296 % 8;
  value = w;
}

unfoldable pub found_at : List ℕ → ℕ → Found
found_at t n = cond (leb (n + 1) (length t / 2)) (found_of (get_or t (2 * n) 0) (get_or t (2 * n + 1) 0)) (found_of 0 0)

-- codes fit their bits
pub record Coded (e : Found) : Type 0 where
  pub shape : e.shape ≤ 7
  pub holds : e.holds ≤ 31
  pub parent : e.parent ≤ 31

-- what is kept is true
pub record Finding (s : List ℕ) (e : Found) : Type 0 where
  pub field : 1 ≤ e.shape → e.shape ≤ 6 → FieldFound (parent_at e.parent) (form_at e.holds) s e.from e.after (value_at e.shape e.value)
  pub rows : e.shape ≡ 7 → RowsFound (parent_at e.parent) s e.from (record { parent = parent_at e.holds; inner = e.value; after = e.after })

unfoldable pub Trailed : List ℕ → List ℕ → Type 0
Trailed s t = (n : ℕ) → Finding s (found_at t n)

-- WHAT IS SAID of the first child that p names from a place on; of what is not kept nothing
abbrev pub FieldSaid : Parent → Form → List ℕ → ℕ → Option (Value × ℕ) → Type 0
FieldSaid p f s from (Some (v, after)) = FieldFound p f s from after v
FieldSaid p f s from None = Unit

abbrev pub RowsSaid : Parent → List ℕ → ℕ → Option Entered → Type 0
RowsSaid p s from (Some e) = RowsFound p s from e
RowsSaid p s from None = Unit
