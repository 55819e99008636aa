-- CLOSING A YEAR (document 02, Req 14), of whatever keeps its call's promise: "A close is its body's own call". When each code is given and what a close leaves of
-- its own body is said in closed_years/specs. Proved: `year-closing : YearClosing`.
use Rattle.std.specs.Prelude.{ℕ, ◌≤◌, ◌<◌, ◌≡◌, List, Some}
use Rattle.entries.specs.Entry.{closed_of}
use Rattle.table.specs.Table.{bodies, body_of, entry_of}
use Rattle.year_end.specs.YearEnd.{CloseReplies}
use Rattle.theorems.specs.Engine.{Call, Engine, owned, unowned, table_after}

-- a year closed for body b of the table t: t' afterwards
pub record OwnClose (t t' : List ℕ) (b year : ℕ) : Type 0 where
  -- what the other bodies own and what no body does is as it was
  pub others : (c : ℕ) → c < bodies t → (c ≡ b → ⊥) → owned t c t' ≡ owned t c t
  pub rest : unowned t t' ≡ unowned t t
  -- the year stays closed, after any calls
  pub stays : (E : Engine) (cs : List Call) → year ≤ closed_of (table_after E t' cs) (entry_of b)

-- of every close answered 0
abbrev pub YearClosing : Type 0
YearClosing = (t code : List ℕ) (year k : ℕ) (t' : List ℕ) → CloseReplies t code year 0 k t' → (b : ℕ) × (body_of t code ≡ Some b) × OwnClose t t' b year
