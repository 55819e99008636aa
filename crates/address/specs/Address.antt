-- The body that a call names by its code (document 01, "Answers": "1 the table isn't valid", "7 no body has this code").
use Rattle.std.specs.Prelude.{ℕ, cond, List, Option, Result, Some, None, Ok, Err}
use Rattle.entries.specs.Entry.{slots_of, place_of}
use Rattle.table.specs.Table.{table_ok, body_of, entry_of}
use Rattle.address.specs.declared.NoBody.{NoBody}
use Rattle.address.specs.declared.NoBody.TheVariants.{Invalid, Unknown}

-- a body of the table: where its entry and its slots begin, and how many slots it has
abbrev pub body_at : List ℕ → Option ℕ → Result (ℕ × ℕ × ℕ) NoBody
body_at t (Some b) = Ok ((entry_of b), (place_of t (entry_of b)), (slots_of t (entry_of b)))
body_at t None = Err Unknown

-- the body of a valid table with this code
abbrev pub body_named : List ℕ → List ℕ → Result (ℕ × ℕ × ℕ) NoBody
body_named t code = body_at t (body_of t code)

-- the same of any bytes at all
unfoldable pub addressed : List ℕ → List ℕ → Result (ℕ × ℕ × ℕ) NoBody
addressed t code = cond (table_ok t) (body_named t code) (Err Invalid)
