-- WHAT FIXES A TABLE 2: its bank, its bodies' codes and slots, their records and closed years, to the last byte. So whatever is answered on a table is
-- answered on every table with those (document 02, Req 04: a converted table "gives the same totals and answers"). Proved: `one_table : OneTable`.
use Rattle.std.specs.Prelude.{ℕ, ◌<◌, ◌≡◌, Bool, true, List, leb}
use Rattle.scan.specs.Bytes.{all}
use Rattle.entries.specs.Entry.{slots_of, closed_of}
use Rattle.table.specs.Table.{bodies, abi_of, codes_of, records_of, table_ok, entry_of}

-- the elements of a caller's buffer are bytes
abbrev pub max_byte : ℕ
max_byte = 255

abbrev pub is_byte : ℕ → Bool
is_byte b = leb b max_byte

abbrev pub are_bytes : List ℕ → Bool
are_bytes t = all is_byte t

-- two tables of one bank, with the same bodies, each with as many slots, the same records and the same closed year
pub record Matching (t u : List ℕ) : Type 0 where
  pub bank : abi_of t ≡ abi_of u
  pub codes : codes_of t ≡ codes_of u
  pub slots : (b : ℕ) → b < bodies t → slots_of t (entry_of b) ≡ slots_of u (entry_of b)
  pub records : (b : ℕ) → b < bodies t → records_of t (entry_of b) ≡ records_of u (entry_of b)
  pub closed : (b : ℕ) → b < bodies t → closed_of t (entry_of b) ≡ closed_of u (entry_of b)

-- two such tables, both valid, are one
abbrev pub OneTable : Type 0
OneTable = (t u : List ℕ) → are_bytes t ≡ true → are_bytes u ≡ true → table_ok t ≡ true → table_ok u ≡ true → Matching t u → t ≡ u
