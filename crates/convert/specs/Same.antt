-- WHAT CONVERSION KEEPS ("it gives the same totals and answers"). Proved: `converts : (o : List ℕ) → valid_as table1 o ≡ true → Same o (converted o)`.
use Rattle.std.specs.Prelude.{ℕ, ◌+◌, ◌*◌, ◌≤◌, ◌<◌, ◌≡◌, true, List, length}
use Rattle.bounds.specs.Bounds.{max_length}
use Rattle.body.specs.Body.{cents_of}
use Rattle.entries.specs.Entry.{kept, closed_of, slots_of, codes_from}
use Rattle.table.specs.Table.{table1, head_size, bodies, abi_of, codes_of, records_of, table_ok, entry_of}
use Rattle.convert.specs.Convert.{grown_length}

-- where body b's entry begins in a table 1
abbrev pub old_entry : ℕ → ℕ
old_entry b = head_size + table1.entry * b

-- t is the table 2 of the table 1 o
pub record Same (o t : List ℕ) : Type 0 where
  -- it is valid, and no longer than a table may be
  pub valid : table_ok t ≡ true
  pub long : length t ≡ grown_length o
  pub fits : grown_length o ≤ max_length
  -- the same bank and the same bodies, in the same order, with as many slots
  pub bank : abi_of t ≡ abi_of o
  pub number : bodies t ≡ bodies o
  pub codes : codes_of t ≡ codes_from table1.entry o head_size (bodies o)
  pub slots : (b : ℕ) → b < bodies o → slots_of t (entry_of b) ≡ slots_of o (old_entry b)
  -- the same records, and the totals of these
  pub records : (b : ℕ) → b < bodies o → records_of t (entry_of b) ≡ records_of o (old_entry b)
  pub paid : (b : ℕ) → b < bodies o → kept 1 t (entry_of b) ≡ cents_of 1 (records_of o (old_entry b))
  pub collected : (b : ℕ) → b < bodies o → kept 2 t (entry_of b) ≡ cents_of 2 (records_of o (old_entry b))
  -- no year is closed
  pub closed : (b : ℕ) → b < bodies o → closed_of t (entry_of b) ≡ 0
