-- WHAT A REPAIR COMES TO. Proved: `repairs : (t : List ℕ) → contents_ok table2 t ≡ true → Repairs t (repaired t)`; of a table of bytes that is valid,
-- `unchanged : .. → Unchanged t`; and that salvage twice is salvage once, `once : .. → Unchanged (repaired t)`.
use Rattle.std.specs.Prelude.{ℕ, ◌<◌, ◌≡◌, true, List, [], length, replicate}
use Rattle.record.specs.Slot.{mandato_kind, reversale_kind}
use Rattle.body.specs.Body.{cents_of}
use Rattle.entries.specs.Entry.{kept, closed_of, slots_of}
use Rattle.table.specs.Table.{head_size, bodies, abi_of, codes_of, records_of, table_ok, entry_of}
use Rattle.salvage.specs.Salvage.{kept_of, repaired, moved_in, blanked}

-- u is the repaired table of t
pub record Repairs (t u : List ℕ) : Type 0 where
  -- it is valid, and as long
  pub valid : table_ok u ≡ true
  pub long : length u ≡ length t
  -- the same bank and the same bodies, in the same order, with as many slots
  pub bank : abi_of u ≡ abi_of t
  pub number : bodies u ≡ bodies t
  pub codes : codes_of u ≡ codes_of t
  pub slots : (b : ℕ) → b < bodies t → slots_of u (entry_of b) ≡ slots_of t (entry_of b)
  -- each body's records are those kept of its own slots as they were, in order, whatever the other bodies hold; and the kept totals are theirs
  pub records : (b : ℕ) → b < bodies t → records_of u (entry_of b) ≡ kept_of t (entry_of b)
  pub paid : (b : ℕ) → b < bodies t → kept mandato_kind u (entry_of b) ≡ cents_of mandato_kind (kept_of t (entry_of b))
  pub collected : (b : ℕ) → b < bodies t → kept reversale_kind u (entry_of b) ≡ cents_of reversale_kind (kept_of t (entry_of b))
  -- the closed year is the old one's
  pub closed : (b : ℕ) → b < bodies t → closed_of u (entry_of b) ≡ closed_of t (entry_of b)

-- "A valid table comes out the same": nothing is moved, nothing blanked
pub record Unchanged (t : List ℕ) : Type 0 where
  pub same : repaired t ≡ t
  pub none_moved : moved_in t head_size (bodies t) ≡ replicate (bodies t) 0
  pub none_blanked : blanked t ≡ []
