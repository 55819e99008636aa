-- What the functions of this crate ask of a layout, and tell each other. The promises speak of none of it.
use Rattle.std.specs.Prelude.{ℕ, ◌≤◌, ◌≡◌, Bool, true, ◌&&◌, List, eqb}
use Rattle.bounds.specs.Bounds.{max_length}
use Rattle.record.specs.Slot.{mandato_kind, reversale_kind}
use Rattle.entries.specs.Entry.{entry_size, entry_fixed, kept}
use Rattle.table.specs.declared.Layout.{Layout}

-- an entry's rest lies in it and past what never changes; an entry that keeps totals, or has a place for a closed year, is one of table 2
pub record Known (l : Layout) : Type 0 where
  pub fixed : entry_fixed ≤ l.rest
  pub inside : l.rest ≤ l.entry
  pub small : l.entry ≤ entry_size
  pub room : l.keeps ≡ true → entry_size ≤ l.entry
  pub year : l.closes ≡ true → entry_size ≤ l.entry
  pub fits : l.most ≤ max_length

-- an entry keeps these sums
abbrev pub sums_agree : List ℕ → ℕ → ℕ → ℕ → Bool
sums_agree t at paid collected = eqb (kept mandato_kind t at) paid && eqb (kept reversale_kind t at) collected
