-- How the slots are walked. The promises speak of none of it.
use Rattle.std.specs.Prelude.{ℕ, ◌+◌, ◌*◌, ◌%◌, ◌≡◌, true, cond, List, [], ◌∷◌, length, get_or, Result, Ok, Err}
use Rattle.ranges.specs.Ranges.{is_nothing}
use Rattle.record.specs.declared.Record.{Record}
use Rattle.record.specs.declared.Key.{Key}
use Rattle.record.specs.Slot.{key_is}
use Rattle.slots.specs.Slots.{find_in}

-- THE SEARCH FOR AN ORDER: the first of the records with this key, or that none has it, and how many there are; i is the first record's index. That it
-- finds what `find_in` does, and counts the records, is proved
unfoldable pub seek_in : List Record → ℕ → Key → Result ℕ ℕ
seek_in [] i k = Err i
seek_in (r ∷ rs) i k = cond (key_is r k) (Ok i) (seek_in rs (i + 1) k)

-- THE FILTER OF KEYS, for the walk for repeated keys and for the searches of a flow's orders: no answer depends on it

-- the places of the filter of keys that were seen
abbrev pub filter_size : ℕ
filter_size = 4096

-- a key's place in it
unfoldable pub mark_of : Key → ℕ
mark_of k = (k.number % filter_size * 2 + k.kind % filter_size + k.esercizio % filter_size * 613) % filter_size

-- none of the records has a key whose place is 0
pub record Marked (marks : List ℕ) (rs : List Record) : Type 0 where
  pub size : length marks ≡ filter_size
  pub absent : (k : Key) → get_or marks (mark_of k) 0 ≡ 0 → is_nothing (find_in rs 0 k) ≡ true

-- and the number of records is known, unless every place is marked, so that no search is spared
pub record Filters (marks : List ℕ) (used : ℕ) (rs : List Record) : Type 0 where
  pub marked : Marked marks rs
  pub many : (k : Key) → get_or marks (mark_of k) 0 ≡ 0 → used ≡ length rs
