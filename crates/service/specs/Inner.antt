-- What an order comes to by what its search told, and how a kept sum moves, for the functions that they are handed on to. The promises speak of none of it.
use Rattle.std.specs.Prelude.{ℕ, ◌+◌, ◌-◌, ◌*◌, ◌≤◌, ◌≡◌, Bool, true, false, cond, List, length, eqb, Result, Ok, Err}
use Rattle.bounds.specs.Bounds.{max_slots}
use Rattle.words.specs.Numbers.{put}
use Rattle.order.specs.Ordinativo.{Ordinativo}
use Rattle.record.specs.Slot.{slot_size, mandato_kind, reversale_kind, record_at, record_bytes}
use Rattle.slots.specs.Slots.{records_at}
use Rattle.body.specs.Body.{body_ok}
use Rattle.entries.specs.Entry.{entry_size, kept, kept_bytes}
use Rattle.table.specs.Table.{agrees}
use Rattle.rules.specs.declared.Change.{Change}
use Rattle.rules.specs.Rules.{unless, written}
use Rattle.rules.specs.Inner.{record_code, absent_code}

-- AN ORDER

-- its record stands at index i of its body
abbrev pub on_record : List ℕ → ℕ → ℕ → Ordinativo → Change → Result (Change × ℕ) ℕ
on_record t base i o c = unless Err (record_code c o (record_at t (base + slot_size * i))) (Ok (c, i))

-- none of the body's n records is its own, and the lines that it names come to `named`
abbrev pub on_none : Change → ℕ → ℕ → ℕ → Result (Change × ℕ) ℕ
on_none c named n slots = unless Err (absent_code c named n slots) (Ok (c, n))

-- the record of an accepted order alone
abbrev pub record_stored : List ℕ → ℕ → ℕ → Ordinativo → Result (Change × ℕ) ℕ → List ℕ
record_stored t base year o (Ok (c, i)) = put t (base + slot_size * i) (record_bytes (written year o (record_at t (base + slot_size * i)) c))
record_stored t base year o (Err code) = t

-- the ruling j is the one that the rules give, and the table t' is what it leaves
abbrev pub Ruled : (Result (Change × ℕ) ℕ → List ℕ) → Result (Change × ℕ) ℕ → Result (Change × ℕ) ℕ → List ℕ → Type 0
Ruled leaves rules j t' = (j ≡ rules) × (t' ≡ leaves j)

-- how many records there are after an order, where there were `used` before
abbrev pub used_after : Result (Change × ℕ) ℕ → ℕ → ℕ
used_after (Ok (c, i)) used = cond (eqb i used) (used + 1) used
used_after (Err code) used = used

-- A NOTICE

-- a sum that an executed line adds to, and a reversed one takes off
abbrev pub sum_moved : Bool → ℕ → ℕ → ℕ
sum_moved executing sum cents = cond executing (sum + cents) (sum - cents)

-- and it can
abbrev pub Movable : Bool → ℕ → ℕ → Type 0
Movable true sum cents = sum + cents ≤ 18446744073709551615
Movable false sum cents = cents ≤ sum

-- what an entry keeps of a kind, moved by a line of an order of `kind`
abbrev pub its : ℕ → ℕ → ℕ → ℕ
its kind k cents = cond (eqb kind k) cents 0

abbrev pub kept_moved : List ℕ → ℕ → Bool → ℕ → ℕ → List ℕ
kept_moved t e executing kind cents =
    kept_bytes
    (sum_moved executing (kept mandato_kind t e) (its kind mandato_kind cents))
    (sum_moved executing (kept reversale_kind t e) (its kind reversale_kind cents))

-- a body that a notice can be served on: its entry lies before its slots, these lie in the table and are valid, and the entry agrees with them
pub record Served (t : List ℕ) (e base n : ℕ) : Type 0 where
  pub entry : e + entry_size ≤ base
  pub inside : base + slot_size * n ≤ length t
  pub few : n ≤ max_slots
  pub valid : body_ok t base n ≡ true
  pub agreed : agrees t e (records_at t base n) ≡ true
