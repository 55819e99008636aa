-- WHAT A CLOSE LEAVES (document 02, Req 14): "A body's call closes an esercizio: its records are removed, the rest move up, and the freed slots are used by later
-- orders. Entry bytes 40-41 hold the year". Proved: `close-leaves : CloseLeaves`, and that this leaves no byte open, `one-close : OneClose`.
use Rattle.std.specs.Prelude.{ℕ, ◌+◌, ◌*◌, ◌≤◌, ◌<◌, ◌≡◌, true, List, [], ◌∷◌, length, get_or, Result, Some}
use Rattle.ranges.specs.Ranges.{zeros}
use Rattle.record.specs.declared.Record.{Record}
use Rattle.record.specs.Slot.{slot_size, mandato_kind, reversale_kind}
use Rattle.body.specs.Body.{cents_of}
use Rattle.entries.specs.Entry.{entry_fixed, entry_rest, kept, closed_of, slots_of, place_of}
use Rattle.table.specs.Table.{bodies, abi_of, codes_of, records_of, table_ok, body_of, entry_of}
use Rattle.one_table.specs.One.{are_bytes}
use Rattle.year_end.specs.declared.CloseRefusal.{CloseRefusal}
use Rattle.year_end.specs.YearEnd.{ClosePromise, close_code, close_reply}

-- RECORDS PARTED by a year, whatever their state: those of the year, and the rest, both in the order that they had
pub data Parted (year : ℕ) : List Record → List Record → List Record → Type 0 where
  none : Parted year [] [] []
  goes : (r : Record) (rs gone rest : List Record) → r.esercizio ≡ year → Parted year rs gone rest → Parted year (r ∷ rs) (r ∷ gone) rest
  stays : (r : Record) (rs gone rest : List Record) → (r.esercizio ≡ year → ⊥) → Parted year rs gone rest → Parted year (r ∷ rs) gone (r ∷ rest)

-- A BYTE THAT IS NOT WRITTEN: neither in the body's slots nor in its entry's bytes 24 to 41, its kept totals and its closed year
pub record Beside (t : List ℕ) (b i : ℕ) : Type 0 where
  pub entry : entry_of b + entry_fixed ≤ i → i < entry_of b + entry_rest → ⊥
  pub slots : place_of t (entry_of b) ≤ i → i < place_of t (entry_of b) + slot_size * slots_of t (entry_of b) → ⊥

-- body c is in t' as it was in t
pub record SameBody (t t' : List ℕ) (c : ℕ) : Type 0 where
  pub records : records_of t' (entry_of c) ≡ records_of t (entry_of c)
  pub paid : kept mandato_kind t' (entry_of c) ≡ kept mandato_kind t (entry_of c)
  pub collected : kept reversale_kind t' (entry_of c) ≡ kept reversale_kind t (entry_of c)
  pub closed : closed_of t' (entry_of c) ≡ closed_of t (entry_of c)

-- A CLOSE OF `year` in body b of the table t: k records removed, the table t' afterwards
pub record Closes (t : List ℕ) (b year k : ℕ) (t' : List ℕ) : Type 0 where
  -- "its records are removed, the rest move up"; the answer has "the number of records removed"
  pub gone : List Record
  pub records : Parted year (records_of t (entry_of b)) gone (records_of t' (entry_of b))
  pub count : k ≡ length gone
  pub together : k + length (records_of t' (entry_of b)) ≡ length (records_of t (entry_of b))
  -- "Entry bytes 40-41 hold the year", whether or not there was a record of it
  pub closed : closed_of t' (entry_of b) ≡ year
  -- "Totals speak of the records still there"
  pub paid : kept mandato_kind t' (entry_of b) ≡ cents_of mandato_kind (records_of t' (entry_of b))
  pub collected : kept reversale_kind t' (entry_of b) ≡ cents_of reversale_kind (records_of t' (entry_of b))
  -- "the freed slots are used by later orders": there is room for as many records as were removed, and the slots past those that stay are empty
  pub freed : length (records_of t' (entry_of b)) + k ≤ slots_of t' (entry_of b)
  pub empty : zeros t' (place_of t' (entry_of b) + slot_size * length (records_of t' (entry_of b))) (place_of t' (entry_of b) + slot_size * slots_of t' (entry_of b)) ≡ true
  -- the table is valid, as long, of the same bank, and has the same bodies with as many slots
  pub valid : table_ok t' ≡ true
  pub long : length t' ≡ length t
  pub bank : abi_of t' ≡ abi_of t
  pub codes : codes_of t' ≡ codes_of t
  pub slots : (c : ℕ) → c < bodies t → slots_of t' (entry_of c) ≡ slots_of t (entry_of c)
  -- "its body's own call": every other body is as it was, and so is every byte beside this body's
  pub others : (c : ℕ) → c < bodies t → (c ≡ b → ⊥) → SameBody t t' c
  pub beside : (i : ℕ) → Beside t b i → get_or t' i 0 ≡ get_or t i 0

-- of every close: a code 0 is for a body with that code; "a refusal removes 0 and changes nothing"
pub record Left (t code : List ℕ) (year : ℕ) (a : Result ℕ CloseRefusal) (t' : List ℕ) : Type 0 where
  pub taken : close_code a ≡ 0 → (b : ℕ) × (body_of t code ≡ Some b) × Closes t b year (close_reply a).removed t'
  pub refused : (close_code a ≡ 0 → ⊥) → (t' ≡ t) × ((close_reply a).removed ≡ 0)

abbrev pub CloseLeaves : Type 0
CloseLeaves = (t code : List ℕ) (year : ℕ) (a : Result ℕ CloseRefusal) (t' : List ℕ) → ClosePromise t code year a t' → Left t code year a t'

-- two buffers of bytes of which all that holds, with the numbers removed, are one, byte by byte
abbrev pub OneClose : Type 0
OneClose = (t : List ℕ) (b year k j : ℕ) (u v : List ℕ) → are_bytes u ≡ true → are_bytes v ≡ true → Closes t b year k u → Closes t b year j v → (k ≡ j) × (u ≡ v)
