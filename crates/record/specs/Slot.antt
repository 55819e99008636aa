-- A slot (document 01, "The table"): the record that its 96 bytes hold, and the bytes of a record.
use Rattle.std.specs.Prelude.{ℕ, ◌+◌, ◌%◌, Bool, ◌&&◌, List, [], ◌∷◌, ◌++◌, get_or, set, eqb}
use Rattle.words.specs.Numbers.{be2, be4, be8, bytes2, bytes4, bytes8}
use Rattle.calendar.specs.declared.Date.{Date}
use Rattle.record.specs.declared.Record.{Record}
use Rattle.record.specs.declared.Key.{Key}

-- "A slot, 96 bytes"
abbrev pub slot_size : ℕ
slot_size = 96

-- "0 kind (0 empty, 1 mandato, 2 reversale)"
abbrev pub mandato_kind : ℕ
mandato_kind = 1

abbrev pub reversale_kind : ℕ
reversale_kind = 2

-- "1 state (1 acquired, 2 annulled)"
abbrev pub acquired_state : ℕ
acquired_state = 1

abbrev pub annulled_state : ℕ
annulled_state = 2

-- "line states (0 no line, 1 waiting, 2 executed)"
abbrev pub waiting_line : ℕ
waiting_line = 1

abbrev pub executed_line : ℕ
executed_line = 2

-- document 02, Req 07: "it becomes replaced (line state 3)"
abbrev pub replaced_line : ℕ
replaced_line = 3

-- "24-31 eight line states; 32-95 eight amounts"
abbrev pub states_offset : ℕ
states_offset = 24

abbrev pub amounts_offset : ℕ
amounts_offset = 32

-- the eight bytes from index at
abbrev pub eight_at : List ℕ → ℕ → List ℕ
eight_at t at =
    get_or t at 0 ∷ get_or t (at + 1) 0 ∷ get_or t (at + 2) 0 ∷ get_or t (at + 3) 0
    ∷ get_or t (at + 4) 0 ∷ get_or t (at + 5) 0 ∷ get_or t (at + 6) 0 ∷ get_or t (at + 7) 0 ∷ []

-- the eight numbers of eight bytes each, from index at
abbrev pub be8s : List ℕ → ℕ → List ℕ
be8s t at =
    be8 t at ∷ be8 t (at + 8) ∷ be8 t (at + 16) ∷ be8 t (at + 24)
    ∷ be8 t (at + 32) ∷ be8 t (at + 40) ∷ be8 t (at + 48) ∷ be8 t (at + 56) ∷ []

-- "date (year two bytes, month, day)"
abbrev pub date_at : List ℕ → ℕ → Date
date_at t at = record { year = be2 t at; month = get_or t (at + 2) 0; day = get_or t (at + 3) 0 }

-- the record in the slot at `at`: "0 kind; 1 state; 2 number of lines; 4-5 esercizio; 8-11 number; 12-15 date (year two bytes, month, day);
-- 16-23 total; 24-31 eight line states; 32-95 eight amounts"
unfoldable pub record_at : List ℕ → ℕ → Record
record_at t at = record {
  kind = get_or t at 0;
  state = get_or t (at + 1) 0;
  lines = get_or t (at + 2) 0;
  esercizio = be2 t (at + 4);
  number = be4 t (at + 8);
  date = date_at t (at + 12);
  total = be8 t (at + 16);
  states = eight_at t (at + states_offset);
  amounts = be8s t (at + amounts_offset);
}

-- "3 zero; 6-7 zero"
unfoldable pub rest_zero : List ℕ → ℕ → Bool
rest_zero t at = eqb (get_or t (at + 3) 0) 0 && eqb (be2 t (at + 6)) 0

-- numbers of eight bytes each
unfoldable pub flat8 : List ℕ → List ℕ
flat8 [] = []
flat8 (a ∷ rest) = bytes8 a ++ flat8 rest

-- a record's first 24 bytes
abbrev pub slot_head : Record → List ℕ
slot_head r =
    r.kind ∷ r.state ∷ r.lines ∷ 0
    ∷ (bytes2 r.esercizio ++ 0 ∷ 0 ∷ (bytes4 r.number ++ bytes2 r.date.year ++ r.date.month % 256 ∷ r.date.day % 256 ∷ bytes8 r.total))

-- a record's 96 bytes
unfoldable pub record_bytes : Record → List ℕ
record_bytes r = slot_head r ++ r.states ++ flat8 r.amounts

-- the record of this kind, esercizio and number
unfoldable pub key_is : Record → Key → Bool
key_is r k = eqb r.kind k.kind && (eqb r.esercizio k.esercizio && eqb r.number k.number)

-- a record's key
abbrev pub key_of : Record → Key
key_of r = record { kind = r.kind; esercizio = r.esercizio; number = r.number }

-- a record of this key and state: so many lines, date, total, line states and amounts
abbrev pub record_with : Key → ℕ → ℕ → Date → ℕ → List ℕ → List ℕ → Record
record_with k state lines date total states amounts = record {
  kind = k.kind;
  state = state;
  lines = lines;
  esercizio = k.esercizio;
  number = k.number;
  date = date;
  total = total;
  states = states;
  amounts = amounts;
}

-- a record with the state s at line k, counted from 0
abbrev pub with_state : Record → ℕ → ℕ → Record
with_state r k s = record_with (key_of r) r.state r.lines r.date r.total (set r.states k s) r.amounts
