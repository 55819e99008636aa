-- Conversion (document 02, Req 04): "A conversion from table 1 is wanted; it gives the same totals and answers. .. Refusals: conversion answers 1, then 10,
-- and then leaves both buffers untouched." A table 1 is valid by document 01's rules; it is lent to read only.
use Rattle.std.specs.Prelude.{ℕ, ◌+◌, ◌-◌, ◌*◌, ◌≡◌, cond, List, ◌++◌, length, eqb, Result, Ok, Err}
use Rattle.scan.specs.Bytes.{part}
use Rattle.body.specs.Body.{cents_of}
use Rattle.entries.specs.Entry.{entry_size}
use Rattle.table.specs.Table.{table1, head_size, bodies, abi_of, records_of, valid_as}
use Rattle.contents.specs.Contents.{head_bytes, entries_bytes}
use Rattle.convert.specs.declared.ConvertRefusal.{ConvertRefusal}
use Rattle.convert.specs.declared.ConvertRefusal.TheVariants.{InvalidTable, WrongLength}

-- "Entries grow to 48 bytes": how long the table 2 of a table 1 is
abbrev pub grown_length : List ℕ → ℕ
grown_length o = length o + (entry_size - table1.entry) * bodies o

-- the cents of a kind, of the records of the body whose entry is at `at` in the table 1
abbrev pub cents_at : List ℕ → ℕ → ℕ → ℕ
cents_at o kind at = cents_of kind (records_of o at)

-- every byte of the table 2: the head, with the same bodies and bank; the entries, with the same codes and slots, the slots' places as the longer contents
-- have it, and the cents of their records; the slots' bytes as they are
unfoldable pub converted : List ℕ → List ℕ
converted o =
    head_bytes (bodies o) (grown_length o) (abi_of o)
    ++ entries_bytes table1.entry (cents_at o) o head_size (bodies o) (head_size + entry_size * bodies o)
    ++ part o (head_size + table1.entry * bodies o) (length o)

-- what conversion answers for a table 1 and a buffer of n bytes
unfoldable pub convert_of : List ℕ → ℕ → Result Unit ConvertRefusal
convert_of o n = cond (valid_as table1 o) (cond (eqb n (grown_length o)) (Ok tt) (Err WrongLength)) (Err InvalidTable)

-- document 01's code
abbrev pub convert_code : Result Unit ConvertRefusal → ℕ
convert_code (Ok tt) = 0
convert_code (Err InvalidTable) = 1
convert_code (Err WrongLength) = 10

-- the buffer afterwards: filled, or as it was
abbrev pub convert_table : Result Unit ConvertRefusal → List ℕ → List ℕ → List ℕ
convert_table (Ok tt) o t = converted o
convert_table (Err InvalidTable) o t = t
convert_table (Err WrongLength) o t = t

-- THE PROMISE of conversion, of the table 1 o and the lent buffer t
abbrev pub ConvertPromise : List ℕ → List ℕ → Result Unit ConvertRefusal → List ℕ → Type 0
ConvertPromise o t a t' = (a ≡ convert_of o (length t)) × (t' ≡ convert_table a o t)

-- the promise in document 01's number
abbrev pub ConvertReplies : List ℕ → List ℕ → ℕ → List ℕ → Type 0
ConvertReplies o t n t' = (a : Result Unit ConvertRefusal) × ConvertPromise o t a t' × (n ≡ convert_code a)
