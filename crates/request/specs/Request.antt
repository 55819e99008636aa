-- A request to open a table (document 01, "The table": "Opening takes five ABI digits followed by 20 bytes per body (an entry's bytes 0 to 19)").
use Rattle.std.specs.Prelude.{ℕ, ◌+◌, ◌*◌, ◌-◌, ◌/◌, ◌%◌, Bool, ◌&&◌, List, length, eqb, leb}
use Rattle.scan.specs.Bytes.{between, part, all, is_digit}
use Rattle.record.specs.Slot.{slot_size}
use Rattle.entries.specs.Entry.{entry_size, request_size, slots_from, forms_ok, codes_from, distinct_codes}
use Rattle.bounds.specs.Bounds.{abi_length, max_bodies, max_length}
use Rattle.table.specs.Table.{head_size}

-- "five ABI digits followed by 20 bytes per body"
abbrev pub first_body : ℕ
first_body = abi_length

-- how many bodies a request asks for
unfoldable pub asked : List ℕ → ℕ
asked q = (length q - first_body) / request_size

-- the slots of the bodies asked for, together
abbrev pub slots_asked : List ℕ → ℕ
slots_asked q = slots_from request_size q first_body (asked q)

-- the table's length: head, entries, slots. Two bodies of 4 slots need 16 + 96 + 768 = 880 bytes
unfoldable pub needed : List ℕ → ℕ
needed q = head_size + entry_size * asked q + slot_size * slots_asked q

-- the bodies asked for: codes, bytes 17 and slots are right, no code is repeated, and the total is at most 65,792
unfoldable pub bodies_asked_ok : List ℕ → Bool
bodies_asked_ok q =
    forms_ok request_size q first_body (asked q)
    && (distinct_codes (codes_from request_size q first_body (asked q)) && leb (needed q) max_length)

-- a request that is right: code 9 names "ABI digits, length, count, code, code repeated, byte 17, slots or a total above 65,536"; by
-- document 02, Req 04, "The greatest table length becomes 65,792"
unfoldable pub request_ok : List ℕ → Bool
request_ok q =
    leb first_body (length q) && (all is_digit (part q 0 first_body) && (eqb ((length q - first_body) % request_size) 0
    && (between 1 max_bodies (asked q) && bodies_asked_ok q)))
