-- The table (document 01, "The table"): "Contents first, then the bodies' records. Numbers have the highest byte first; the buffer has exactly the
-- length that the head states". Document 02, Req 04, makes it table 2; a table 1 is only converted.
use Rattle.std.specs.Prelude.{ℕ, zero, suc, ◌+◌, ◌*◌, Bool, true, false, ◌&&◌, cond, List, length, eqb, leb, Option}
use Rattle.scan.specs.Bytes.{between, part, all, is_digit}
use Rattle.bounds.specs.Bounds.{abi_length, max_bodies, max_length}
use Rattle.words.specs.Numbers.{be2, be4}
use Rattle.record.specs.Slot.{slot_size, mandato_kind, reversale_kind}
use Rattle.record.specs.declared.Record.{Record}
use Rattle.ranges.specs.Ranges.{zeros}
use Rattle.slots.specs.Slots.{records_at}
use Rattle.body.specs.Body.{body_ok, cents_of, none_replaced, all_later}
use Rattle.entries.specs.Entry.{entry_size, entry_fixed, entry_rest, kept, closed_of, closed_ok, slots_of, place_of, form_ok, codes_from, find_code, distinct_codes}
use Rattle.table.specs.declared.Layout.{Layout}

-- WHAT TELLS TABLES APART: an entry's size, where its rest begins, whether it keeps totals before that, whether lines may be replaced, whether it has a place for
-- a closed year after the totals, the head's number, the greatest length

-- document 01: "2-3 the number 1", "One entry per body, 32 bytes", "20-23 place of its first slot; rest zero", "line states (0 no line, 1 waiting,
-- 2 executed)", "at most 65,536"
abbrev pub table1 : Layout
table1 = record { entry = 32; rest = entry_fixed; keeps = false; replaces = false; closes = false; number = 1; most = 65536 }

-- document 02, Req 04: "Entries grow to 48 bytes: cents paid at 24-31, cents collected at 32-39, rest zero. The head's number becomes 2, and a table is
-- valid only if these agree with the records. .. The greatest table length becomes 65,792." Req 07: "replaced (line state 3)". Req 14: "Entry bytes 40-41
-- hold the year"
abbrev pub table2 : Layout
table2 = record { entry = entry_size; rest = entry_rest; keeps = true; replaces = true; closes = true; number = 2; most = max_length }

-- A VALID TABLE of a layout

-- "Head, 16 bytes"
abbrev pub head_size : ℕ
head_size = 16

-- "0-1 number of bodies"
abbrev pub bodies : List ℕ → ℕ
bodies t = be2 t 0

-- "8-12 the bank's five ABI digits in ASCII"
abbrev pub abi_place : ℕ
abi_place = 8

abbrev pub abi_of : List ℕ → List ℕ
abi_of t = part t abi_place (abi_place + abi_length)

-- "0-1 number of bodies, 1 to 16; 2-3 the number ..; 4-7 total length; 8-12 the bank's five ABI digits; rest zero"; the entries fit
unfoldable pub head_ok : Layout → List ℕ → Bool
head_ok l t =
    between head_size l.most (length t) && (between 1 max_bodies (bodies t) && (eqb (be2 t 2) l.number && (eqb (be4 t 4) (length t)
    && (all is_digit (abi_of t) && (zeros t (abi_place + abi_length) head_size && leb (head_size + l.entry * bodies t) (length t))))))

-- an entry's closed year, where it has a place for one: "(2000 to 2099), 0 before the first close"
abbrev pub year_ok : Layout → List ℕ → ℕ → Bool
year_ok l t at = cond l.closes (closed_ok (closed_of t at)) true

-- an entry whose slots begin at p: "20-23 place of its first slot", "rest zero"
unfoldable pub entry_ok : Layout → List ℕ → ℕ → ℕ → Bool
entry_ok l t at p = form_ok t at && (eqb (place_of t at) p && (year_ok l t at && zeros t (at + l.rest) (at + l.entry)))

-- "The bodies' slots follow the contents without gaps, in entry order": the n entries from `at` on, the first one's slots at p; the last slot
-- ends the buffer
unfoldable pub layout_ok : Layout → List ℕ → ℕ → ℕ → ℕ → Bool
layout_ok l t at zero p = eqb p (length t)
layout_ok l t at (suc n) p = entry_ok l t at p && layout_ok l t (at + l.entry) n (p + slot_size * slots_of t at)

-- "a table is valid only if these agree with the records": the cents paid and collected that the entry at `at` keeps are those of the records
unfoldable pub agrees : List ℕ → ℕ → List Record → Bool
agrees t at rs = eqb (kept mandato_kind t at) (cents_of mandato_kind rs) && eqb (kept reversale_kind t at) (cents_of reversale_kind rs)

-- the records of the body whose entry is at `at`
abbrev pub records_of : List ℕ → ℕ → List Record
records_of t at = records_at t (place_of t at) (slots_of t at)

-- only a table whose lines may be replaced has any that are
abbrev pub lines_hold : Layout → List Record → Bool
lines_hold l rs = cond l.replaces true (none_replaced rs)

-- "a valid table holds no record of that or an earlier year"
abbrev pub years_hold : Layout → List ℕ → ℕ → List Record → Bool
years_hold l t at rs = cond l.closes (all_later (closed_of t at) rs) true

-- the body of the entry at `at` is valid; no line is replaced where none may be; its records are later than its closed year; the kept totals agree with them
unfoldable pub body_holds : Layout → List ℕ → ℕ → Bool
body_holds l t at =
    body_ok t (place_of t at) (slots_of t at) && (lines_hold l (records_of t at) && (years_hold l t at (records_of t at)
    && cond l.keeps (agrees t at (records_of t at)) true))

-- the bodies of the n entries from `at` on
unfoldable pub bodies_ok : Layout → List ℕ → ℕ → ℕ → Bool
bodies_ok l t at zero = true
bodies_ok l t at (suc n) = body_holds l t at && bodies_ok l t (at + l.entry) n

-- head and entries are right, the closed years among them, the kept totals aside (document 02, Req 13: "a valid head and entries but for the kept totals")
abbrev pub contents_ok : Layout → List ℕ → Bool
contents_ok l t =
    head_ok l t && (layout_ok l t head_size (bodies t) (head_size + l.entry * bodies t)
    && distinct_codes (codes_from l.entry t head_size (bodies t)))

-- "A table is valid when all that holds"
unfoldable pub valid_as : Layout → List ℕ → Bool
valid_as l t = contents_ok l t && bodies_ok l t head_size (bodies t)

-- TABLE 2, the table of every call but conversion

abbrev pub table_ok : List ℕ → Bool
table_ok t = valid_as table2 t

-- the codes of the table's bodies, in contents order
abbrev pub codes_of : List ℕ → List (List ℕ)
codes_of t = codes_from entry_size t head_size (bodies t)

-- which body has this code
abbrev pub body_of : List ℕ → List ℕ → Option ℕ
body_of t code = find_code (codes_of t) 0 code

-- where body b's entry begins
abbrev pub entry_of : ℕ → ℕ
entry_of b = head_size + entry_size * b
