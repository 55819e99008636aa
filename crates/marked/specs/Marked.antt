-- THE MARKED CASES P1 TO P12 (document 01), in one table of the written rules: "P1 to P12 are proved of the written rules by a single statement over a
-- single table." A new case is a new line of `marked`; that all hold is proofs/Marked. P11 and P12 go through a flow's own bytes and the calls.
use Rattle.std.specs.Prelude.{ℕ, Bool, true, false, not, ◌&&◌, List, [], ◌∷◌, ◌++◌, length, get_or, eqb, Option, Some, None}
use Prim.Native.String.{String}
use Rattle.scan.specs.Bytes.{bytes}
use Rattle.digits.specs.Digits.{importo, numero}
use Rattle.dates.specs.Dates.{data_of, is_on}
use Rattle.calendar.specs.declared.Date.{Date}
use Rattle.record.specs.declared.Key.{Key}
use Rattle.table.specs.Table.{body_of}
use Rattle.notices.specs.Notices.{notice_answer, notice_code_of}
use Rattle.desk.specs.Desk.{Reading, flow_reads, flow_table, flow_outcomes}
use Rattle.marked.specs.Flows.{sample_table, mandato, flow_of, single, room}

pub data Case : Type 0 where
  -- the text of an amount or of a number, and what it is: so many (cents), or broken
  amount : String → Option ℕ → Case
  number : String → Option ℕ → Case
  -- the text of a date, and whether it stands
  date : String → Bool → Case
  -- two codes, and the bodies of the opened table that they name, counted from 0
  code : String → String → ℕ → ℕ → Case
  -- a flow of two orders on the opened table, and their outcome codes
  again : List ℕ → ℕ → ℕ → Case
  -- a flow on the opened table and then a notice of reversal: body code, order and line, and the notice's code
  reversal : List ℕ → String → Key → ℕ → ℕ → Case

abbrev same_number : Option ℕ → Option ℕ → Bool
same_number (Some v) (Some w) = eqb v w
same_number (Some v) None = false
same_number None (Some w) = false
same_number None None = true

abbrev same_bool : Bool → Bool → Bool
same_bool true b = b
same_bool false b = not b

abbrev is_body : Option ℕ → ℕ → Bool
is_body (Some b) n = eqb b n
is_body None n = false

-- what a flow of edition 1 with room for n outcomes is read as, and what it leaves
abbrev read_on : List ℕ → ℕ → Reading
read_on f n = flow_reads sample_table 1 f (length (room n))

abbrev outcomes_of : List ℕ → ℕ → List ℕ
outcomes_of f n = flow_outcomes sample_table (room n) (read_on f n)

abbrev left_by : List ℕ → ℕ → List ℕ
left_by f n = flow_table sample_table (read_on f n)

-- a TARGET day, for a case's notice
abbrev wednesday : Date
wednesday = record { year = 2021; month = 6; day = 2 }

-- WHAT THE RULES SAY of a case
abbrev pub holds : Case → Bool
holds (amount text v) = same_number (importo (bytes text)) v
holds (number text v) = same_number (numero (bytes text)) v
holds (date text stands) = same_bool (is_on (data_of (bytes text))) stands
holds (code a b m n) = is_body (body_of sample_table (bytes a)) m && (is_body (body_of sample_table (bytes b)) n && not (eqb m n))
holds (again f first second) = let out = outcomes_of f 2 in eqb (get_or out 2 99) first && eqb (get_or out 18 99) second
holds (reversal f body k line c) = eqb (notice_code_of (notice_answer (left_by f 1) false (bytes body) k line wednesday)) c

-- every case of a table holds
abbrev pub all_hold : List Case → Bool
all_hold [] = true
all_hold (c ∷ cs) = holds c && all_hold cs

-- THE TABLE
abbrev pub marked : List Case
marked =
    -- P1
    amount "0.00" (Some 0)
    -- P2
    ∷ amount "999999999.99" (Some 99999999999)
    -- P3
    ∷ amount "00.50" None
    -- P4
    ∷ amount "0.5" None
    -- P5
    ∷ number "0000012" (Some 12)
    -- P6
    ∷ number "00000012" None
    -- P7
    ∷ number "0" None
    -- P8
    ∷ date "2000-02-29" true
    -- P9
    ∷ date "2021-02-29" false
    -- P10
    ∷ code "000471" "471" 0 1
    -- P11
    ∷ again (flow_of "000471" (mandato "INSERIMENTO" "1" ++ mandato "INSERIMENTO" "1")) 0 14
    -- P12
    ∷ reversal (single "000471") "000471" (record { kind = 1; esercizio = 2021; number = 1 }) 1 22
    ∷ []
