-- THE NUMBERED ANSWERS (document 01, "Answers"): the codes that each kind of answer may have. A new code is one more number here.
use Rattle.std.specs.Prelude.{ℕ, zero, suc, ◌+◌, Bool, true, false, cond, ◌||◌, ◌&&◌, List, [], ◌∷◌, ◌++◌, eqb, get_or, drop}
use Rattle.service.specs.Service.{outcome_size}
use Rattle.theorems.specs.Engine.{Call, flow, execute, reverse, totals, journal, close}

abbrev pub one_of : List ℕ → ℕ → Bool
one_of [] c = false
one_of (x ∷ xs) c = eqb c x || one_of xs c

abbrev pub each_code : (ℕ → Bool) → List ℕ → Bool
each_code p [] = true
each_code p (x ∷ xs) = p x && each_code p xs

-- OPENING: "9 opening: ABI digits, length, count, .. is wrong; 10 opening: the buffer hasn't the needed length"
abbrev pub open_codes : List ℕ
open_codes = 0 ∷ 9 ∷ 10 ∷ []

-- CONVERSION: "conversion answers 1, then 10" (document 02, Req 04)
abbrev pub convert_codes : List ℕ
convert_codes = 0 ∷ 1 ∷ 10 ∷ []

-- SALVAGE: "34 head or entries not valid, 35 report doesn't fit" (document 02, Req 13)
abbrev pub salvage_codes : List ℕ
salvage_codes = 0 ∷ 34 ∷ 35 ∷ []

-- A CALL THAT NAMES NO BODY of a valid table. A flow: "2 the flow is longer than 32,768 bytes; 3 the markup breaks; 4 the structure breaks; 5 a field
-- breaks; 6 codice_ABI_BT isn't the table's; 7 no body has this code", or "23, no such edition" (document 02, Req 05). A notice: 7, or "27 no date or outside the years, 28 closing day" (Req 08). Totals, a journal and a close: 7
abbrev pub stray_codes : Call → List ℕ
stray_codes (flow ed f out) = 2 ∷ 3 ∷ 4 ∷ 5 ∷ 6 ∷ 7 ∷ 23 ∷ []
stray_codes (execute code k line d) = 7 ∷ 27 ∷ 28 ∷ []
stray_codes (reverse code k line d) = 7 ∷ 27 ∷ 28 ∷ []
stray_codes (totals code) = 7 ∷ []
stray_codes (journal code s) = 7 ∷ []
stray_codes (close code year) = 7 ∷ []

-- a notice for a body: "16 (no such order), 17, 20 (no such line), then for execution 21 (already executed), for reversal 22 (not executed)"
abbrev pub notice_codes : Bool → List ℕ
notice_codes true = 0 ∷ 16 ∷ 17 ∷ 20 ∷ 21 ∷ []
notice_codes false = 0 ∷ 16 ∷ 17 ∷ 20 ∷ 22 ∷ []

-- a journal for a body: "29 over 4,096 or not whole movements; then one by one 30 no such executed line, 31 other cents, 32 listed before; then 33 an
-- executed line is missing" (document 02, Req 10)
abbrev pub journal_codes : List ℕ
journal_codes = 0 ∷ 29 ∷ 30 ∷ 31 ∷ 32 ∷ 33 ∷ []

-- a close for a body: "37 not a year of 2000 to 2099, 36 not later than the last one closed, 38 a record of an earlier year remains, 39 an acquired order of that
-- year has a waiting line" (document 02, Req 14)
abbrev pub close_codes : List ℕ
close_codes = 0 ∷ 36 ∷ 37 ∷ 38 ∷ 39 ∷ []

-- A CALL THAT NAMES A BODY. A flow: "8 the outcome buffer has under 16 bytes per order .. Otherwise the code is 0", and "36 year closed" (document 02, Req 14)
abbrev pub body_codes : Call → List ℕ
body_codes (flow ed f out) = 0 ∷ 8 ∷ 36 ∷ []
body_codes (execute code k line d) = notice_codes true
body_codes (reverse code k line d) = notice_codes false
body_codes (totals code) = 0 ∷ []
body_codes (journal code s) = journal_codes
body_codes (close code year) = close_codes

-- ANY CALL: "1 the table isn't valid", or one of those
abbrev pub call_codes : Call → List ℕ
call_codes c = 1 ∷ (stray_codes c ++ body_codes c)

-- THE CAUSE that goes with a flow's code (document 02, Req 03): "1 empty, 2 longer than the longest allowed text, 3 wrong form, 4 right form but a
-- value outside its range"; "All other answers carry cause 0"
abbrev pub causes_with : ℕ → List ℕ
causes_with code = cond (eqb code 5) (1 ∷ 2 ∷ 3 ∷ 4 ∷ []) (0 ∷ [])

-- AN ORDER: "12 ..; 13 ..; then the step table ..; then 19 .. or 15 ..; else 0", and (document 02, Req 07) "11 is given no more; .. 24 named line absent,
-- 25 not executed or already replaced, .. 26 other amount"
abbrev pub order_refusals : List ℕ
order_refusals = 12 ∷ 13 ∷ 14 ∷ 15 ∷ 16 ∷ 17 ∷ 18 ∷ 19 ∷ 24 ∷ 25 ∷ 26 ∷ []

abbrev pub order_codes : List ℕ
order_codes = 0 ∷ order_refusals

-- the codes of the first k outcomes of a buffer: "Each writes 16 outcome bytes: .. 2 code"
abbrev pub outcome_codes : ℕ → List ℕ → List ℕ
outcome_codes zero out = []
outcome_codes (suc k) out = get_or out 2 0 ∷ outcome_codes k (drop outcome_size out)

-- "how many of them got outcome code 0"
abbrev pub zero_codes : List ℕ → ℕ
zero_codes [] = 0
zero_codes (c ∷ cs) = cond (eqb c 0) 1 0 + zero_codes cs
