-- A body's entry (document 01, "The table", with document 02, Req 04 and 14), and bodies told apart by their codes. A request's 20 bytes per body are an
-- entry's bytes 0 to 19.
use Rattle.std.specs.Prelude.{ℕ, zero, suc, ◌+◌, ◌-◌, ◌*◌, Bool, true, ◌&&◌, ◌||◌, cond, List, [], ◌∷◌, ◌++◌, get_or, eqb, Option, Some, None}
use Rattle.scan.specs.Bytes.{between, part, text_is}
use Rattle.bounds.specs.Bounds.{is_year, is_code, max_slots}
use Rattle.words.specs.Numbers.{be2, be4, be8, bytes8}
use Rattle.ranges.specs.Ranges.{zeros, is_nothing}

-- "Entries grow to 48 bytes" (02, Req 04)
abbrev pub entry_size : ℕ
entry_size = 48

-- its bytes that never change: code, slots and place. From there to its end the entry is its body's own
abbrev pub entry_fixed : ℕ
entry_fixed = 24

-- "cents paid at 24-31, cents collected at 32-39" (02, Req 04): the place of a kind's, 1 mandato, paid, and 2 reversale, collected
abbrev pub kept_place : ℕ → ℕ
kept_place kind = entry_fixed + 8 * (kind - 1)

-- "Entry bytes 40-41 hold the year (2000 to 2099), 0 before the first close" (02, Req 14)
abbrev pub closed_place : ℕ
closed_place = 40

-- after it "rest zero" (02, Req 04)
abbrev pub entry_rest : ℕ
entry_rest = 42

-- "20 bytes per body (an entry's bytes 0 to 19)"
abbrev pub request_size : ℕ
request_size = 20

-- "0 code length"
abbrev pub code_length : List ℕ → ℕ → ℕ
code_length t at = get_or t at 0

-- "1-16 code"
unfoldable pub code_at : List ℕ → ℕ → List ℕ
code_at t at = part t (at + 1) (at + 1 + code_length t at)

-- "18-19 number of slots"
unfoldable pub slots_of : List ℕ → ℕ → ℕ
slots_of t at = be2 t (at + 18)

-- "20-23 place of its first slot"
unfoldable pub place_of : List ℕ → ℕ → ℕ
place_of t at = be4 t (at + 20)

-- the cents that an entry keeps of a kind
abbrev pub kept : ℕ → List ℕ → ℕ → ℕ
kept kind t at = be8 t (at + kept_place kind)

-- the last year that was closed
unfoldable pub closed_of : List ℕ → ℕ → ℕ
closed_of t at = be2 t (at + closed_place)

-- what it may be: "(2000 to 2099), 0 before the first close"
abbrev pub closed_ok : ℕ → Bool
closed_ok year = eqb year 0 || is_year year

-- the sixteen bytes of what is kept
unfoldable pub kept_bytes : ℕ → ℕ → List ℕ
kept_bytes paid collected = bytes8 paid ++ bytes8 collected

-- bytes 0 to 19: a code of 1 to 16 letters and digits, zeros after it up to byte 17, 1 to 512 slots
unfoldable pub form_ok : List ℕ → ℕ → Bool
form_ok t at =
    is_code (code_length t at) (code_at t at)
    && (zeros t (at + 1 + code_length t at) (at + 18) && between 1 max_slots (slots_of t at))

-- the n forms from `at` on, each `size` after the one before, are right
unfoldable pub forms_ok : ℕ → List ℕ → ℕ → ℕ → Bool
forms_ok size t at zero = true
forms_ok size t at (suc n) = form_ok t at && forms_ok size t (at + size) n

-- the codes of the n bodies whose entries begin at `at`, each `size` after the one before
unfoldable pub codes_from : ℕ → List ℕ → ℕ → ℕ → List (List ℕ)
codes_from size t at zero = []
codes_from size t at (suc n) = code_at t at ∷ codes_from size t (at + size) n

-- their slots, together
unfoldable pub slots_from : ℕ → List ℕ → ℕ → ℕ → ℕ
slots_from size t at zero = 0
slots_from size t at (suc n) = slots_of t at + slots_from size t (at + size) n

-- the first of the codes that is this one, byte by byte and of the same length; i is the first code's index
unfoldable pub find_code : List (List ℕ) → ℕ → List ℕ → Option ℕ
find_code [] i c = None
find_code (x ∷ xs) i c = cond (text_is x c) (Some i) (find_code xs (i + 1) c)

-- "Codes are distinct"
unfoldable pub distinct_codes : List (List ℕ) → Bool
distinct_codes [] = true
distinct_codes (x ∷ xs) = is_nothing (find_code xs 0 x) && distinct_codes xs
