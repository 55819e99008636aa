-- Numbers written out in digits, the other way round than crates/digits and crates/dates read them.
use Rattle.std.specs.Prelude.{ℕ, zero, suc, ◌+◌, ◌/◌, ◌%◌, List, [], ◌∷◌, ◌++◌, cond, leb}
use Rattle.scan.specs.Bytes.{bytes, byte}
use Rattle.calendar.specs.declared.Date.{Date}

-- the last digit of n
abbrev pub digit : ℕ → ℕ
digit n = byte "0" + n % 10

-- the last w digits of n, highest first
abbrev pub fixed : ℕ → ℕ → List ℕ
fixed zero n = []
fixed (suc w) n = fixed w (n / 10) ++ (digit n ∷ [])

-- n without leading zeros, in at most w + 1 digits
unfoldable pub decimal_by : ℕ → ℕ → List ℕ
decimal_by zero n = digit n ∷ []
decimal_by (suc w) n = cond (leb n 9) (digit n ∷ []) (decimal_by w (n / 10) ++ (digit n ∷ []))

-- "decimal, without leading zeros" (document 01, "The program"); no number and no amount's euros have more than nine digits
unfoldable pub decimal : ℕ → List ℕ
decimal n = decimal_by 8 n

-- importo: "1 to 9 digits, a point, two digits; no zero in front unless it is the only digit there", of cents
unfoldable pub amount : ℕ → List ℕ
amount n = decimal (n / 100) ++ (bytes "." ++ fixed 2 (n % 100))

-- data: "YYYY-MM-DD"
unfoldable pub dated : Date → List ℕ
dated d = fixed 4 d.year ++ bytes "-" ++ fixed 2 d.month ++ bytes "-" ++ fixed 2 d.day
