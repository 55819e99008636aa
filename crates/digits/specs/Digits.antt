-- The forms that write a number in digits (document 01, "The fields"). A text is taken as it stands in the flow: nothing is trimmed.
use Rattle.std.specs.Prelude.{ℕ, ◌+◌, ◌*◌, ◌-◌, List, [], ◌∷◌, Bool, true, false, cond, not, ◌&&◌, ◌||◌, length, take, drop, eqb, Option, Some, None}
use Rattle.scan.specs.Bytes.{byte, byte_at, between, is_digit, run}
use Rattle.bounds.specs.Bounds.{is_year, is_numero}

-- a number is written
abbrev pub is_value : Option ℕ → Bool
is_value (Some v) = true
is_value None = false

-- .. of which f holds
abbrev pub value_is : (ℕ → Bool) → Option ℕ → Bool
value_is f (Some v) = f v
value_is f None = false

-- a number of which f holds
abbrev pub within : (ℕ → Bool) → Option ℕ → Option ℕ
within f (Some v) = cond (f v) (Some v) None
within f None = None

-- the number v followed by the digits t
unfoldable pub digits_after : ℕ → List ℕ → Option ℕ
digits_after v [] = Some v
digits_after v (b ∷ t) = cond (is_digit b) (digits_after (v * 10 + (b - byte "0")) t) None

-- the number that a text of lo to hi digits writes, highest digit first
unfoldable pub digits : ℕ → ℕ → List ℕ → Option ℕ
digits lo hi t = cond (between lo hi (length t)) (digits_after 0 t) None

-- esercizio: four digits, 2000 to 2099
abbrev pub esercizio_written : List ℕ → Option ℕ
esercizio_written t = digits 4 4 t

unfoldable pub esercizio : List ℕ → Option ℕ
esercizio t = within is_year (esercizio_written t)

-- numero: 1 to 7 digits, value 1 to 9,999,999; leading zeros don't count
abbrev pub numero_written : List ℕ → Option ℕ
numero_written t = digits 1 7 t

unfoldable pub numero : List ℕ → Option ℕ
numero t = within is_numero (numero_written t)

abbrev pub in_cents : Option ℕ → Option ℕ → Option ℕ
in_cents (Some w) (Some c) = Some (w * 100 + c)
in_cents (Some w) None = None
in_cents None c = None

-- "no zero in front unless it is the only digit there"
unfoldable pub zero_in_front : List ℕ → Bool
zero_in_front w = eqb (byte_at w 0) (byte "0") && not (eqb (length w) 1)

-- the digits w, and after them a point and two digits
abbrev pub amount_of : List ℕ → List ℕ → Option ℕ
amount_of w rest = cond (eqb (byte_at rest 0) (byte ".") && not (zero_in_front w)) (in_cents (digits 1 9 w) (digits 2 2 (drop 1 rest))) None

-- importo: "1 to 9 digits, a point, two digits; .. held in cents": the digits at the front of t, and what follows them
unfoldable pub importo : List ℕ → Option ℕ
importo t = amount_of (take (run is_digit t) t) (drop (run is_digit t) t)

-- progressivo: 1 to 3 digits, as a number; leading zeros don't count
unfoldable pub progressivo : List ℕ → Option ℕ
progressivo t = digits 1 3 t

-- the codes of a refused order: document 01, "Per order", 12 to 19 (document 02, Req 07: "11 is given no more", and 24 to 26; Req 01: "a code no order can
-- get" is any other but 0)
abbrev pub is_refusal : ℕ → Bool
is_refusal c = between 12 19 c || between 24 26 c

-- codice_errore of an outcome message (document 000, 10.2.5): two digits, the code of a refused order
abbrev pub codice_errore_written : List ℕ → Option ℕ
codice_errore_written t = digits 2 2 t

unfoldable pub codice_errore : List ℕ → Option ℕ
codice_errore t = within is_refusal (codice_errore_written t)
