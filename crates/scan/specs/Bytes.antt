-- Bytes of a flow (document 01, "The markup", "The fields"). Positions are counted from 0 at the flow's first byte; past the end a flow
-- reads as the byte 0, which no rule of a flow accepts.
use Rattle.std.specs.Prelude.{ℕ, suc, ◌+◌, ◌-◌, List, [], ◌∷◌, Bool, true, false, cond, ◌&&◌, ◌||◌, length, get_or, take, drop, leb, eqb}
use Prim.Native.String.{String}
use Prim.Native.Char.{Char, code}

-- a quoted text of ASCII characters, as bytes
abbrev pub bytes : String → List ℕ
bytes String.[] = []
bytes (String.◌∷◌ c t) = code c ∷ bytes t

-- the byte of a quoted character
abbrev pub byte : Char → ℕ
byte c = code c

-- the byte at a position
abbrev pub byte_at : List ℕ → ℕ → ℕ
byte_at s at = get_or s at 0

-- the part of the flow from a up to e
abbrev pub part : List ℕ → ℕ → ℕ → List ℕ
part s a e = take (e - a) (drop a s)

-- lo to hi
abbrev pub between : ℕ → ℕ → ℕ → Bool
between lo hi b = leb lo b && leb b hi

-- letters are A to Z and a to z
unfoldable pub is_letter : ℕ → Bool
is_letter b = between (byte "A") (byte "Z") b || between (byte "a") (byte "z") b

-- digits are 0 to 9
unfoldable pub is_digit : ℕ → Bool
is_digit b = between (byte "0") (byte "9") b

-- letters and digits
unfoldable pub is_alnum : ℕ → Bool
is_alnum b = is_letter b || is_digit b

-- letters, digits and underscores
unfoldable pub is_name_byte : ℕ → Bool
is_name_byte b = is_letter b || (is_digit b || eqb b (byte "_"))

-- white space (20, 09, 0A, 0D)
unfoldable pub is_white : ℕ → Bool
is_white b = eqb b 0x20 || (eqb b 0x09 || (eqb b 0x0a || eqb b 0x0d))

-- every byte is of the kind p
unfoldable pub all : (ℕ → Bool) → List ℕ → Bool
all p [] = true
all p (b ∷ t) = p b && all p t

-- how many bytes at the front of t are of the kind p
unfoldable pub run : (ℕ → Bool) → List ℕ → ℕ
run p [] = 0
run p (b ∷ t) = cond (p b) (suc (run p t)) 0

-- the first position from `at` on whose byte is not of the kind p
unfoldable pub run_end : (ℕ → Bool) → List ℕ → ℕ → ℕ
run_end p s at = at + run p (drop at s)

-- t begins with the bytes x
unfoldable pub starts_with : List ℕ → List ℕ → Bool
starts_with [] t = true
starts_with (a ∷ x) [] = false
starts_with (a ∷ x) (b ∷ t) = eqb b a && starts_with x t

-- the bytes x stand at the position
unfoldable pub has_at : List ℕ → List ℕ → ℕ → Bool
has_at x s at = starts_with x (drop at s)

-- the text is x, byte by byte and of the same length
unfoldable pub text_is : List ℕ → List ℕ → Bool
text_is x t = eqb (length t) (length x) && has_at x t 0
