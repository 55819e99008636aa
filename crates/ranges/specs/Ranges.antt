-- Tests of the bytes from one index up to another, and where a search stops.
use Rattle.std.specs.Prelude.{ℕ, Bool, true, false, ◌||◌, List, eqb, Option, Some, None}
use Rattle.scan.specs.Bytes.{byte, part, all, is_digit, is_alnum}
use Rattle.ranges.specs.declared.Class.{Class}
use Rattle.ranges.specs.declared.Class.TheVariants.{Digits, Alphanumeric, Identifying, Zero}

-- the bytes from a up to e are zero
unfoldable pub zeros : List ℕ → ℕ → ℕ → Bool
zeros t a e = all (λ b. eqb b 0) (part t a e)

-- letters, digits, - _ .
unfoldable pub is_identifying : ℕ → Bool
is_identifying b = is_alnum b || (eqb b (byte "-") || (eqb b (byte "_") || eqb b (byte ".")))

-- a byte of a class
abbrev pub is_of : Class → ℕ → Bool
is_of Digits b = is_digit b
is_of Alphanumeric b = is_alnum b
is_of Identifying b = is_identifying b
is_of Zero b = eqb b 0

-- nothing was found
abbrev pub is_nothing : Option ℕ → Bool
is_nothing None = true
is_nothing (Some i) = false
