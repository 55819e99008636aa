-- What the markup pass notes for later passes, so that nothing is read twice. Four places share a note: the last of them that was noted has it.
use Rattle.std.specs.Prelude.{ℕ, ◌+◌, ◌-◌, ◌*◌, ◌/◌, ◌%◌, ◌≡◌, List, get_or, set, eqb, leb, cond, Option, Some, None, Ok}
use Rattle.tokens.specs.Tokens.{name_at}
use Rattle.markup.specs.Markup.{element_at}

-- a note as one number: an element's end in its low 16 bits, its name's length in the next 6, then which of its four places is meant, counted from 1
abbrev pub note_for : ℕ → ℕ → ℕ → ℕ
note_for at k q = q + 65536 * (k + 64 * (at % 4 + 1))

-- what the number n says of a place, where it is meant
abbrev pub said_of : ℕ → ℕ → Option (ℕ × ℕ)
said_of at n = cond (eqb (n / 4194304) (at % 4 + 1)) (Some ((n / 65536 % 64), (n % 65536))) None

-- what is noted of a place
unfoldable pub note_of : List ℕ → ℕ → Option (ℕ × ℕ)
note_of past at = said_of at (get_or past (at / 4) 0)

-- every note is true: the element after the < before its place ends there, and its name has that length
unfoldable pub Noted : List ℕ → List ℕ → Type 0
Noted s past = (p k q : ℕ) → note_of past p ≡ Some (k, q) → (element_at 12 s p ≡ Ok q) × (name_at s p ≡ Ok (p + k))

-- an element's end q and its name's end e noted of a place, where q fits 16 bits (a set past the end of a list changes nothing)
unfoldable pub note_in : List ℕ → ℕ → ℕ → ℕ → List ℕ
note_in past at e q = cond (leb q 65535) (set past (at / 4) (note_for at (e - at) q)) past
