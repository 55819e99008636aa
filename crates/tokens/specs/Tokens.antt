-- The markup's smallest parts (document 01, "The markup"): names, white space, text, an end tag. A reader answers `Past` the position after what
-- it has read, or `Broken` at the place where it breaks.
use Rattle.std.specs.Prelude.{ℕ, zero, suc, ◌+◌, ◌-◌, List, Bool, cond, not, ◌&&◌, length, leb, eqb, Result, Ok, Err}
use Rattle.scan.specs.Bytes.{bytes, byte, byte_at, part, between, is_letter, is_name_byte, is_white, run_end, has_at}
use Rattle.scan.specs.Characters.{char_at}
use Rattle.scan.specs.References.{ref_at}

-- go on where the first reader stops
abbrev pub and_then : Result ℕ ℕ → (ℕ → Result ℕ ℕ) → Result ℕ ℕ
and_then (Ok p) k = k p
and_then (Err p) k = Err p

-- `step` again and again until `stop` holds; at most n times
unfoldable pub repeat : ℕ → (ℕ → Bool) → (ℕ → Result ℕ ℕ) → ℕ → Result ℕ ℕ
repeat zero stop step at = Err at
repeat (suc n) stop step at = cond (stop at) (Ok at) (and_then (step at) (repeat n stop step))

-- the same with no limit: each step of ours passes over a byte of s, so one more than the bytes of s are enough
unfoldable pub until : List ℕ → (ℕ → Bool) → (ℕ → Result ℕ ℕ) → ℕ → Result ℕ ℕ
until s = repeat (suc (length s))

-- a name has 1 to 48 letters, digits and underscores and starts with a letter
unfoldable pub name_at : List ℕ → ℕ → Result ℕ ℕ
name_at s at =
    cond (is_letter (byte_at s at) && leb (run_end is_name_byte s at - at) 48) (Ok (run_end is_name_byte s at)) (Err at)

-- document 02, Req 05: one Id attribute, "one space, Id, an equals sign, 1 to 64 letters, digits or `_` in double quotes"; past it and the tag's >
unfoldable pub id_at : List ℕ → ℕ → Result ℕ ℕ
id_at s at =
    cond (has_at (bytes " Id=\"") s at && (between 1 64 (run_end is_name_byte s (at + 5) - (at + 5)) && has_at (bytes "\">") s (run_end is_name_byte s (at + 5))))
    (Ok (run_end is_name_byte s (at + 5) + 2)) (Err at)

-- what stands after the name in a start tag: a >, or before it an Id where one may stand
unfoldable pub tag_end_at : Bool → List ℕ → ℕ → Result ℕ ℕ
tag_end_at ids s at = cond (eqb (byte_at s at) (byte ">")) (Ok (at + 1)) (cond ids (id_at s at) (Err at))

-- past the white space
abbrev pub white_at : List ℕ → ℕ → ℕ
white_at s at = run_end is_white s at

-- one piece of a text: a reference where an & stands, no ]]>, else a character that XML 1.0 allows
unfoldable pub piece_at : List ℕ → ℕ → Result ℕ ℕ
piece_at s at =
    cond (eqb (byte_at s at) (byte "&")) (ref_at s at)
    (cond (has_at (bytes "]]>") s at) (Err at) (char_at s at))

-- a text goes on until a <
unfoldable pub text_at : List ℕ → ℕ → Result ℕ ℕ
text_at s at = until s (λ p. eqb (byte_at s p) (byte "<")) (piece_at s) at

-- the end tag, at p, of the name that stands from a up to e
unfoldable pub end_tag_at : List ℕ → ℕ → ℕ → ℕ → Result ℕ ℕ
end_tag_at s a e p =
    cond (has_at (bytes "</") s p && (has_at (part s a e) s (p + 2) && eqb (byte_at s (p + 2 + (e - a))) (byte ">")))
    (Ok (p + 2 + (e - a) + 1)) (Err p)

-- past the bytes x where they stand here, else here
unfoldable pub optional_at : List ℕ → List ℕ → ℕ → ℕ
optional_at x s at = cond (has_at x s at) (at + length x) at

-- a byte that is a piece of a text by itself, wherever it stands (it may be <, where a text ends): a plain ASCII character but & and ]
unfoldable pub is_plain : ℕ → Bool
is_plain b = between 0x20 0x7f b && (not (eqb b (byte "&")) && not (eqb b (byte "]")))
