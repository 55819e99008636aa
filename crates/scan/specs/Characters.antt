-- One character in UTF-8 (RFC 3629) of those that XML 1.0 allows (its production 2).
use Rattle.std.specs.Prelude.{ℕ, zero, suc, ◌+◌, ◌-◌, ◌*◌, List, Bool, cond, ◌&&◌, ◌||◌, leb, eqb, Result, Ok, Err}
use Rattle.scan.specs.Bytes.{byte_at, between}

-- the characters of XML 1.0: 9, A, D, 20 to D7FF, E000 to FFFD, 10000 to 10FFFF
unfoldable pub is_char : ℕ → Bool
is_char v =
    eqb v 0x09 || (eqb v 0x0a || (eqb v 0x0d
    || (between 0x20 0xd7ff v || (between 0xe000 0xfffd v || between 0x10000 0x10ffff v))))

-- the character v in n bytes, where v is allowed and is not below the least that needs so many (RFC 3629: shortest form only); 0 otherwise
unfoldable pub sized : ℕ → ℕ → ℕ → ℕ
sized n least v = cond (leb least v && is_char v) n 0

-- 10xxxxxx
unfoldable pub is_tail : ℕ → Bool
is_tail b = between 0x80 0xbf b

-- how many bytes has the character that the bytes a b c d begin with: 0xxxxxxx, 110xxxxx and a tail, 1110xxxx and two, 11110xxx and three;
-- 0 where there is none
unfoldable pub char_size : ℕ → ℕ → ℕ → ℕ → ℕ
char_size a b c d =
    cond (leb a 0x7f) (sized 1 0 a)
    (cond (between 0xc0 0xdf a && is_tail b) (sized 2 0x80 ((a - 0xc0) * 0x40 + (b - 0x80)))
    (cond (between 0xe0 0xef a && (is_tail b && is_tail c)) (sized 3 0x800 ((a - 0xe0) * 0x1000 + (b - 0x80) * 0x40 + (c - 0x80)))
    (cond (between 0xf0 0xf7 a && (is_tail b && (is_tail c && is_tail d)))
    (sized 4 0x10000 ((a - 0xf0) * 0x40000 + (b - 0x80) * 0x1000 + (c - 0x80) * 0x40 + (d - 0x80))) 0)))

-- how many bytes the character at a position has, 0 where none stands there
abbrev pub char_size_at : List ℕ → ℕ → ℕ
char_size_at s at = char_size (byte_at s at) (byte_at s (at + 1)) (byte_at s (at + 2)) (byte_at s (at + 3))

-- past n bytes, or broken where n is 0
unfoldable pub past_or : ℕ → ℕ → Result ℕ ℕ
past_or zero at = Err at
past_or (suc n) at = Ok (at + suc n)

-- past the character at a position
unfoldable pub char_at : List ℕ → ℕ → Result ℕ ℕ
char_at s at = past_or (char_size_at s at) at
