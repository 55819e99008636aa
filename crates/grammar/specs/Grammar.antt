-- The markup as a grammar: document 01, "The markup", line by line. It says which lists of bytes have a flow's markup,
-- whatever its elements are called, and nothing of how they are read. Document 02's other documents have the same markup, some with an Id on the root.
-- (The limit of 32,768 bytes is a rule of its own, with a code of its own.)
use Rattle.std.specs.Prelude.{◌≡◌, ℕ, suc, ◌+◌, ◌*◌, ◌≤◌, ◌<◌, List, [], ◌∷◌, ◌++◌, Bool, true, false, length}
use Rattle.scan.specs.Bytes.{bytes, is_letter, is_name_byte, is_white, all}
use Rattle.scan.specs.Characters.{is_char}

-- "A name has 1 to 48 letters, digits and underscores and starts with a letter."
pub data Name : List ℕ → Type 0 where
  name : {b : ℕ} {t : List ℕ} → is_letter b ≡ true → all is_name_byte t ≡ true → length (b ∷ t) ≤ 48 → Name (b ∷ t)

-- "white space (20, 09, 0A, 0D)"
pub data White : List ℕ → Type 0 where
  white : {t : List ℕ} → all is_white t ≡ true → White t

-- "the characters that XML 1.0 allows": v is one, and is not below the least that needs so many bytes (UTF-8 has the shortest form only)
pub record Allowed (least v : ℕ) : Type 0 where
  pub short : least ≤ v
  pub xml : is_char v ≡ true

-- "UTF-8", RFC 3629: 0xxxxxxx; 110xxxxx 10yyyyyy; 1110xxxx 10yyyyyy 10zzzzzz; 11110xxx 10yyyyyy 10zzzzzz 10wwwwww
pub data Character : List ℕ → Type 0 where
  one : {x : ℕ} → x < 0x80 → Allowed 0 x → Character (x ∷ [])
  two : {x y : ℕ} → x < 0x20 → y < 0x40 → Allowed 0x80 (x * 0x40 + y) → Character ((0xc0 + x) ∷ (0x80 + y) ∷ [])
  three : {x y z : ℕ} → x < 0x10 → y < 0x40 → z < 0x40 → Allowed 0x800 (x * 0x1000 + y * 0x40 + z) → Character ((0xe0 + x) ∷ (0x80 + y) ∷ (0x80 + z) ∷ [])
  four : {x y z w : ℕ} → x < 0x08 → y < 0x40 → z < 0x40 → w < 0x40 → Allowed 0x10000 (x * 0x40000 + y * 0x1000 + z * 0x40 + w) → Character ((0xf0 + x) ∷ (0x80 + y) ∷ (0x80 + z) ∷ (0x80 + w) ∷ [])

-- "without <"; "& only as &amp; &lt; &gt; &quot; &apos;"
pub data Piece : List ℕ → Type 0 where
  char : {c : List ℕ} → Character c → (c ≡ bytes "<" → ⊥) → (c ≡ bytes "&" → ⊥) → Piece c
  amp : Piece (bytes "&amp;")
  lt : Piece (bytes "&lt;")
  gt : Piece (bytes "&gt;")
  quot : Piece (bytes "&quot;")
  apos : Piece (bytes "&apos;")

pub data Pieces : List ℕ → Type 0 where
  none : Pieces []
  more : {p t : List ℕ} → Piece p → Pieces t → Pieces (p ++ t)

-- the bytes x stand nowhere in t
abbrev pub Without : List ℕ → List ℕ → Type 0
Without x t = (a b : List ℕ) → t ≡ a ++ x ++ b → ⊥

-- "Text is .. and without ]]>"
pub data Text : List ℕ → Type 0 where
  text : {t : List ℕ} → Pieces t → Without (bytes "]]>") t → Text t

-- "A tag is <name> or </name>, nothing else inside."
abbrev pub start_tag : List ℕ → List ℕ
start_tag n = bytes "<" ++ n ++ bytes ">"

abbrev pub end_tag : List ℕ → List ℕ
end_tag n = bytes "</" ++ n ++ bytes ">"

mutual
  -- "An element holds content"; "Names of start and end tag agree." With what it holds it has at most d levels
  pub data Element : ℕ → List ℕ → Type 0 where
    element : {d : ℕ} {n c : List ℕ} → Name n → Content d c → Element (suc d) (start_tag n ++ c ++ end_tag n)

  -- "content holds elements: either one or more elements with only white space around them, or text only (perhaps empty)"
  pub data Content : ℕ → List ℕ → Type 0 where
    elements : {d : ℕ} {w k : List ℕ} → White w → Elements d k → Content d (w ++ k)
    only : {d : ℕ} {t : List ℕ} → Text t → Content d t

  -- one or more elements, each with the white space after it
  pub data Elements : ℕ → List ℕ → Type 0 where
    last : {d : ℕ} {e w : List ℕ} → Element d e → White w → Elements d (e ++ w)
    next : {d : ℕ} {e w k : List ℕ} → Element d e → White w → Elements d k → Elements d (e ++ w ++ k)

-- the bytes x, or none
pub data Optional (x : List ℕ) : List ℕ → Type 0 where
  absent : Optional x []
  present : Optional x x

-- "an optional byte order mark EF BB BF"
abbrev pub Mark : List ℕ → Type 0
Mark = Optional (0xef ∷ 0xbb ∷ 0xbf ∷ [])

-- "then optionally exactly <?xml version="1.0" encoding="UTF-8"?>"
abbrev pub Declaration : List ℕ → Type 0
Declaration = Optional (bytes "<?xml version=\"1.0\" encoding=\"UTF-8\"?>")

-- document 02, Req 05: "one space, Id, an equals sign, 1 to 64 letters, digits or `_` in double quotes"
pub data Id : List ℕ → Type 0 where
  id : (v : List ℕ) → all is_name_byte v ≡ true → 1 ≤ length v → length v ≤ 64 → Id (bytes " Id=\"" ++ v ++ bytes "\"")

-- the start tag of a root of name n: "allows one Id attribute on the root", where one may stand
pub data RootTag (n : List ℕ) : Bool → List ℕ → Type 0 where
  plain : {ids : Bool} → RootTag n ids (start_tag n)
  with_id : {i : List ℕ} → Id i → RootTag n true (bytes "<" ++ n ++ i ++ bytes ">")

-- the root is an element: "The root is at depth 1; the greatest depth is 12."
pub data Root (ids : Bool) : List ℕ → Type 0 where
  root : {n a c : List ℕ} → Name n → RootTag n ids a → Content 11 c → Root ids (a ++ c ++ end_tag n)

-- "then white space, one root element, white space"
pub data Document (ids : Bool) : List ℕ → Type 0 where
  document : {m d w r v : List ℕ} → Mark m → Declaration d → White w → Root ids r → White v → Document ids (m ++ d ++ w ++ r ++ v)

-- A FLOW: "No attributes"
abbrev pub Flow : List ℕ → Type 0
Flow = Document false

-- PLACES, as many bytes as stand before: of the root's <, of its name's end, of its content
unfoldable pub root_place : {ids : Bool} {s : List ℕ} → Document ids s → ℕ
root_place (document {m = m} {d = d} {w = w} ma de wh ro wt) = length (m ++ d ++ w)

unfoldable pub name_end : {ids : Bool} {s : List ℕ} → Document ids s → ℕ
name_end (document {m = m} {d = d} {w = w} ma de wh (root {n = n} na ta co) wt) = length (m ++ d ++ w) + 1 + length n

unfoldable pub content_place : {ids : Bool} {s : List ℕ} → Document ids s → ℕ
content_place (document {m = m} {d = d} {w = w} ma de wh (root {a = a} na ta co) wt) = length (m ++ d ++ w) + length a
