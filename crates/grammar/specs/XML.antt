-- Well-formed XML 1.0, from the recommendation (Extensible Markup Language 1.0, fifth edition), each production with its number there, over
-- characters as there: numbers of Unicode. Alternatives that no document of ours takes are left out: a second attribute, references in an attribute's
-- value, empty-element tags, comments, CDATA sections, instructions, character references, single quotes, standalone, doctype. So whatever is derived
-- here is derived there. They were compared with the second edition's text and, where the fifth changed them (4, 4a, 5, 26), with libxml2's: docs/PROMISES.md
-- says exactly with what.
use Rattle.std.specs.Prelude.{◌≡◌, ℕ, ◌+◌, ◌*◌, ◌≤◌, ◌<◌, List, [], ◌∷◌, ◌++◌, Bool, true, ◌&&◌, ◌||◌, not, eqb}
use Prim.Native.String.{String}
use Rattle.scan.specs.Bytes.{bytes, byte, between, is_digit, is_white, all}
use Rattle.scan.specs.Characters.{is_char}
use Rattle.grammar.specs.Grammar.{Without, Mark}

-- a quoted text of ASCII characters, as characters
abbrev pub chars : String → List ℕ
chars = bytes

-- X?, and X*
pub data Maybe (X : List ℕ → Type 0) : List ℕ → Type 0 where
  absent : Maybe X []
  present : {t : List ℕ} → X t → Maybe X t

pub data Any (X : List ℕ → Type 0) : List ℕ → Type 0 where
  none : Any X []
  more : {t u : List ℕ} → X t → Any X u → Any X (t ++ u)

-- [2] Char is is_char of crates/scan/specs/Characters.antt

-- [3] S ::= (#x20 | #x9 | #x_d | #x_a)+
pub data S : List ℕ → Type 0 where
  white : {c : ℕ} {t : List ℕ} → all is_white (c ∷ t) ≡ true → S (c ∷ t)

-- [4] NameStartChar ::= ":" | [A-Z] | "_" | [a-z] | and, beyond ASCII,
unfoldable pub is_start_beyond : ℕ → Bool
is_start_beyond c =
    between 0xc0 0xd6 c || (between 0xd8 0xf6 c || (between 0xf8 0x2ff c || (between 0x370 0x37d c || (between 0x37f 0x1fff c || (between 0x200c 0x200d c
    || (between 0x2070 0x218f c || (between 0x2c00 0x2fef c || (between 0x3001 0xd7ff c || (between 0xf900 0xfdcf c || (between 0xfdf0 0xfffd c || between 0x10000 0xeffff c))))))))))

unfoldable pub is_name_start : ℕ → Bool
is_name_start c = eqb c (byte ":") || (between (byte "A") (byte "Z") c || (eqb c (byte "_") || (between (byte "a") (byte "z") c || is_start_beyond c)))

-- [4a] NameChar ::= NameStartChar | "-" | "." | [0-9] | and, beyond ASCII,
unfoldable pub is_part_beyond : ℕ → Bool
is_part_beyond c = eqb c 0xb7 || (between 0x300 0x36f c || between 0x203f 0x2040 c)

unfoldable pub is_name_char : ℕ → Bool
is_name_char c = is_name_start c || (eqb c (byte "-") || (eqb c (byte ".") || (is_digit c || is_part_beyond c)))

-- [5] Name ::= NameStartChar (NameChar)*
pub data Name : List ℕ → Type 0 where
  name : {c : ℕ} {t : List ℕ} → is_name_start c ≡ true → all is_name_char t ≡ true → Name (c ∷ t)

-- [14] CharData ::= [^<&]* - ([^<&]* ']]>' [^<&]*), of characters of [2]
unfoldable pub is_data : ℕ → Bool
is_data c = is_char c && (not (eqb c (byte "<")) && not (eqb c (byte "&")))

pub data CharData : List ℕ → Type 0 where
  data_of_lem : {t : List ℕ} → all is_data t ≡ true → Without (chars "]]>") t → CharData t

-- [67] Reference ::= EntityRef; [68] EntityRef ::= '&' Name ';'. Entity Declared: of the five that 4.6 predefines
pub data Predefined : List ℕ → Type 0 where
  amp : Predefined (chars "amp")
  lt : Predefined (chars "lt")
  gt : Predefined (chars "gt")
  quot : Predefined (chars "quot")
  apos : Predefined (chars "apos")

pub data Reference : List ℕ → Type 0 where
  entity : {n : List ℕ} → Name n → Predefined n → Reference (chars "&" ++ n ++ chars ";")

-- [25] Eq ::= S? '=' S?
pub data Eq : List ℕ → Type 0 where
  equals : {v w : List ℕ} → Maybe S v → Maybe S w → Eq (v ++ chars "=" ++ w)

-- [10] AttValue ::= '"' [^<&"]* '"', of characters of [2]
unfoldable pub is_attribute_char : ℕ → Bool
is_attribute_char c = is_data c && not (eqb c (byte "\""))

pub data AttValue : List ℕ → Type 0 where
  quoted : (t : List ℕ) → all is_attribute_char t ≡ true → AttValue (chars "\"" ++ t ++ chars "\"")

-- [41] Attribute ::= Name Eq AttValue
pub data Attribute : List ℕ → Type 0 where
  attribute : {n e v : List ℕ} → Name n → Eq e → AttValue v → Attribute (n ++ e ++ v)

-- [40] STag ::= '<' Name (S Attribute)* S? '>', with one attribute or none (Unique Att Spec: no name twice); [42] ETag ::= '</' Name S? '>'
pub data STag (n : List ℕ) : List ℕ → Type 0 where
  start : {w : List ℕ} → Maybe S w → STag n (chars "<" ++ n ++ w ++ chars ">")
  start_with : {v a w : List ℕ} → S v → Attribute a → Maybe S w → STag n (chars "<" ++ n ++ v ++ a ++ w ++ chars ">")

pub data ETag (n : List ℕ) : List ℕ → Type 0 where
  end : {w : List ℕ} → Maybe S w → ETag n (chars "</" ++ n ++ w ++ chars ">")

mutual
  -- [39] element ::= STag content ETag. Element Type Match: both tags have one name
  pub data Element : List ℕ → Type 0 where
    element : {n a c z : List ℕ} → Name n → STag n a → Content c → ETag n z → Element (a ++ c ++ z)

  -- [43] content ::= CharData? ((element | Reference) CharData?)*. (CharData may be empty)
  pub data Content : List ℕ → Type 0 where
    content : {t k : List ℕ} → CharData t → Items k → Content (t ++ k)

  pub data Items : List ℕ → Type 0 where
    no_item : Items []
    an_element : {e t k : List ℕ} → Element e → CharData t → Items k → Items (e ++ t ++ k)
    a_reference : {r t k : List ℕ} → Reference r → CharData t → Items k → Items (r ++ t ++ k)

-- [24] VersionInfo ::= S 'version' Eq '"' VersionNum '"'; [26] VersionNum ::= '1.' [0-9]+
pub data VersionNum : List ℕ → Type 0 where
  version : {c : ℕ} {t : List ℕ} → all is_digit (c ∷ t) ≡ true → VersionNum (chars "1." ++ (c ∷ t))

pub data VersionInfo : List ℕ → Type 0 where
  version_info : {w e n : List ℕ} → S w → Eq e → VersionNum n → VersionInfo (w ++ chars "version" ++ e ++ chars "\"" ++ n ++ chars "\"")

-- [80] EncodingDecl ::= S 'encoding' Eq '"' EncName '"', where by 4.3.3 EncName names the encoding that is used
pub data EncodingDecl : List ℕ → Type 0 where
  encoding : {w e : List ℕ} → S w → Eq e → EncodingDecl (w ++ chars "encoding" ++ e ++ chars "\"UTF-8\"")

-- [23] XMLDecl ::= '<?xml' VersionInfo EncodingDecl? S? '?>'
pub data XMLDecl : List ℕ → Type 0 where
  declaration : {v e w : List ℕ} → VersionInfo v → Maybe EncodingDecl e → Maybe S w → XMLDecl (chars "<?xml" ++ v ++ e ++ w ++ chars "?>")

-- [22] prolog ::= XMLDecl? Misc*; [27] Misc ::= S
pub data Prolog : List ℕ → Type 0 where
  prolog : {d m : List ℕ} → Maybe XMLDecl d → Any S m → Prolog (d ++ m)

-- [1] document ::= prolog element Misc*: one root
pub data Document : List ℕ → Type 0 where
  document : {p e m : List ℕ} → Prolog p → Element e → Any S m → Document (p ++ e ++ m)

-- UTF-8 (RFC 3629, 3): the bytes of the character v, which is not below the least that needs so many
pub data Utf8 (v : ℕ) : List ℕ → Type 0 where
  one : v < 0x80 → Utf8 v (v ∷ [])
  two : {x y : ℕ} → x < 0x20 → y < 0x40 → v ≡ x * 0x40 + y → 0x80 ≤ v → Utf8 v ((0xc0 + x) ∷ (0x80 + y) ∷ [])
  three : {x y z : ℕ} → x < 0x10 → y < 0x40 → z < 0x40 → v ≡ x * 0x1000 + y * 0x40 + z → 0x800 ≤ v → Utf8 v ((0xe0 + x) ∷ (0x80 + y) ∷ (0x80 + z) ∷ [])
  four : {x y z w : ℕ} → x < 0x08 → y < 0x40 → z < 0x40 → w < 0x40 → v ≡ x * 0x40000 + y * 0x1000 + z * 0x40 + w → 0x10000 ≤ v → Utf8 v ((0xf0 + x) ∷ (0x80 + y) ∷ (0x80 + z) ∷ (0x80 + w) ∷ [])

-- the bytes of characters one after the other
pub data Encoded : List ℕ → List ℕ → Type 0 where
  nothing : Encoded [] []
  character : {v : ℕ} {t b c : List ℕ} → Utf8 v b → Encoded t c → Encoded (v ∷ t) (b ++ c)

-- BYTES THAT ARE A WELL-FORMED DOCUMENT in UTF-8. The byte order mark "is an encoding signature, not part of either the markup or the character
-- data" (4.3.3)
pub data WellFormedXML : List ℕ → Type 0 where
  well_formed_xml : {m t b : List ℕ} → Mark m → Encoded t b → Document t → WellFormedXML (m ++ b)
