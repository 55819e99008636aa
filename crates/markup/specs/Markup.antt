-- The markup (document 01, "The markup"): elements, content, the whole flow. `Broken` and `Breaks` have the place where the reading breaks.
use Rattle.std.specs.Prelude.{ℕ, zero, suc, ◌+◌, List, [], ◌∷◌, Bool, cond, not, ◌&&◌, length, eqb, Result, Ok, Err}
use Rattle.scan.specs.Bytes.{bytes, byte, byte_at, has_at}
use Rattle.tokens.specs.Tokens.{and_then, until, name_at, tag_end_at, white_at, text_at, end_tag_at, optional_at}

-- an element after its <: the name, a >, content, the end tag of the same name
unfoldable pub element_by : (ℕ → Result ℕ ℕ) → List ℕ → ℕ → Result ℕ ℕ
element_by content s at =
    and_then (name_at s at) (λ e. cond (eqb (byte_at s e) (byte ">")) (and_then (content (e + 1)) (end_tag_at s at e)) (Err e))

-- one child, with the white space after it
unfoldable pub child_by : (ℕ → Result ℕ ℕ) → List ℕ → ℕ → Result ℕ ℕ
child_by element s p = cond (eqb (byte_at s p) (byte "<")) (and_then (element (p + 1)) (λ q. Ok (white_at s q))) (Err p)

-- children up to the next </
unfoldable pub children_by : (ℕ → Result ℕ ℕ) → List ℕ → ℕ → Result ℕ ℕ
children_by element s = until s (has_at (bytes "</") s) (child_by element s)

-- content: children, where after white space a < stands that is not </ ; else text. Up to the < of the end tag
unfoldable pub content_by : (ℕ → Result ℕ ℕ) → List ℕ → ℕ → Result ℕ ℕ
content_by element s at =
    cond (eqb (byte_at s (white_at s at)) (byte "<") && not (eqb (byte_at s (white_at s at + 1)) (byte "/")))
    (children_by element s (white_at s at))
    (text_at s at)

-- an element after its <, of at most d levels
unfoldable pub element_at : ℕ → List ℕ → ℕ → Result ℕ ℕ
element_at zero s at = Err at
element_at (suc d) s at = element_by (content_by (element_at d s) s) s at

-- content whose elements have at most d levels
unfoldable pub content_at : ℕ → List ℕ → ℕ → Result ℕ ℕ
content_at d s = content_by (element_at d s) s

-- THE WHOLE

-- EF BB BF
abbrev pub mark : List ℕ
mark = 0xef ∷ 0xbb ∷ 0xbf ∷ []

abbrev pub declaration : List ℕ
declaration = bytes "<?xml version=\"1.0\" encoding=\"UTF-8\"?>"

-- where the root's < has to stand: after an optional byte order mark, then an optional declaration, then white space
unfoldable pub root_at : List ℕ → ℕ
root_at s = white_at s (optional_at declaration s (optional_at mark s 0))

-- go on where a reader stops
abbrev pub then_root : Result ℕ ℕ → (ℕ → Result (ℕ × ℕ × ℕ) ℕ) → Result (ℕ × ℕ × ℕ) ℕ
then_root (Ok p) k = k p
then_root (Err p) k = Err p

-- after its content, the root's end tag, and past white space after it all ends. Where the root's < stands, where its name ends and where its content
-- begins
abbrev pub closed_by : List ℕ → ℕ → ℕ → ℕ → Result ℕ ℕ → Result (ℕ × ℕ × ℕ) ℕ
closed_by s lt e c inside =
    then_root inside (λ p.
    then_root (end_tag_at s (lt + 1) e p) (λ q.
    cond (eqb (white_at s q) (length s)) (Ok (lt, e, c)) (Err (white_at s q))))

-- the root, its < at lt: an element of 12 levels, which may have an Id in its start tag where `ids`
unfoldable pub root_from : Bool → List ℕ → ℕ → Result (ℕ × ℕ × ℕ) ℕ
root_from ids s lt =
    then_root (name_at s (lt + 1)) (λ e.
    then_root (tag_end_at ids s e) (λ c.
    closed_by s lt e c (content_at 11 s c)))

-- the markup stands: one root element
unfoldable pub markup_of : Bool → List ℕ → Result (ℕ × ℕ × ℕ) ℕ
markup_of ids s = cond (eqb (byte_at s (root_at s)) (byte "<")) (root_from ids s (root_at s)) (Err (root_at s))
