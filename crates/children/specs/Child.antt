-- The children of an element, of a flow whose markup stands. (Where it doesn't, the list ends at the first thing that is no element.)
use Rattle.std.specs.Prelude.{ℕ, zero, suc, ◌+◌, ◌-◌, List, [], ◌∷◌, cond, ◌≡◌, length, eqb, Option, Result, Some, None, Ok, Err}
use Rattle.scan.specs.Bytes.{byte, byte_at, part}
use Rattle.tokens.specs.Tokens.{white_at, name_at, end_tag_at}
use Rattle.markup.specs.Markup.{content_at}
use Rattle.children.specs.declared.Child.{Child}
use Rattle.children.specs.declared.FieldSpans.{FieldSpans}

-- go on where a reader stops; where it breaks there is no child
abbrev pub onward : Result ℕ ℕ → (ℕ → Option Child) → Option Child
onward (Ok p) k = k p
onward (Err p) k = None

-- the element whose < stands at i
unfoldable pub child_at : List ℕ → ℕ → Option Child
child_at s i =
    cond (eqb (byte_at s i) (byte "<"))
    (onward (name_at s (i + 1)) (λ e.
    cond (eqb (byte_at s e) (byte ">"))
    (onward (content_at 12 s (e + 1)) (λ p.
    onward (end_tag_at s (i + 1) e p) (λ q. Some (record { lt = i; gt = e; to = p; after = white_at s q }))))
    None))
    None

-- the child at i whose name ends at e and which itself ends at q: its end tag, name and three bytes, follows its content
abbrev pub child_to : List ℕ → ℕ → ℕ → ℕ → Child
child_to s i e q = record { lt = i; gt = e; to = q - (e - i) - 2; after = white_at s q }

-- a child, and what comes after it
abbrev pub then_from : Option Child → (ℕ → List Child) → List Child
then_from (Some c) rest = c ∷ rest c.after
then_from None rest = []

-- one child after the other, at most n
unfoldable pub children_up_to : ℕ → List ℕ → ℕ → List Child
children_up_to zero s i = []
children_up_to (suc n) s i = then_from (child_at s i) (children_up_to n s)

-- the children from i on. (Each is longer than a byte, so no limit is reached)
unfoldable pub children_from : List ℕ → ℕ → List Child
children_from s i = children_up_to (suc (length s)) s i

-- A FIELD'S OWN WORDS: "A field's text is shown as the part of the flow itself, not as a copy"

-- where name and text stand of the element whose < stands at a place; all zero where none does
abbrev pub spans_of : Option Child → FieldSpans
spans_of (Some c) = record { name = c.lt + 1; name_len = c.gt - (c.lt + 1); text = c.gt + 1; text_len = c.to - (c.gt + 1) }
spans_of None = record { name = 0; name_len = 0; text = 0; text_len = 0 }

unfoldable pub field_at : List ℕ → ℕ → FieldSpans
field_at s place = spans_of (child_at s place)

-- the promise of `field_at`
abbrev pub FieldPromise : List ℕ → ℕ → FieldSpans → Type 0
FieldPromise s place r = r ≡ field_at s place

-- the parts of the flow that stand there, and the promises of `name_at` and `text_at`
abbrev pub own_name : List ℕ → ℕ → List ℕ
own_name s place = let w = field_at s place in part s w.name (w.name + w.name_len)

abbrev pub own_text : List ℕ → ℕ → List ℕ
own_text s place = let w = field_at s place in part s w.text (w.text + w.text_len)

abbrev pub NamePromise : List ℕ → ℕ → List ℕ → Type 0
NamePromise s place r = r ≡ own_name s place

abbrev pub TextPromise : List ℕ → ℕ → List ℕ → Type 0
TextPromise s place r = r ≡ own_text s place
