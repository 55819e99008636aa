-- A FIELD'S OWN WORDS (document 01, "The structure": "A field's text is shown as the part of the flow itself, not as a copy"), of any bytes at all, by
-- the grammar alone. Proved: `field-answered : FieldAnswered`.
use Rattle.std.specs.Prelude.{◌≡◌, ◌↔◌, ℕ, ◌+◌, List, ◌++◌, length}
use Rattle.grammar.specs.Grammar.{Name, Content, start_tag, end_tag}
use Rattle.children.specs.declared.FieldSpans.{FieldSpans}
use Rattle.children.specs.Child.{FieldPromise}

-- the < of an element stands at a place: it has the name n and holds the content c (of a field its text). Of a flow each element is such a one, since
-- what it holds has less than twelve levels
pub record ElementThere (s : List ℕ) (place : ℕ) (n c : List ℕ) : Type 0 where
  pub before : List ℕ
  pub after : List ℕ
  pub bytes : s ≡ before ++ (start_tag n ++ c ++ end_tag n) ++ after
  pub lt : length before ≡ place
  pub name : Name n
  pub content : Content 12 c

-- WHAT `field_at` SHOWS: where name and content stand, places and lengths; zeros where there is no element
pub data FieldShown (s : List ℕ) (place : ℕ) : FieldSpans → Type 0 where
  shown : {n c : List ℕ} → ElementThere s place n c
      → FieldShown s place (record { name = place + 1; name_len = length n; text = place + length (start_tag n); text_len = length c })
  nothing : ((n c : List ℕ) → ElementThere s place n c → ⊥) → FieldShown s place (record { name = 0; name_len = 0; text = 0; text_len = 0 })

-- its promise says exactly that
abbrev pub FieldAnswered : Type 0
FieldAnswered = (s : List ℕ) (place : ℕ) (r : FieldSpans) → FieldPromise s place r ↔ FieldShown s place r
