-- A field read where it stands in the flow (document 01: "reading answers carry a value with cursor or a refusal with place").
use Rattle.std.specs.Prelude.{ℕ, ◌+◌, List, Option, Result, Some, None, Ok, Err}
use Rattle.scan.specs.Bytes.{part}
use Rattle.children.specs.declared.Child.{Child}
use Rattle.fields.specs.declared.Form.{Form}
use Rattle.fields.specs.Fields.{field_value}
use Rattle.fields.specs.declared.Value.{Value}

abbrev pub read_at : Child → Option Value → Result (Value × ℕ) ℕ
read_at c (Some v) = Ok (v, c.after)
read_at c None = Err c.lt

-- the text of an element, read by a form: its value and the place after it, or the place of its <. (What is wrong with it, `reading_of`, is asked of the
-- first that breaks alone)
unfoldable pub field_read : List ℕ → Form → Child → Result (Value × ℕ) ℕ
field_read s f c = read_at c (field_value f (part s (c.gt + 1) c.to))
