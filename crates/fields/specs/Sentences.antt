-- Document 02, Req 03, sentence by sentence: what its definitions come to, of every text. Proved: `sentences : Sentences` (proofs/Sentences.antt).
use Rattle.std.specs.Prelude.{ℕ, ◌≤◌, ◌≡◌, List, false, length, Some, None, Err}
use Rattle.calendar.specs.declared.Date.{Date}
use Rattle.calendar.specs.Calendar.{is_date}
use Rattle.codes.specs.Codes.{tipo_operazione}
use Rattle.digits.specs.Digits.{numero_written}
use Rattle.dates.specs.Dates.{data_written}
use Rattle.names.specs.Names.{references_replaced, characters}
use Rattle.fields.specs.declared.Form.{Form}
use Rattle.fields.specs.declared.Form.TheVariants.{TipoOperazione, Numero, Data}
use Rattle.fields.specs.declared.Longest.{Longest}
use Rattle.fields.specs.declared.Longest.TheVariants.{Bytes, Characters}
use Rattle.fields.specs.declared.Judged.TheVariants.{Stands}
use Rattle.fields.specs.declared.Cause.TheVariants.{Misformed, OutOfRange}
use Rattle.fields.specs.Causes.{longest}
use Rattle.fields.specs.Fields.{reading_of, field_stands}
use Rattle.fields.specs.Told.{Told}

-- a text as long as the longest allowed
abbrev pub Whole : Longest → List ℕ → Type 0
Whole (Bytes n) t = length t ≡ n
Whole (Characters n) t = characters (references_replaced t) ≡ n

-- the longest allowed text is allowed: one of that length stands
pub record Reached (f : Form) : Type 0 where
  pub text : List ℕ
  pub whole : Whole (longest f) text
  pub stands : field_stands f text ≡ Stands

pub record Sentences : Type 0 where
  -- "Every field reading tells one": the first of the four conditions that applies
  pub told : (f : Form) (t : List ℕ) → Told f t
  -- "longer than the longest allowed text"
  pub reached : (f : Form) → Reached f
  -- "An unreal date is cause 4,"
  pub unreal_date : (t : List ℕ) (d : Date) → data_written t ≡ Some d → is_date d ≡ false → reading_of Data t ≡ Err OutOfRange
  -- "an unknown operation of at most twelve bytes cause 3," (an empty one is empty)
  pub unknown_operation : (t : List ℕ) → tipo_operazione t ≡ None → 1 ≤ length t → length t ≤ 12 → reading_of TipoOperazione t ≡ Err Misformed
  -- "and a numero of 0 cause 4."
  pub numero_zero : (t : List ℕ) → numero_written t ≡ Some 0 → reading_of Numero t ≡ Err OutOfRange
