-- Reading a message step by step, by the rows of its tables: names for the contracts of the code. The promise (Promise.antt) speaks of none of it.
use Rattle.std.specs.Prelude.{ℕ, ◌+◌, ◌*◌, ◌≡◌, List, cond, length, leb, Option, Result, Some, None, Ok, Err}
use Rattle.scan.specs.Bytes.{bytes}
use Rattle.tokens.specs.Tokens.{white_at}
use Rattle.words.specs.Numbers.{put}
use Rattle.fields.specs.declared.Cause.{Cause}
use Rattle.fields.specs.declared.Cause.TheVariants.{Misformed}
use Rattle.fields.specs.Causes.{cause_number}
use Rattle.schema.specs.declared.Parent.TheVariants.{MessaggiEsito}
use Rattle.schema.specs.Table.{name_is}
use Rattle.standing.specs.declared.Flaw.{Flaw}
use Rattle.standing.specs.declared.Flaw.TheVariants as standing
use Rattle.standing.specs.Standing.{standing_at}
use Rattle.message.specs.Message.{count_ok}
use Rattle.agreement.specs.declared.EntryKind.TheVariants.{Reversale, Mandato}
use Rattle.agreement.specs.Agreement.{entries_of, off_from}
use Rattle.message_values.specs.Values.{header_room, entry_room, values_from}
use Rattle.message_read.specs.declared.MessageFlaw.{MessageFlaw}
use Rattle.message_read.specs.declared.MessageFlaw.TheVariants.{Structure, Field}
use Rattle.message_read.specs.declared.Reply.{Reply}

abbrev pub count_from : List ℕ → ℕ → ℕ
count_from s i = length (entries_of Reversale s i) + length (entries_of Mandato s i)

-- the earlier of a field that breaks and an element that doesn't agree, which is of the wrong form
abbrev pub earlier_of : ℕ → Cause → Option ℕ → Result ℕ MessageFlaw
earlier_of p c (Some q) = cond (leb p q) (Err (Field p c)) (Err (Field q Misformed))
earlier_of p c None = Err (Field p c)

abbrev pub by_off : Option ℕ → ℕ → Result ℕ MessageFlaw
by_off (Some q) n = Err (Field q Misformed)
by_off None n = Ok n

abbrev pub by_standing : Result Unit Flaw → Option ℕ → ℕ → Result ℕ MessageFlaw
by_standing (Err standing.StructureBreaks) off n = Err Structure
by_standing (Err (standing.FieldBreaks p c)) off n = earlier_of p c off
by_standing (Ok tt) off n = by_off off n

unfoldable pub judged_by : Result Unit Flaw → Option ℕ → ℕ → Result ℕ MessageFlaw
judged_by w off n = cond (count_ok n) (by_standing w off n) (Err Structure)

-- the levels of a message: messaggi_esito_applicativo, esito_mandati, lista_errori
abbrev pub judged_at : List ℕ → ℕ → Result ℕ MessageFlaw
judged_at s at = judged_by (standing_at 3 MessaggiEsito s at) (off_from s (white_at s at)) (count_from s (white_at s at))

-- the root has its name, which stands from the byte after its < up to e, and its content at `at`
abbrev pub judged_of : List ℕ → ℕ → ℕ → ℕ → Result ℕ MessageFlaw
judged_of s lt e at = cond (name_is (bytes "messaggi_esito_applicativo") s (lt + 1) e) (judged_at s at) (Err Structure)

-- THE ANSWER, and the values left
abbrev pub refusal : ℕ → ℕ → ℕ → Reply
refusal code place cause = record { code = code; place = place; cause = cause; entries = 0 }

abbrev pub reply_by : ℕ → Result ℕ MessageFlaw → Reply
reply_by room (Err Structure) = refusal 4 0 0
reply_by room (Err (Field p c)) = refusal 5 p (cause_number c)
reply_by room (Ok n) = cond (leb (header_room + entry_room * n) room) (record { code = 0; place = 0; cause = 0; entries = n }) (refusal 40 0 0)

abbrev pub left_by : List ℕ → List ℕ → ℕ → Result ℕ MessageFlaw → List ℕ
left_by values s i (Err Structure) = values
left_by values s i (Err (Field p c)) = values
left_by values s i (Ok n) = cond (leb (header_room + entry_room * n) (length values)) (put values 0 (values_from s i)) values

abbrev pub ReadGives : List ℕ → List ℕ → ℕ → Result ℕ MessageFlaw → Reply → List ℕ → Type 0
ReadGives s values i j r left = (r ≡ reply_by (length values) j) × (left ≡ left_by values s i j)
