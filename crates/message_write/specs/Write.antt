-- The call that writes an outcome message (document 02, Req 01): what it answers, and every byte of the buffer that it leaves.
use Rattle.std.specs.Prelude.{◌≡◌, List, cond, ◌&&◌, ℕ, length, leb, Option, Result, Some, None, Ok, Err}
use Rattle.bounds.specs.Bounds.{max_flow}
use Rattle.words.specs.Numbers.{put}
use Rattle.flow.specs.declared.Breakage.{Breakage}
use Rattle.flow.specs.declared.Breakage.TheVariants.{MarkupBreaks, StructureBreaks, FieldBreaks}
use Rattle.editions.specs.declared.Edition.{Edition}
use Rattle.editions.specs.Editions.{edition_of}
use Rattle.flow.specs.Flow.{verdict_of, flow_orders}
use Rattle.message.specs.Message.{Message}
use Rattle.message.specs.Written.{message_bytes}
use Rattle.message.specs.From.{Caller, outcomes_fit, flow_message}
use Rattle.message_fit.specs.Fit.{caller_ok}
use Rattle.message_write.specs.declared.WriteRefusal.{WriteRefusal}
use Rattle.message_write.specs.declared.WriteRefusal.TheVariants.{UnknownEdition, TooLong, BrokenMarkup, BrokenStructure, BrokenField, Unfit, NoRoom}
use Rattle.message_write.specs.declared.WriteReply.{WriteReply}

-- A CALL: refused, or a message to be written
pub data Writing : Type 0 where
  refused : Result ℕ WriteRefusal → Writing
  writes : Message → Writing

-- "2 to 5 for the flow, then 41 (under 16 outcome bytes per order, their kinds, operations, numbers, line counts or totals aren't this flow's, a code no
-- order can get, a caller's value of wrong form)"
abbrev pub writing_of : Edition → List ℕ → List ℕ → Caller → Result ℕ Breakage → Writing
writing_of e f o c (Err (MarkupBreaks p)) = refused (Err BrokenMarkup)
writing_of e f o c (Err StructureBreaks) = refused (Err BrokenStructure)
writing_of e f o c (Err (FieldBreaks p w)) = refused (Err BrokenField)
writing_of e f o c (Ok at) = cond (outcomes_fit (flow_orders e f at) o && caller_ok c) (writes (flow_message e f at o c)) (refused (Err Unfit))

unfoldable pub write_in : Edition → List ℕ → List ℕ → Caller → Writing
write_in e f o c = cond (leb (length f) max_flow) (writing_of e f o c (verdict_of e f)) (refused (Err TooLong))

-- "The caller names the edition, for outcome messages too", "Refusals: 23, no such edition, after 1 and before 2" (Req 05)
abbrev pub write_by : List ℕ → List ℕ → Caller → Option Edition → Writing
write_by f o c (Some e) = write_in e f o c
write_by f o c None = refused (Err UnknownEdition)

-- of the edition's number ed
abbrev pub write_reads : ℕ → List ℕ → List ℕ → Caller → Writing
write_reads ed f o c = write_by f o c (edition_of ed)

-- the answer: "then 40 (the buffer is shorter than the message)"
abbrev pub write_answer : ℕ → Writing → Result ℕ WriteRefusal
write_answer room (refused a) = a
write_answer room (writes m) = cond (leb (length (message_bytes m)) room) (Ok (length (message_bytes m))) (Err NoRoom)

-- the buffer afterwards: a refusal "leaves the buffer", and bytes past the message stay
abbrev pub write_buffer : List ℕ → Writing → List ℕ
write_buffer b (refused a) = b
write_buffer b (writes m) = cond (leb (length (message_bytes m)) (length b)) (put b 0 (message_bytes m)) b

-- THE PROMISE
-- answer and buffer are those of a writing
abbrev pub Leaves : List ℕ → Writing → Result ℕ WriteRefusal → List ℕ → Type 0
Leaves b w a b' = (a ≡ write_answer (length b) w) × (b' ≡ write_buffer b w)

-- on the flow f of the edition of the number ed with its outcome bytes o and the caller's values c, with the buffer b lent: the answer a, and the buffer afterwards
abbrev pub WritePromise : ℕ → List ℕ → List ℕ → Caller → List ℕ → Result ℕ WriteRefusal → List ℕ → Type 0
WritePromise ed f o c b a b' = Leaves b (write_reads ed f o c) a b'

-- DOCUMENT 02'S NUMBERS of an answer: "The answer has code and length; a refusal gives length 0"
abbrev no_message : ℕ → WriteReply
no_message code = record { code = code; length = 0 }

abbrev pub write_reply : Result ℕ WriteRefusal → WriteReply
write_reply (Err UnknownEdition) = no_message 23
write_reply (Err TooLong) = no_message 2
write_reply (Err BrokenMarkup) = no_message 3
write_reply (Err BrokenStructure) = no_message 4
write_reply (Err BrokenField) = no_message 5
write_reply (Err Unfit) = no_message 41
write_reply (Err NoRoom) = no_message 40
write_reply (Ok n) = record { code = 0; length = n }

-- the promise in these numbers
abbrev pub WriteReplies : ℕ → List ℕ → List ℕ → Caller → List ℕ → WriteReply → List ℕ → Type 0
WriteReplies ed f o c b n b' = (a : Result ℕ WriteRefusal) × WritePromise ed f o c b a b' × (n.code ≡ (write_reply a).code) × (n.length ≡ (write_reply a).length)
