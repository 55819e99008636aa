-- A flow's call (document 01, "Answers"): what it answers, and every byte of table and outcomes that it leaves.
use Rattle.std.specs.Prelude.{ℕ, ◌*◌, ◌≡◌, cond, List, length, leb, Option, Result, Some, None, Ok, Err}
use Rattle.bounds.specs.Bounds.{max_flow}
use Rattle.scan.specs.Bytes.{text_is}
use Rattle.words.specs.Numbers.{put}
use Rattle.entries.specs.Entry.{closed_of}
use Rattle.table.specs.Table.{table_ok, abi_of}
use Rattle.fields.specs.Causes.{cause_number}
use Rattle.order.specs.Ordinativo.{Ordinativo}
use Rattle.editions.specs.declared.Edition.{Edition}
use Rattle.editions.specs.Editions.{edition_of}
use Rattle.header.specs.Header.{Header}
use Rattle.flow.specs.declared.Breakage.{Breakage}
use Rattle.flow.specs.declared.Breakage.TheVariants.{MarkupBreaks, StructureBreaks, FieldBreaks}
use Rattle.flow.specs.Flow.{verdict_of, header_of, flow_orders}
use Rattle.service.specs.Service.{outcome_size, all_leave, all_outcomes, all_accepted, all_steps}
use Rattle.address.specs.declared.NoBody.{NoBody}
use Rattle.address.specs.declared.NoBody.TheVariants.{Invalid, Unknown}
use Rattle.address.specs.Address.{body_named}
use Rattle.desk.specs.declared.FlowReply.{FlowReply}
use Rattle.desk.specs.declared.FlowRefusal.{FlowRefusal}
use Rattle.desk.specs.declared.FlowRefusal.TheVariants.{InvalidTable, UnknownEdition, TooLong, BrokenMarkup, BrokenStructure, BrokenField, OtherBank, UnknownBody, ClosedYear, NoRoom}

-- A FLOW

-- a flow refused, or served: on which body of the table, in which esercizio, and its orders
pub data Reading : Type 0 where
  refused : Result (ℕ × ℕ × ℕ) FlowRefusal → Reading
  served : ℕ → ℕ → ℕ → List Ordinativo → Reading

-- "8 the outcome buffer has under 16 bytes per order"
abbrev pub with_room : ℕ → ℕ → ℕ → ℕ → List Ordinativo → Reading
with_room room base n year os = cond (leb (outcome_size * length os) room) (served base n year os) (refused (Err NoRoom))

-- "7 no body has this code"; document 02, Req 14: "A flow for a closed or earlier year is refused. .. Refusals: for a flow 36 year closed, after 7"
abbrev pub for_body : List ℕ → ℕ → ℕ → List Ordinativo → Result (ℕ × ℕ × ℕ) NoBody → Reading
for_body t room year os (Ok (e, base, n)) = cond (leb year (closed_of t e)) (refused (Err ClosedYear)) (with_room room base n year os)
for_body t room year os (Err Unknown) = refused (Err UnknownBody)
for_body t room year os (Err Invalid) = refused (Err InvalidTable)

-- "6 codice_ABI_BT isn't the table's"
abbrev pub for_bank : List ℕ → ℕ → Header → List Ordinativo → Reading
for_bank t room h os = cond (text_is (abi_of t) h.abi) (for_body t room h.esercizio os (body_named t h.ente)) (refused (Err OtherBank))

-- "3 the markup breaks; 4 the structure breaks; 5 a field breaks", of a flow of an edition
abbrev pub for_flow : Edition → List ℕ → List ℕ → ℕ → Result ℕ Breakage → Reading
for_flow e t f room (Err (MarkupBreaks p)) = refused (Err BrokenMarkup)
for_flow e t f room (Err StructureBreaks) = refused (Err BrokenStructure)
for_flow e t f room (Err (FieldBreaks p c)) = refused (Err (BrokenField p c))
for_flow e t f room (Ok at) = for_bank t room (header_of e f at) (flow_orders e f at)

-- "2 the flow is longer than 32,768 bytes"; document 02, Req 05: "Refusals: 23, no such edition, after 1 and before 2"
abbrev pub by_edition : List ℕ → List ℕ → ℕ → Option Edition → Reading
by_edition t f room (Some e) = cond (leb (length f) max_flow) (for_flow e t f room (verdict_of e f)) (refused (Err TooLong))
by_edition t f room None = refused (Err UnknownEdition)

-- "1 the table isn't valid"; "Checked in that order, each over the whole flow". ed is the edition's number, room the outcome buffer's length
unfoldable pub flow_reads : List ℕ → ℕ → List ℕ → ℕ → Reading
flow_reads t ed f room = cond (table_ok t) (by_edition t f room (edition_of ed)) (refused (Err InvalidTable))

-- the answer
abbrev pub flow_answer : List ℕ → Reading → Result (ℕ × ℕ × ℕ) FlowRefusal
flow_answer t (refused a) = a
flow_answer t (served base n year os) = Ok ((length os), (all_accepted t base n year os), (all_steps t base n year os))

-- the table afterwards: "Codes 1 to 10 change no buffer", nor do 23 and 36. "Otherwise .. orders are taken as written, each on the table the one before left"
abbrev pub flow_table : List ℕ → Reading → List ℕ
flow_table t (refused a) = t
flow_table t (served base n year os) = all_leave t base n year os

-- the outcome buffer afterwards: "Outcome bytes past the last order stay"
abbrev pub flow_outcomes : List ℕ → List ℕ → Reading → List ℕ
flow_outcomes t out (refused a) = out
flow_outcomes t out (served base n year os) = put out 0 (all_outcomes t base n year os)

-- THE PROMISE of a flow's call

-- answer, table and outcomes are those of a reading
abbrev pub Gives : List ℕ → List ℕ → Reading → Result (ℕ × ℕ × ℕ) FlowRefusal → List ℕ → List ℕ → Type 0
Gives t out g a t' out' = (a ≡ flow_answer t g) × (t' ≡ flow_table t g) × (out' ≡ flow_outcomes t out g)

-- on the table t and the flow f, of the edition that ed names, with the outcome buffer out lent: the answer a, and the two buffers afterwards
abbrev pub FlowPromise : List ℕ → ℕ → List ℕ → List ℕ → Result (ℕ × ℕ × ℕ) FlowRefusal → List ℕ → List ℕ → Type 0
FlowPromise t ed f out a t' out' = Gives t out (flow_reads t ed f (length out)) a t' out'

-- DOCUMENT 01'S NUMBERS of an answer: "A refusal gives orders and accepted 0; place is 0 but for code 5". Document 02, Req 03: "the flow's answer
-- carries it: 1 empty, 2 longer than the longest allowed text, 3 wrong form, 4 right form but a value outside its range. .. All other answers carry
-- cause 0". Req 09: "refused flows count 0 .. The flow's answer carries their sum"
abbrev refusal : ℕ → FlowReply
refusal c = record { code = c; place = 0; orders = 0; accepted = 0; cause = 0; steps = 0 }

abbrev pub flow_reply : Result (ℕ × ℕ × ℕ) FlowRefusal → FlowReply
flow_reply (Err InvalidTable) = refusal 1
flow_reply (Err UnknownEdition) = refusal 23
flow_reply (Err TooLong) = refusal 2
flow_reply (Err BrokenMarkup) = refusal 3
flow_reply (Err BrokenStructure) = refusal 4
flow_reply (Err (BrokenField p c)) = record { code = 5; place = p; orders = 0; accepted = 0; cause = cause_number c; steps = 0 }
flow_reply (Err OtherBank) = refusal 6
flow_reply (Err UnknownBody) = refusal 7
flow_reply (Err ClosedYear) = refusal 36
flow_reply (Err NoRoom) = refusal 8
flow_reply (Ok (n, m, k)) = record { code = 0; place = 0; orders = n; accepted = m; cause = 0; steps = k }

abbrev pub flow_code : Result (ℕ × ℕ × ℕ) FlowRefusal → ℕ
flow_code a = (flow_reply a).code

-- the same reply, number by number
abbrev pub SameReply : FlowReply → FlowReply → Type 0
SameReply m n =
    (m.code ≡ n.code) × (m.place ≡ n.place) × (m.orders ≡ n.orders) × (m.accepted ≡ n.accepted) × (m.cause ≡ n.cause) × (m.steps ≡ n.steps)

-- the promise in these numbers
abbrev pub FlowReplies : List ℕ → ℕ → List ℕ → List ℕ → FlowReply → List ℕ → List ℕ → Type 0
FlowReplies t ed f out n t' out' = (a : Result (ℕ × ℕ × ℕ) FlowRefusal) × FlowPromise t ed f out a t' out' × SameReply n (flow_reply a)
