-- A FLOW in the training room: what it answers, the outcome bytes that it writes, and the lists that it leaves. Its answers are the desk's (crates/desk), in the same order, but for 1 and 36:
-- there is no table to be invalid, and no year is closed.
use Rattle.std.specs.Prelude.{ℕ, ◌*◌, ◌≡◌, cond, List, length, leb, Option, Result, Some, None, Ok, Err}
use Rattle.bounds.specs.Bounds.{max_flow}
use Rattle.scan.specs.Bytes.{text_is}
use Rattle.words.specs.Numbers.{put}
use Rattle.order.specs.Ordinativo.{Ordinativo}
use Rattle.editions.specs.declared.Edition.{Edition}
use Rattle.editions.specs.Editions.{edition_of}
use Rattle.header.specs.Header.{Header}
use Rattle.flow.specs.declared.Breakage.{Breakage}
use Rattle.flow.specs.declared.Breakage.TheVariants.{MarkupBreaks, StructureBreaks, FieldBreaks}
use Rattle.flow.specs.Flow.{verdict_of, header_of, flow_orders}
use Rattle.rules.specs.Effects.{all_records}
use Rattle.service.specs.Service.{outcome_size}
use Rattle.one_list.specs.Lists.{list_outcomes, list_accepted, list_steps}
use Rattle.desk.specs.declared.FlowRefusal.{FlowRefusal}
use Rattle.desk.specs.declared.FlowRefusal.TheVariants.{UnknownEdition, TooLong, BrokenMarkup, BrokenStructure, BrokenField, OtherBank, UnknownBody, NoRoom}
use Rattle.plain.specs.Plain.{Plain, body_in, numbered, with_orders}

-- a flow refused, or taught: on which body of the room, in which esercizio, and its orders
pub data Taught : Type 0 where
  refused : Result (ℕ × ℕ × ℕ) FlowRefusal → Taught
  taught : ℕ → ℕ → List Ordinativo → Taught

-- "8 the outcome buffer has under 16 bytes per order"
abbrev pub with_space : ℕ → ℕ → ℕ → List Ordinativo → Taught
with_space space b year os = cond (leb (outcome_size * length os) space) (taught b year os) (refused (Err NoRoom))

-- "7 no body has this code"
abbrev pub on_body : ℕ → ℕ → List Ordinativo → Option ℕ → Taught
on_body space year os (Some b) = with_space space b year os
on_body space year os None = refused (Err UnknownBody)

-- "6 codice_ABI_BT isn't the table's"
abbrev pub at_bank : Plain → ℕ → Header → List Ordinativo → Taught
at_bank s space h os = cond (text_is s.abi h.abi) (on_body space h.esercizio os (numbered s h.ente)) (refused (Err OtherBank))

-- "3 the markup breaks; 4 the structure breaks; 5 a field breaks", of a flow of an edition
abbrev pub of_verdict : Edition → Plain → List ℕ → ℕ → Result ℕ Breakage → Taught
of_verdict e s f space (Err (MarkupBreaks p)) = refused (Err BrokenMarkup)
of_verdict e s f space (Err StructureBreaks) = refused (Err BrokenStructure)
of_verdict e s f space (Err (FieldBreaks p c)) = refused (Err (BrokenField p c))
of_verdict e s f space (Ok at) = at_bank s space (header_of e f at) (flow_orders e f at)

-- "23, no such edition"; "2 the flow is longer than 32,768 bytes"
abbrev pub of_edition : Plain → List ℕ → ℕ → Option Edition → Taught
of_edition s f space (Some e) = cond (leb (length f) max_flow) (of_verdict e s f space (verdict_of e f)) (refused (Err TooLong))
of_edition s f space None = refused (Err UnknownEdition)

-- ed is the edition's number, space the outcome buffer's length
unfoldable pub flow_teaches : Plain → ℕ → List ℕ → ℕ → Taught
flow_teaches s ed f space = of_edition s f space (edition_of ed)

-- the answer, the room afterwards and the outcome buffer afterwards: "orders are taken as written, each on the table the one before left"; "Outcome bytes past the last order stay"
abbrev pub taught_answer : Plain → Taught → Result (ℕ × ℕ × ℕ) FlowRefusal
taught_answer s (refused a) = a
taught_answer s (taught b year os) =
    Ok ((length os), (list_accepted (body_in s b).slots year os (body_in s b).orders), (list_steps (body_in s b).slots year os (body_in s b).orders))

abbrev pub taught_room : Plain → Taught → Plain
taught_room s (refused a) = s
taught_room s (taught b year os) = with_orders s b (all_records (body_in s b).slots year os (body_in s b).orders)

abbrev pub taught_outcomes : Plain → List ℕ → Taught → List ℕ
taught_outcomes s out (refused a) = out
taught_outcomes s out (taught b year os) = put out 0 (list_outcomes (body_in s b).slots year os (body_in s b).orders)

-- answer, room and outcomes are those of what is taught
abbrev pub Teaches : Plain → List ℕ → Taught → Result (ℕ × ℕ × ℕ) FlowRefusal → Plain → List ℕ → Type 0
Teaches s out g a s' out' = (a ≡ taught_answer s g) × (s' ≡ taught_room s g) × (out' ≡ taught_outcomes s out g)

-- THE PROMISE of a flow's call in the room s: on the flow f, of the edition that ed names, with the outcome buffer out lent, the answer a, and room and buffer afterwards
abbrev pub FlowLesson : Plain → ℕ → List ℕ → List ℕ → Result (ℕ × ℕ × ℕ) FlowRefusal → Plain → List ℕ → Type 0
FlowLesson s ed f out a s' out' = Teaches s out (flow_teaches s ed f (length out)) a s' out'
