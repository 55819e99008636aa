-- TOTALS KEPT IN THE CONTENTS (document 02, Req 04), of every engine that keeps the calls' promises. Proved: `kept-true : KeptTrue`,
-- `on-screen : OnScreen`, `cash-moved : CashMoved`, `conversion : FromTable1`.
use Rattle.std.specs.Prelude.{ℕ, ◌+◌, ◌*◌, ◌≤◌, ◌<◌, pos, ◌-ℤ◌, ◌≡◌, Bool, true, false, cond, List, length, eqb, Option, Result, Some, None, Ok}
use Rattle.calendar.specs.declared.Date.{Date}
use Rattle.target_days.specs.Target.{target_code}
use Rattle.scan.specs.Bytes.{part, text_is}
use Rattle.record.specs.declared.Key.{Key}
use Rattle.record.specs.declared.Record.{Record}
use Rattle.record.specs.Slot.{mandato_kind, reversale_kind}
use Rattle.slots.specs.Slots.{records_at}
use Rattle.body.specs.Body.{cents_of}
use Rattle.entries.specs.Entry.{entry_size, kept, slots_of, place_of, codes_from, find_code}
use Rattle.table.specs.Table.{table1, head_size, bodies, abi_of, table_ok, body_of, entry_of}
use Rattle.editions.specs.declared.Edition.{Edition}
use Rattle.editions.specs.Editions.{edition_of}
use Rattle.flow.specs.Flow.{verdict_of, header_of, flow_orders}
use Rattle.rules.specs.Rules.{judge_notice}
use Rattle.rules.specs.Effects.{records_by, all_records}
use Rattle.notices.specs.declared.NoticeRefusal.{NoticeRefusal}
use Rattle.notices.specs.declared.TotalsAnswer.{TotalsAnswer}
use Rattle.notices.specs.Notices.{noticed, NoticePromise, totalled, zero_totals, TotalsPromise}
use Rattle.desk.specs.declared.FlowRefusal.{FlowRefusal}
use Rattle.desk.specs.Desk.{FlowPromise, flow_code}
use Rattle.table.specs.Table as T
use Rattle.convert.specs.Convert.{ConvertReplies}
use Rattle.convert.specs.Same.{old_entry, Same}
use Rattle.one_table.specs.One.{are_bytes}
use Rattle.isolation.specs.Machine.{log}
use Rattle.theorems.specs.Engine.{Call, Engine, machine, body_records, table_after}
use Rattle.theorems.specs.Condition2.{codes_in_turn, comes_to, EachOrder, EachNotice}
use Rattle.theorems.specs.Condition3.{Condition3}
use Rattle.theorems.specs.Codes.{outcome_codes}
use Rattle.theorems.specs.History.{History}

-- "Every call that moves a line keeps them true": after any calls, what a body's entry keeps are the cents of its records
abbrev pub KeptTrue : Type 0
KeptTrue = (E : Engine) (t₀ : List ℕ) → table_ok t₀ ≡ true → (cs : List Call) (b : ℕ) → b < bodies t₀
    → (kept mandato_kind (table_after E t₀ cs) (entry_of b) ≡ cents_of mandato_kind (body_records b (table_after E t₀ cs)))
    × (kept reversale_kind (table_after E t₀ cs) (entry_of b) ≡ cents_of reversale_kind (body_records b (table_after E t₀ cs)))

-- "The counter screen is handed only a table's contents": head and entries, no slot
abbrev pub contents_of : List ℕ → List ℕ
contents_of t = part t 0 (head_size + entry_size * bodies t)

-- what the entries there keep for a code is what totals answer: of a body, and of none
abbrev pub OnScreen : Type 0
OnScreen = (t : List ℕ) → table_ok t ≡ true → (code : List ℕ) (a : TotalsAnswer) → TotalsPromise t code a
    → ((b : ℕ) → body_of (contents_of t) code ≡ Some b
    → (a.code ≡ 0) × (a.paid ≡ kept mandato_kind (contents_of t) (entry_of b)) × (a.collected ≡ kept reversale_kind (contents_of t) (entry_of b))
    × (a.balance ≡ pos (kept reversale_kind (contents_of t) (entry_of b)) -ℤ pos (kept mandato_kind (contents_of t) (entry_of b))))
    × (body_of (contents_of t) code ≡ None → a ≡ zero_totals 7)

-- WHAT MOVES CASH, of a body of a valid table
pub record CashMoved : Type 0 where
  -- no order does, of at most eight lines, as all orders of a flow are: a replacement's named lines give up what its own bring in
  pub order_cash : EachOrder (λ t b year o. length o.lines ≤ 8 → (kind : ℕ) → cents_of kind (records_by year o (body_records b t) (comes_to t b year o)) ≡ cents_of kind (body_records b t))
  -- an accepted execution adds its cents to those of its order's kind; an accepted reversal takes them back
  pub execute_cash : EachNotice (λ t b executing k line a t'. executing ≡ true → (cents : ℕ) → a ≡ Ok cents → (kind : ℕ)
      → cents_of kind (records_at t' (place_of t (entry_of b)) (slots_of t (entry_of b))) ≡ cents_of kind (body_records b t) + cond (eqb k.kind kind) cents 0)
  pub reverse_cash : EachNotice (λ t b executing k line a t'. executing ≡ false → (cents : ℕ) → a ≡ Ok cents → (kind : ℕ)
      → cents_of kind (records_at t' (place_of t (entry_of b)) (slots_of t (entry_of b))) + cond (eqb k.kind kind) cents 0 ≡ cents_of kind (body_records b t))

-- A TABLE 1: which of its bodies has a code, how many slots body b has, and its records
abbrev pub old_body : List ℕ → List ℕ → Option ℕ
old_body o code = find_code (codes_from table1.entry o head_size (bodies o)) 0 code

abbrev pub old_slots : List ℕ → ℕ → ℕ
old_slots o b = slots_of o (old_entry b)

abbrev pub old_records : List ℕ → ℕ → List Record
old_records o b = T.records_of o (old_entry b)

-- a flow f of the edition numbered ed that is taken as the rules say of the table 1 o, on its converted table t₀ with the outcome buffer out' and the table t' afterwards: it stands and is for
-- the table 1's bank and the body b of the table 1; its orders' codes and the body's records afterwards are those that the rules give on the old records
pub record TakenOld (o t₀ : List ℕ) (ed : ℕ) (f t' out' : List ℕ) : Type 0 where
  pub edition : Edition
  pub numbered : edition_of ed ≡ Some edition
  pub at : ℕ
  pub stands : verdict_of edition f ≡ Ok at
  pub bank : text_is (abi_of o) (header_of edition f at).abi ≡ true
  pub body : ℕ
  pub named : old_body o (header_of edition f at).ente ≡ Some body
  pub codes : outcome_codes (length (flow_orders edition f at)) out' ≡ codes_in_turn (old_slots o body) (header_of edition f at).esercizio (flow_orders edition f at) (old_records o body)
  pub records : records_at t' (place_of t₀ (entry_of body)) (old_slots o body)
      ≡ all_records (old_slots o body) (header_of edition f at).esercizio (flow_orders edition f at) (old_records o body)

-- A CONVERTED TABLE t₀ of the table 1 o: "it gives the same totals and answers. Conditions 2 and 3 read with table 2 from here"
pub record Conversion (E : Engine) (o t₀ : List ℕ) : Type 0 where
  -- a valid table 2 with the table 1's bank, bodies, slots and records (crates/convert/specs/Same)
  pub same : Same o t₀
  -- so the conditions read with it: what a body's calls answer is what the rules say of the table 1's records (condition 2), of a flow that is taken,
  pub flows : (ed : ℕ) (f out : List ℕ) (a : Result (ℕ × ℕ × ℕ) FlowRefusal) (t' out' : List ℕ) → FlowPromise t₀ ed f out a t' out' → flow_code a ≡ 0 → TakenOld o t₀ ed f t' out'
  -- of a notice on a TARGET day,
  pub notices : (code : List ℕ) (b : ℕ) → old_body o code ≡ Some b → (executing : Bool) (k : Key) (line : ℕ) (d : Date) → target_code d ≡ 0 → (a : Result ℕ NoticeRefusal) (t' : List ℕ)
      → NoticePromise t₀ executing code k line d a t' → a ≡ noticed (judge_notice executing k line (old_records o b))
  -- and of totals: code, used slots, cents paid, cents collected, balance
  pub totals : (code : List ℕ) (b : ℕ) → old_body o code ≡ Some b → (a : TotalsAnswer) → TotalsPromise t₀ code a
      → let paid = cents_of mandato_kind (old_records o b) in
      let collected = cents_of reversale_kind (old_records o b) in
      a ≡ totalled 0 (length (old_records o b)) paid collected (pos collected -ℤ pos paid)
  -- it is the only table 2 with those: any other buffer of bytes that is one holds the same bytes
  pub only : are_bytes o ≡ true → (u : List ℕ) → are_bytes u ≡ true → Same o u → u ≡ t₀
  -- so every later sequence of calls gives the answers, and the table in the end, that it would give on any table 2 with those records
  pub answers : are_bytes o ≡ true → (u : List ℕ) → are_bytes u ≡ true → Same o u → (cs : List Call)
      → (log (machine E u) cs u ≡ log (machine E t₀) cs t₀) × (table_after E u cs ≡ table_after E t₀ cs)
  -- condition 3, for any sequence of calls from it on
  pub isolated : Condition3 E t₀
  -- and cash by history, from the table 1's records on
  pub history : (b : ℕ) → b < bodies o → (cs : List Call) → History E t₀ b cs (old_records o b)

-- from any buffer that conversion answered 0 for
abbrev pub FromTable1 : Type 0
FromTable1 = (E : Engine) (o t t₀ : List ℕ) → ConvertReplies o t 0 t₀ → Conversion E o t₀
