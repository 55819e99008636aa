-- ONE BODY, TWO WAYS TO KEEP IT: in its slots of a table, and as a plain list in order of arrival (document 02, Req 12): "it is proved, over all flows and notices, to
-- give every answer and outcome the table engine gives, and its lists are what the records say". Proved: `one_list : OneList`.
use Rattle.std.specs.Prelude.{Result}
use Prim.Native.Nat.{ℕ, ◌≤◌}
use mathlib.Core.Path.{◌≡◌}
use mathlib.Core.Bool.{Bool}
use mathlib.Core.Option.{none}
use mathlib.Core.List.{List}
use Rattle.order.specs.Ordinativo.{Ordinativo}
use Rattle.record.specs.declared.Record.{Record}
use Rattle.record.specs.declared.Key.{Key}
use Rattle.slots.specs.Slots.{records_at}
use Rattle.rules.specs.Rules.{judge_notice}
use Rattle.rules.specs.Effects.{all_records, records_moved}
use Rattle.rules.proofs.Kept.{Writables}
use Rattle.service.specs.Service.{all_leave, all_outcomes, all_accepted, all_steps, notice_comes, notice_leaves}
use Rattle.service.specs.Inner.{Served}
use Rattle.isolation.specs.Machine.{Machine, state_after, log}
use Rattle.one_list.specs.Lists.{list_outcomes, list_accepted, list_steps}

-- A BODY'S CALLS: the orders of a flow in its esercizio, with values as a flow that stands has them; a notice of execution (true) or reversal (false)
pub data Call : Type 0 where
  orders : (year : ℕ) (os : List Ordinativo) → Writables os → (2000 ≤ year) × (year ≤ 2099) → Call
  notice : Bool → Key → ℕ → Call

-- how many orders were accepted, the steps of their searches and their outcome bytes; what a notice came to
pub data Answer : Type 0 where
  of_orders : ℕ → ℕ → List ℕ → Answer
  of_notice : Result (ℕ × ℕ) ℕ → Answer

-- one body alone, kept as S: its calls name no other, and nothing is said of parts
abbrev pub alone : (S : Type 0) → (Call → S → Answer) → (Call → S → S) → Machine
alone S answer next = record {
  State = S;
  Call = Call;
  Answer = Answer;
  Part = Unit {0};
  Rest = Unit {0};
  count = 0;
  who = λ c. none;
  answer = answer;
  next = next;
  part = λ b s. tt;
  rest = λ s. tt;
}

-- IN A TABLE: its entry begins at e, its n slots at base
module _ (e base n : ℕ) where
  abbrev pub table_answer : Call → List ℕ → Answer
  table_answer (orders year os w y) t = of_orders (all_accepted t base n year os) (all_steps t base n year os) (all_outcomes t base n year os)
  table_answer (notice executing k line) t = of_notice (notice_comes t base n executing k line)

  abbrev pub table_after : Call → List ℕ → List ℕ
  table_after (orders year os w y) t = all_leave t base n year os
  table_after (notice executing k line) t = notice_leaves t e base n executing k line

  abbrev pub in_table : Machine
  in_table = alone (List ℕ) table_answer table_after

-- AS A LIST, of a body with n slots
module _ (n : ℕ) where
  abbrev pub list_answer : Call → List Record → Answer
  list_answer (orders year os w y) rs = of_orders (list_accepted n year os rs) (list_steps n year os rs) (list_outcomes n year os rs)
  list_answer (notice executing k line) rs = of_notice (judge_notice executing k line rs)

  abbrev pub list_after : Call → List Record → List Record
  list_after (orders year os w y) rs = all_records n year os rs
  list_after (notice executing k line) rs = records_moved executing line rs (judge_notice executing k line rs)

  abbrev pub as_list : Machine
  as_list = alone (List Record) list_answer list_after

-- of a body that calls can be served on, for every sequence of its calls
pub record OneList : Type 0 where
  -- "every answer and outcome the table engine gives"
  pub answers : (e base n : ℕ) (cs : List Call) (t : List ℕ) → Served t e base n → log (as_list n) cs (records_at t base n) ≡ log (in_table e base n) cs t
  -- "its lists are what the records say"
  pub lists : (e base n : ℕ) (cs : List Call) (t : List ℕ) → Served t e base n
      → state_after (as_list n) cs (records_at t base n) ≡ records_at (state_after (in_table e base n) cs t) base n
