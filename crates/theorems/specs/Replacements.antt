-- REPLACEMENT ORDERS (document 02, Req 07), of any body's records. Proved: `replacements : Replacements`. When one is accepted: `exactly` and `answer` of
-- condition 2. That it moves no cash: `order-cash` of CashMoved.
use Rattle.std.specs.Prelude.{ℕ, ◌-◌, ◌≡◌, length, Some}
use mathlib.Core.List.{List, Memᴰ}
use Rattle.codes.specs.declared.Operation.TheVariants.{Sostituzione}
use Rattle.order.specs.declared.Line.{Line}
use Rattle.order.specs.Ordinativo.{Ordinativo}
use Rattle.record.specs.declared.Record.{Record}
use Rattle.record.specs.Slot.{acquired_state, executed_line}
use Rattle.slots.specs.Slots.{nth, find_in}
use Rattle.replacing.specs.declared.Naming.{Naming}
use Rattle.replacing.specs.Replacing.{naming_of, namings, named_code, replaced_by}
use Rattle.rules.specs.Rules.{key_for, judge_order, order_code, record_of}
use Rattle.rules.specs.Listed.{IsReplaced}
use Rattle.rules.specs.Effects.{stored_at, records_by}

-- of every SOSTITUZIONE that is accepted
abbrev pub OfReplacements : (ℕ → ℕ → Ordinativo → List Record → Type 0) → Type 0
OfReplacements P = (slots year : ℕ) (o : Ordinativo) (rs : List Record) → o.operation ≡ Sostituzione → order_code (judge_order slots year o rs) ≡ 0 → P slots year o rs

-- the record with the named key is there, at this index, and its line of that number is "replaced (line state 3)"
pub record Replaced (rs : List Record) (m : Naming) : Type 0 where
  pub at : ℕ
  pub found : find_in rs 0 m.key ≡ Some at
  pub state : IsReplaced (nth rs at) (m.line - 1)

pub record Replacements : Type 0 where
  -- "It carries a new order; .. The named line .. becomes replaced (line state 3) and the new line is executed at once": all named lines, and the new record in
  -- the first empty slot
  pub leaves : OfReplacements (λ slots year o rs. records_by year o rs (judge_order slots year o rs)
      ≡ stored_at (replaced_by rs (namings o)) (length rs) (record_of (key_for year o) acquired_state executed_line o))
  -- what each of its lines named is there afterwards, and its state is 3 ..
  pub once : OfReplacements (λ slots year o rs. (l : Line) → Memᴰ l o.lines → Replaced (records_by year o rs (judge_order slots year o rs)) (naming_of o.kind l))
  -- .. so that to name it again is 25, "not executed or already replaced". (That it stays so after any calls that don't close its year: `replaced-history` of History)
  pub again : OfReplacements (λ slots year o rs. (l : Line) → Memᴰ l o.lines → named_code (records_by year o rs (judge_order slots year o rs)) (naming_of o.kind l) ≡ 25)
