-- STEPS OF A SEARCH (document 02, Req 09), about the flow's own promise: whatever keeps it does this. Proved: `searches : Searches`.
use Rattle.std.specs.Prelude.{ℕ, suc, ◌≡◌, ◌⊎◌, List, length, Result, Some, None}
use Rattle.order.specs.Ordinativo.{Ordinativo}
use Rattle.record.specs.declared.Record.{Record}
use Rattle.slots.specs.Slots.{find_in}
use Rattle.lines.specs.Lines.{line_code}
use Rattle.rules.specs.Rules.{key_for, judge_order, order_code}
use Rattle.rules.specs.Searches.{steps_of}
use Rattle.desk.specs.declared.FlowRefusal.{FlowRefusal}
use Rattle.desk.specs.Desk.{FlowPromise, flow_code, flow_reply}

-- of every order, on any body's records
abbrev pub OfOrders : (ℕ → ℕ → Ordinativo → List Record → Type 0) → Type 0
OfOrders P = (slots year : ℕ) (o : Ordinativo) (rs : List Record) → P slots year o rs

-- it is answered c
abbrev pub AnsweredBy : ℕ → ℕ → ℕ → Ordinativo → List Record → Type 0
AnsweredBy c slots year o rs = order_code (judge_order slots year o rs) ≡ c

-- it is answered by none of those that come before any search: 12 and 13
abbrev pub LookedFor : ℕ → ℕ → Ordinativo → List Record → Type 0
LookedFor slots year o rs = (AnsweredBy 12 slots year o rs → ⊥) × (AnsweredBy 13 slots year o rs → ⊥)

pub record Searches : Type 0 where
  -- "Each order's search counts the slots it looked at: up to and including the one found,"
  pub found : OfOrders (λ slots year o rs. LookedFor slots year o rs → (i : ℕ) → find_in rs 0 (key_for year o) ≡ Some i → steps_of year o rs ≡ suc i)
  -- "or all the body's used slots when there is none."
  pub absent : OfOrders (λ slots year o rs. LookedFor slots year o rs → find_in rs 0 (key_for year o) ≡ None → steps_of year o rs ≡ length rs)
  -- "Orders answered 12 or 13 and refused flows count 0"
  pub unsearched : OfOrders (λ slots year o rs. AnsweredBy 12 slots year o rs ⊎ AnsweredBy 13 slots year o rs → steps_of year o rs ≡ 0)
  pub refused_none : (t : List ℕ) (ed : ℕ) (f out : List ℕ) (a : Result (ℕ × ℕ × ℕ) FlowRefusal) (t' out' : List ℕ) → FlowPromise t ed f out a t' out' → (flow_code a ≡ 0 → ⊥) → (flow_reply a).steps ≡ 0
  -- "a replacement counts only the search for its own key": what its lines name makes no difference, so it counts what an INSERIMENTO of its key and lines does
  pub own_only : (year : ℕ) (o p : Ordinativo) (rs : List Record) → key_for year o ≡ key_for year p → line_code o.lines o.total ≡ line_code p.lines p.total
      → steps_of year o rs ≡ steps_of year p rs
