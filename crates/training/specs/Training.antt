-- The training engine (document 02, Req 12): "a version that keeps each body's orders as a simple list in order of arrival, unpacked, as many as the body has
-- slots". What an order or a notice comes to, and the list that it leaves, are the rules' over lists of records (crates/rules).
use Rattle.std.specs.Prelude.{ℕ, ◌≤◌, ◌<◌, ◌≡◌, List, length, take, Result}
use Rattle.order.specs.Ordinativo.{Ordinativo}
use Rattle.record.specs.declared.Record.{Record}
use Rattle.slots.specs.Slots.{nth}
use Rattle.rules.specs.Rules.{judge_order}
use Rattle.rules.specs.Effects.{records_by}
use Rattle.rules.specs.Searches.{steps_of}
use Rattle.training.specs.declared.Book.{Book}
use Rattle.rules.specs.declared.Change.{Change}

-- "tables whose bodies have at most 32 slots"
abbrev pub places : ℕ
places = 32

-- A BODY'S ORDERS, in order of arrival
abbrev pub list_of : Book → List Record
list_of b = take b.count b.records

-- none of them has more than eight lines
abbrev pub Eight : List Record → Type 0
Eight rs = (i : ℕ) → i < length rs → (nth rs i).lines ≤ 8

-- AN ORDER taken on the list rs, of a body of so many slots, in the flow's esercizio: the ruling j, the steps of its search, and the list afterwards
abbrev pub OrderTaken : ℕ → ℕ → Ordinativo → List Record → Result (Change × ℕ) ℕ → ℕ → List Record → Type 0
OrderTaken slots year o rs j steps rs' = (j ≡ judge_order slots year o rs) × (steps ≡ steps_of year o rs) × (rs' ≡ records_by year o rs j)
