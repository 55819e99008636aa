-- What a change comes to by what its search told, for the functions that it is handed on to. The promises speak of none of it.
use Rattle.std.specs.Prelude.{ℕ, ◌≡◌, List, length, Result, Ok, Err}
use Rattle.order.specs.Ordinativo.{Ordinativo}
use Rattle.record.specs.declared.Record.{Record}
use Rattle.slots.specs.Slots.{nth}
use Rattle.rules.specs.declared.Change.{Change}
use Rattle.rules.specs.Rules.{unless, judge_change}
use Rattle.rules.specs.Inner.{record_code, names_code, absent_code}
use Rattle.rules.specs.Effects.{records_by}
use Rattle.rules.specs.Searches.{steps_of}

-- its record stands at index i
abbrev pub on_record : List Record → ℕ → Ordinativo → Change → Result (Change × ℕ) ℕ
on_record rs i o c = unless Err (record_code c o (nth rs i)) (Ok (c, i))

-- no order has its key
abbrev pub on_none : ℕ → List Record → Ordinativo → Change → Result (Change × ℕ) ℕ
on_none slots rs o c = unless Err (absent_code c (names_code c o rs) (length rs) slots) (Ok (c, (length rs)))

-- the ruling j is the one that the rules give, and the list rs' is what it leaves
abbrev pub Ruled : ℕ → Ordinativo → List Record → Result (Change × ℕ) ℕ → Result (Change × ℕ) ℕ → List Record → Type 0
Ruled year o rs rules j rs' = (j ≡ rules) × (rs' ≡ records_by year o rs j)

abbrev pub ChangeTaken : ℕ → ℕ → Ordinativo → List Record → Change → Result (Change × ℕ) ℕ → ℕ → List Record → Type 0
ChangeTaken slots year o rs c j steps rs' = Ruled year o rs (judge_change slots year o rs c) j rs' × (steps ≡ steps_of year o rs)

-- some named lines of rs come to `code`, and where that is 0 they are replaced in rs'
abbrev pub Marks : List Record → ℕ → List Record → ℕ → List Record → Type 0
Marks rs named left code rs' = (code ≡ named) × (code ≡ 0 → rs' ≡ left)
