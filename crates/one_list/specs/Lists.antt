-- The orders of a flow on one body's plain list (document 02, Req 12), "taken as written, each on the table the one before left": what they write, how many are
-- accepted and what their searches count. The list that they leave is `all_records` of crates/rules.
use Rattle.std.specs.Prelude.{ℕ, ◌+◌, cond, List, [], ◌∷◌, ◌++◌, eqb}
use Rattle.order.specs.Ordinativo.{Ordinativo}
use Rattle.record.specs.declared.Record.{Record}
use Rattle.rules.specs.Rules.{judge_order, order_code}
use Rattle.rules.specs.Effects.{records_by}
use Rattle.rules.specs.Searches.{steps_of}
use Rattle.service.specs.Service.{outcome_bytes}

-- "Each writes 16 outcome bytes"
unfoldable pub list_outcomes : ℕ → ℕ → List Ordinativo → List Record → List ℕ
list_outcomes slots year [] rs = []
list_outcomes slots year (o ∷ os) rs =
    outcome_bytes o (order_code (judge_order slots year o rs)) ++ list_outcomes slots year os (records_by year o rs (judge_order slots year o rs))

-- "accepted (how many of them got outcome code 0)"
unfoldable pub list_accepted : ℕ → ℕ → List Ordinativo → List Record → ℕ
list_accepted slots year [] rs = 0
list_accepted slots year (o ∷ os) rs =
    cond (eqb (order_code (judge_order slots year o rs)) 0) 1 0 + list_accepted slots year os (records_by year o rs (judge_order slots year o rs))

-- "The flow's answer carries their sum" (document 02, Req 09)
unfoldable pub list_steps : ℕ → ℕ → List Ordinativo → List Record → ℕ
list_steps slots year [] rs = 0
list_steps slots year (o ∷ os) rs = steps_of year o rs + list_steps slots year os (records_by year o rs (judge_order slots year o rs))
