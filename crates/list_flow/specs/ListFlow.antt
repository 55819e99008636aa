-- The orders of a flow taken on one body's plain list (document 02, Req 12), by the definitions of crates/one_list.
use Rattle.std.specs.Prelude.{ℕ, ◌≡◌, List}
use Rattle.words.specs.Numbers.{put}
use Rattle.order.specs.Ordinativo.{Ordinativo}
use Rattle.record.specs.declared.Record.{Record}
use Rattle.rules.specs.Effects.{all_records}
use Rattle.one_list.specs.Lists.{list_outcomes, list_accepted, list_steps}

-- the orders os taken on the list rs, their outcomes written into the buffer out: how many were accepted, the steps of their searches, and list and buffer afterwards
abbrev pub ListTaken : ℕ → ℕ → List Ordinativo → List Record → List ℕ → ℕ → ℕ → List Record → List ℕ → Type 0
ListTaken slots year os rs out accepted steps rs' out' =
    (accepted ≡ list_accepted slots year os rs) × (steps ≡ list_steps slots year os rs) × (rs' ≡ all_records slots year os rs)
    × (out' ≡ put out 0 (list_outcomes slots year os rs))
