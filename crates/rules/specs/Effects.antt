-- What orders and notices do to a body's records: the list of records afterwards. The table's bytes follow it (crates/service/proofs).
use Rattle.std.specs.Prelude.{ℕ, suc, ◌-◌, Bool, List, [], ◌∷◌, ◌++◌, set, take, drop, Result, Ok, Err}
use Rattle.order.specs.Ordinativo.{Ordinativo}
use Rattle.record.specs.declared.Record.{Record}
use Rattle.record.specs.Slot.{with_state}
use Rattle.replacing.specs.Replacing.{namings, replaced_by}
use Rattle.rules.specs.declared.Change.{Change}
use Rattle.rules.specs.declared.Change.TheVariants.{Insert, Vary, Annul, Replace}
use Rattle.slots.specs.Slots.{nth}
use Rattle.rules.specs.Rules.{judge_order, written, moved_to}

-- a record in place of the one at i, or after the last
abbrev pub stored_at : List Record → ℕ → Record → List Record
stored_at rs i r = take i rs ++ r ∷ drop (suc i) rs

-- the body's records beside the order's own: a SOSTITUZIONE's named lines are replaced (document 02, Req 07)
abbrev pub besides : Change → Ordinativo → List Record → List Record
besides Insert o rs = rs
besides Vary o rs = rs
besides Annul o rs = rs
besides Replace o rs = replaced_by rs (namings o)

-- an order: "Accepted, INSERIMENTO fills the body's first empty slot ..; VARIAZIONE replaces ..; ANNULLO sets the state only"
abbrev pub records_by : ℕ → Ordinativo → List Record → Result (Change × ℕ) ℕ → List Record
records_by year o rs (Ok (c, i)) = stored_at (besides c o rs) i (written year o (nth rs i) c)
records_by year o rs (Err code) = rs

-- the orders of a flow, "taken as written, each on the table the one before left"
unfoldable pub all_records : ℕ → ℕ → List Ordinativo → List Record → List Record
all_records slots year [] rs = rs
all_records slots year (o ∷ os) rs = all_records slots year os (records_by year o rs (judge_order slots year o rs))

-- a notice: "Execution sets the line executed; reversal sets it waiting again"
abbrev pub records_moved : Bool → ℕ → List Record → Result (ℕ × ℕ) ℕ → List Record
records_moved executing line rs (Ok (i, cents)) = set rs i (with_state (nth rs i) (line - 1) (moved_to executing))
records_moved executing line rs (Err c) = rs
