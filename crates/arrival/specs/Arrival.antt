-- ORDER OF ARRIVAL (document 02, Req 12): the training engine "keeps each body's orders as a simple list in order of arrival, unpacked, as many as the body has
-- slots". Of any list, whatever it holds. Proved: `arrival : Arrival`.
use Rattle.std.specs.Prelude.{ℕ, ◌≤◌, ◌≡◌, Bool, List, [], ◌∷◌, ◌++◌, map, length, Result, Ok, Err}
use Rattle.order.specs.Ordinativo.{Ordinativo}
use Rattle.record.specs.declared.Record.{Record}
use Rattle.record.specs.declared.Key.{Key}
use Rattle.record.specs.Slot.{key_of}
use Rattle.rules.specs.declared.Change.TheVariants.{Insert, Vary, Annul, Replace}
use Rattle.rules.specs.Rules.{key_for, judge_order, judge_notice}
use Rattle.rules.specs.Effects.{records_by, all_records, records_moved}
use Rattle.rules.specs.declared.Change.{Change}

-- "a simple list": which orders it holds, in its order
abbrev pub keys_of : List Record → List Key
keys_of rs = map key_of rs

-- what arrives with an order: "INSERIMENTO fills the body's first empty slot"; SOSTITUZIONE "carries a new order" (Req 07). No other brings one
abbrev pub arrived : ℕ → Ordinativo → Result (Change × ℕ) ℕ → List Key
arrived year o (Ok (Insert, i)) = key_for year o ∷ []
arrived year o (Ok (Replace, i)) = key_for year o ∷ []
arrived year o (Ok (Vary, i)) = []
arrived year o (Ok (Annul, i)) = []
arrived year o (Err code) = []

-- and with a flow's orders, "taken as written, each on the table the one before left"
unfoldable pub arrivals : ℕ → ℕ → List Ordinativo → List Record → List Key
arrivals slots year [] rs = []
arrivals slots year (o ∷ os) rs = arrived year o (judge_order slots year o rs) ++ arrivals slots year os (records_by year o rs (judge_order slots year o rs))

pub record Arrival : Type 0 where
  -- "in order of arrival": what arrives comes last, and all before it stays in its place
  pub order : (slots year : ℕ) (o : Ordinativo) (rs : List Record)
      → keys_of (records_by year o rs (judge_order slots year o rs)) ≡ keys_of rs ++ arrived year o (judge_order slots year o rs)
  pub flow : (slots year : ℕ) (os : List Ordinativo) (rs : List Record) → keys_of (all_records slots year os rs) ≡ keys_of rs ++ arrivals slots year os rs
  pub notice : (executing : Bool) (k : Key) (line : ℕ) (rs : List Record) → keys_of (records_moved executing line rs (judge_notice executing k line rs)) ≡ keys_of rs
  -- "as many as the body has slots"
  pub room : (slots year : ℕ) (os : List Ordinativo) (rs : List Record) → length rs ≤ slots → length (all_records slots year os rs) ≤ slots
  pub same_room : (executing : Bool) (k : Key) (line : ℕ) (rs : List Record) → length (records_moved executing line rs (judge_notice executing k line rs)) ≡ length rs
