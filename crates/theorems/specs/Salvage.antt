-- SALVAGE of a damaged table (document 02, Req 13), of every engine that keeps the calls' promises. Proved: `salvage-codes : SalvageCodes`,
-- `salvaged : AfterSalvage`.
use Rattle.std.specs.Prelude.{ℕ, ◌+◌, ◌*◌, ◌<◌, ◌≡◌, true, cond, List, length, leb}
use Rattle.words.specs.Numbers.{put}
use Rattle.table.specs.Table.{table2, bodies, contents_ok, table_ok, entry_of}
use Rattle.one_table.specs.One.{are_bytes}
use Rattle.salvage.specs.Salvage.{kept_of, blanked, report_of, SalvageReplies}
use Rattle.salvage.specs.Repaired.{Repairs, Unchanged}
use Rattle.theorems.specs.Engine.{Call, Engine}
use Rattle.theorems.specs.Condition3.{Condition3}
use Rattle.theorems.specs.History.{History}

-- "Refusals: 34 head or entries not valid, 35 report doesn't fit; both leave table and report unchanged": a report of two bytes for each body and four for
-- each blanked slot has to fit. "The answer has code and number blanked, 0 on refusal"
abbrev pub SalvageCodes : Type 0
SalvageCodes = (t r : List ℕ) (n k : ℕ) (t' r' : List ℕ) → SalvageReplies t r n k t' r'
    → (n ≡ cond (contents_ok table2 t) (cond (leb (2 * bodies t + 4 * length (blanked t)) (length r)) 0 35) 34)
    × ((n ≡ 0 → ⊥) → (k ≡ 0) × (t' ≡ t) × (r' ≡ r))

-- SALVAGE ANSWERED 0 on the table t and the report's buffer r: t₀ and r₀ afterwards, k slots blanked
pub record Salvage (E : Engine) (t r t₀ r₀ : List ℕ) (k : ℕ) : Type 0 where
  -- the table is repaired, and valid: each body's records are those kept of its slots, and the kept totals are theirs (crates/salvage/specs/Repaired)
  pub repairs : Repairs t t₀
  -- the report is written, "bytes past it stay"
  pub report : r₀ ≡ put r 0 (report_of t)
  pub number : k ≡ length (blanked t)
  -- "A valid table comes out the same": nothing is moved, nothing blanked; and so does a repaired one
  pub same : are_bytes t ≡ true → table_ok t ≡ true → (t₀ ≡ t) × Unchanged t × (k ≡ 0)
  pub again : are_bytes t ≡ true → Unchanged t₀
  -- it is the only table of bytes with those records
  pub only : are_bytes t ≡ true → (u : List ℕ) → are_bytes u ≡ true → Repairs t u → u ≡ t₀
  -- "Conditions 2 and 3 start afresh from the repaired table": condition 2 speaks of every valid table, and so of this one; condition 3 for any sequence
  -- of calls from it on
  pub isolated : Condition3 E t₀
  -- and cash by history, from the kept records on
  pub history : (b : ℕ) → b < bodies t → (cs : List Call) → History E t₀ b cs (kept_of t (entry_of b))

abbrev pub AfterSalvage : Type 0
AfterSalvage = (E : Engine) (t r : List ℕ) (k : ℕ) (t₀ r₀ : List ℕ) → SalvageReplies t r 0 k t₀ r₀ → Salvage E t r t₀ r₀ k
