-- CONDITION 3 of the tender letter, of every engine that keeps the calls' promises, "under the rules of condition 2". Proved: `condition3 : FromValid`,
-- `condition3-opened : FromOpening`, `any-run : AnyRun`, and that there is such an engine: `ours : Engine`. "Reason: this is the defect we had."
use Rattle.std.specs.Prelude.{ℕ, ◌<◌, ◌≡◌, true, List, map}
use Rattle.std.proofs.Math.Option.{none, some}
use Rattle.entries.specs.Entry.{code_at}
use Rattle.table.specs.Table.{bodies, table_ok, entry_of}
use Rattle.opening.specs.Opening.{OpenReplies}
use Rattle.isolation.specs.Order.{mine, strays, body_by_body}
use Rattle.isolation.specs.Machine.{Isolated, log}
use Rattle.theorems.specs.Engine.{Call, Answer, Engine, Happens, answer_code, names, who, machine, table_after}
use Rattle.theorems.specs.Codes.{one_of, stray_codes, body_codes}

-- of the engine E, for "any sequence of flows, notices and totals calls" from the table t₀ on; since Req 10 of journals too, and since Req 14 of closes
-- ("condition 3's sequence now takes closes too, anywhere in it, and stands")
pub record Condition3 (E : Engine) (t₀ : List ℕ) : Type 0 where
  -- "Every answer, every outcome byte and the final table are those of serving the bodies one after another in contents order, each with its own calls
  -- in their own order .. Each body's answers and records are also those it would get had the other bodies never called. A call that names no body of the
  -- table changes nothing, and its answer is the same at any moment": `answers`, `final`, `alone-answers`, `alone-records`, `stray-state`, `stray-answer`
  pub isolated : Isolated (machine E t₀) t₀
  -- that order loses, doubles and invents no call: each body's calls, and those that name no body, are the same, in the same order
  pub bodies_kept : (cs : List Call) (b : ℕ) → b < bodies t₀ → mine (who t₀) b (body_by_body (who t₀) (bodies t₀) cs) ≡ mine (who t₀) b cs
  pub strays_kept : (cs : List Call) → strays (who t₀) (body_by_body (who t₀) (bodies t₀) cs) ≡ strays (who t₀) cs
  -- a body's own code names it, no other code does, and whom a call names is the same read from the table at any moment
  pub own_code : (c : Call) (b : ℕ) → b < bodies t₀ → names t₀ c ≡ some (code_at t₀ (entry_of b)) → who t₀ c ≡ some b
  pub one_code : (c : Call) (b : ℕ) (code : List ℕ) → names t₀ c ≡ some code → who t₀ c ≡ some b → code ≡ code_at t₀ (entry_of b)
  pub who_stays : (cs : List Call) (c : Call) → who (table_after E t₀ cs) c ≡ who t₀ c
  -- which codes a call gets that names no body, and one that does
  pub stray_code : (cs : List Call) (c : Call) → who t₀ c ≡ none → one_of (stray_codes c) (answer_code (E.answer c (table_after E t₀ cs))) ≡ true
  pub body_code : (cs : List Call) (c : Call) (b : ℕ) → who t₀ c ≡ some b → one_of (body_codes c) (answer_code (E.answer c (table_after E t₀ cs))) ≡ true
  -- the table is valid after any calls, so that none is ever answered 1
  pub valid : (cs : List Call) → table_ok (table_after E t₀ cs) ≡ true
  pub never_invalid : (cs : List Call) (c : Call) → answer_code (E.answer c (table_after E t₀ cs)) ≡ 1 → ⊥

-- An engine leaves nothing out: whatever happens by the promises is what each engine does
abbrev pub AnyRun : Type 0
AnyRun = (E : Engine) (t₀ u : List ℕ) (ls : List (Call × Answer)) → Happens t₀ ls u
    → (log (machine E t₀) (map (λ l. l.0) ls) t₀ ≡ ls) × (table_after E t₀ (map (λ l. l.0) ls) ≡ u)

-- from any valid table on
abbrev pub FromValid : Type 0
FromValid = (E : Engine) (t₀ : List ℕ) → table_ok t₀ ≡ true → Condition3 E t₀

-- "Take a freshly opened table": any buffer that opening answered 0 for
abbrev pub FromOpening : Type 0
FromOpening = (E : Engine) (q t t₀ : List ℕ) → OpenReplies q t 0 t₀ → Condition3 E t₀
