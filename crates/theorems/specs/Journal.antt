-- A JOURNAL'S ANSWER (document 02, Req 10), of whatever keeps its call's promise. Proved: `journal-answers : JournalAnswers`.
use Rattle.std.specs.Prelude.{ℕ, ◌≡◌, true, false, List, [], Some, None}
use Rattle.table.specs.Table.{table_ok, body_of}
use Rattle.journal.specs.Journal.{movements_in, whole_movements, executed_lines, journal_code, JournalPromise}
use Rattle.journal.specs.Told.{Permutation, Told, Exactly}
use Rattle.theorems.specs.Engine.{body_records}

-- "accept exactly when every executed line of that body is listed once, with its cents, and nothing else is listed": the table is valid, a body has the code,
-- the bytes are whole movements and not too many, and these are the body's executed lines with their cents, in any order
pub record Accepts (t code s : List ℕ) : Type 0 where
  pub valid : table_ok t ≡ true
  pub body : ℕ
  pub named : body_of t code ≡ Some body
  pub whole : whole_movements s ≡ true
  pub same : Permutation (movements_in s) (executed_lines (body_records body t))

-- "29 over 4,096 or not whole movements", of a body that is there
pub record Broken (t code s : List ℕ) : Type 0 where
  pub valid : table_ok t ≡ true
  pub body : ℕ
  pub named : body_of t code ≡ Some body
  pub broken : whole_movements s ≡ false

pub record JournalAnswers : Type 0 where
  pub accepted : (t code s : List ℕ) (c : ℕ) → JournalPromise t code s c → Exactly (c ≡ 0) (Accepts t code s)
  -- "Refusals after 1 and 7: 29 over 4,096 or not whole movements": each exactly when
  pub refused : (t code s : List ℕ) (c : ℕ) → JournalPromise t code s c
      → Exactly (c ≡ 1) (table_ok t ≡ false)
      × Exactly (c ≡ 7) ((table_ok t ≡ true) × (body_of t code ≡ None))
      × Exactly (c ≡ 29) (Broken t code s)
  -- "then one by one 30 no such executed line, 31 other cents, 32 listed before; then 33 an executed line is missing": each exactly when (`Told`,
  -- crates/journal/specs/Told)
  pub told : (t code s : List ℕ) (c : ℕ) → JournalPromise t code s c → (b : ℕ) → table_ok t ≡ true → body_of t code ≡ Some b → whole_movements s ≡ true
      → (c ≡ journal_code (executed_lines (body_records b t)) [] (movements_in s)) × Told (body_records b t) (movements_in s)
