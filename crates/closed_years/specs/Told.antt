-- WHEN A CLOSE IS REFUSED (document 02, Req 14), each refusal by what it says. Proved: `close-told : CloseTold`, and
-- that this leaves no code open, `one_code : OneCode`.
use Rattle.std.specs.Prelude.{ℕ, ◌≤◌, ◌<◌, ◌≡◌, true, false, cond, get_or, eqb, Result, Some, None as Nothing}
use mathlib.Core.List.{List, Memᴰ}
use Rattle.journal.specs.Told.{Exactly}
use Rattle.record.specs.declared.Record.{Record}
use Rattle.record.specs.Slot.{acquired_state, waiting_line}
use Rattle.entries.specs.Entry.{closed_of}
use Rattle.table.specs.Table.{table_ok, records_of, body_of, entry_of}
use Rattle.year_end.specs.declared.CloseRefusal.{CloseRefusal}
use Rattle.year_end.specs.YearEnd.{ClosePromise, close_code}

-- THE REFUSALS of a close of `year`, for a body whose last closed year is `last`, 0 before the first, with these records
pub data CloseApplies (last year : ℕ) (rs : List Record) : ℕ → Type 0 where
  -- "37 not a year of 2000 to 2099"
  no_year : ((2000 ≤ year) × (year ≤ 2099) → ⊥) → CloseApplies last year rs 37
  -- "36 not later than the last one closed"
  not_later : year ≤ last → CloseApplies last year rs 36
  -- "38 a record of an earlier year remains", whatever its state
  earlier : (r : Record) → Memᴰ r rs → r.esercizio < year → CloseApplies last year rs 38
  -- "39 an acquired order of that year has a waiting line"
  waiting : (r : Record) → Memᴰ r rs → r.esercizio ≡ year → r.state ≡ acquired_state → (k : ℕ) → get_or r.states k 0 ≡ waiting_line → CloseApplies last year rs 39

-- the turn of each: "37 .., 36 .., 38 .., 39"
abbrev pub close_turn : ℕ → ℕ
close_turn c = cond (eqb c 37) 1 (cond (eqb c 36) 2 (cond (eqb c 38) 3 4))

-- none applies; one applies, and none that applies has an earlier turn
abbrev pub None : (ℕ → Type 0) → Type 0
None applies = (c : ℕ) → applies c → ⊥

abbrev pub FirstOf : (ℕ → Type 0) → ℕ → Type 0
FirstOf applies code = applies code × ((c : ℕ) → applies c → close_turn code ≤ close_turn c)

-- THE CODE of a close with the answer a
pub record Told (t code : List ℕ) (year : ℕ) (a : Result ℕ CloseRefusal) : Type 0 where
  -- "after 1 and 7": the table isn't valid; no body has this code
  pub invalid : Exactly (close_code a ≡ 1) (table_ok t ≡ false)
  pub unknown : Exactly (close_code a ≡ 7) ((table_ok t ≡ true) × (body_of t code ≡ Nothing))
  -- of body b of a valid table: the year is closed exactly when no refusal applies, and another code is given exactly when it is the first that does
  pub closed : table_ok t ≡ true → (b : ℕ) → body_of t code ≡ Some b
      → Exactly (close_code a ≡ 0) (None (CloseApplies (closed_of t (entry_of b)) year (records_of t (entry_of b))))
  pub refused : table_ok t ≡ true → (b : ℕ) → body_of t code ≡ Some b → (c : ℕ) → (c ≡ 0 → ⊥)
      → Exactly (close_code a ≡ c) (FirstOf (CloseApplies (closed_of t (entry_of b)) year (records_of t (entry_of b))) c)

abbrev pub CloseTold : Type 0
CloseTold = (t code : List ℕ) (year : ℕ) (a : Result ℕ CloseRefusal) (t' : List ℕ) → ClosePromise t code year a t' → Told t code year a

-- two answers of which all that holds have one code
abbrev pub OneCode : Type 0
OneCode = (t code : List ℕ) (year : ℕ) (a x : Result ℕ CloseRefusal) → Told t code year a → Told t code year x → close_code a ≡ close_code x
