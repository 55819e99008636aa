-- WHAT LATER CALLS ANSWER FOR A CLOSED YEAR (document 02, Req 14): "a valid table holds no record of that or an earlier year", so such an order isn't there.
-- Proved: `afterwards : Afterwards`.
use Rattle.std.specs.Prelude.{ℕ, ◌+◌, ◌*◌, ◌≤◌, ◌<◌, ◌≡◌, Bool, true, length, Result, Some, Ok}
use mathlib.Core.List.{List, ◌∷◌, ◌++◌, Memᴰ}
use Rattle.bounds.specs.Bounds.{max_flow}
use Rattle.scan.specs.Bytes.{text_is}
use Rattle.calendar.specs.declared.Date.{Date}
use Rattle.target_days.specs.Target.{target_code}
use Rattle.record.specs.declared.Record.{Record}
use Rattle.record.specs.declared.Key.{Key}
use Rattle.record.specs.Slot.{slot_size, record_at}
use Rattle.body.specs.Body.{slot_ok}
use Rattle.entries.specs.Entry.{closed_of, slots_of, place_of}
use Rattle.table.specs.Table.{table2, bodies, abi_of, records_of, contents_ok, table_ok, body_of, entry_of}
use Rattle.editions.specs.declared.Edition.{Edition}
use Rattle.editions.specs.Editions.{edition_of}
use Rattle.flow.specs.Flow.{verdict_of, header_of}
use Rattle.replacing.specs.declared.Naming.{Naming}
use Rattle.replacing.specs.Replacing.{named_code}
use Rattle.notices.specs.declared.NoticeRefusal.{NoticeRefusal}
use Rattle.notices.specs.Notices.{notice_code_of, NoticePromise}
use Rattle.journal.specs.declared.Movement.{Movement}
use Rattle.journal.specs.Journal.{movements_in, whole_movements, executed_lines, JournalPromise}
use Rattle.journal.specs.Told.{NoneOf, Right}
use Rattle.desk.specs.declared.FlowRefusal.{FlowRefusal}
use Rattle.desk.specs.Desk.{FlowPromise, flow_code}
use Rattle.salvage.specs.Salvage.{kept_of, blanked}
use Rattle.year_end.specs.declared.CloseRefusal.{CloseRefusal}
use Rattle.year_end.specs.YearEnd.{ClosePromise, close_code}

-- a year that body b of a table has closed, or an earlier one
abbrev pub IsClosed : List ℕ → ℕ → ℕ → Type 0
IsClosed t b year = year ≤ closed_of t (entry_of b)

pub record Afterwards : Type 0 where
  -- "a valid table holds no record of that or an earlier year"
  pub none_closed : (t : List ℕ) → table_ok t ≡ true → (b : ℕ) → b < bodies t → (r : Record) → Memᴰ r (records_of t (entry_of b)) → closed_of t (entry_of b) < r.esercizio
  -- "16 (no such order)": a notice for an order of such a year, on a TARGET day, changes nothing
  pub notice_closed : (t : List ℕ) → table_ok t ≡ true → (code : List ℕ) (b : ℕ) → body_of t code ≡ Some b
      → (executing : Bool) (k : Key) (line : ℕ) (d : Date) → target_code d ≡ 0 → IsClosed t b k.esercizio
      → (a : Result ℕ NoticeRefusal) (t' : List ℕ) → NoticePromise t executing code k line d a t' → (notice_code_of a ≡ 16) × (t' ≡ t)
  -- "24 named line absent": a replacement line that names a line of such a year
  pub named_closed : (t : List ℕ) → table_ok t ≡ true → (b : ℕ) → b < bodies t → (m : Naming) → IsClosed t b m.key.esercizio → named_code (records_of t (entry_of b)) m ≡ 24
  -- "30 no such executed line": a movement of such a year, after others that are right
  pub no_line_closed : (t : List ℕ) → table_ok t ≡ true → (b : ℕ) → b < bodies t → (m : Movement) → IsClosed t b m.esercizio
      → NoneOf m (executed_lines (records_of t (entry_of b)))
  pub listed_closed : (t : List ℕ) → table_ok t ≡ true → (code : List ℕ) (b : ℕ) → body_of t code ≡ Some b → (s : List ℕ) → whole_movements s ≡ true
      → (before : List Movement) (m : Movement) (after : List Movement) → movements_in s ≡ before ++ m ∷ after
      → Right (executed_lines (records_of t (entry_of b))) before → IsClosed t b m.esercizio
      → (c : ℕ) → JournalPromise t code s c → c ≡ 30
  -- "A flow for a closed or earlier year is refused. .. 36 year closed, after 7": one that stands, for a body of the table, whatever outcome buffer it lends
  pub flow_closed : (t : List ℕ) → table_ok t ≡ true → (ed : ℕ) (e : Edition) → edition_of ed ≡ Some e → (f : List ℕ) → length f ≤ max_flow
      → (at : ℕ) → verdict_of e f ≡ Ok at → text_is (abi_of t) (header_of e f at).abi ≡ true → (b : ℕ) → body_of t (header_of e f at).ente ≡ Some b
      → IsClosed t b (header_of e f at).esercizio
      → (out : List ℕ) (a : Result (ℕ × ℕ × ℕ) FlowRefusal) (t' out' : List ℕ) → FlowPromise t ed f out a t' out' → (flow_code a ≡ 36) × (t' ≡ t) × (out' ≡ out)
  -- "36 not later than the last one closed": a close of such a year, from 2000 on, changes nothing; so of one that was closed just before
  pub close_closed : (t : List ℕ) → table_ok t ≡ true → (code : List ℕ) (b : ℕ) → body_of t code ≡ Some b → (year : ℕ) → 2000 ≤ year → IsClosed t b year
      → (a : Result ℕ CloseRefusal) (t' : List ℕ) → ClosePromise t code year a t' → (close_code a ≡ 36) × (t' ≡ t)
  pub again : (t code : List ℕ) (year : ℕ) (a : Result ℕ CloseRefusal) (t' : List ℕ) → ClosePromise t code year a t' → close_code a ≡ 0
      → (y : ℕ) → 2000 ≤ y → y ≤ year → (x : Result ℕ CloseRefusal) (t'' : List ℕ) → ClosePromise t' code y x t'' → (close_code x ≡ 36) × (t'' ≡ t')
  -- "salvage blanks such records": none of them is kept, and a slot that is valid by itself is reported by its place
  pub none_kept : (t : List ℕ) → contents_ok table2 t ≡ true → (b : ℕ) → b < bodies t → (r : Record) → Memᴰ r (kept_of t (entry_of b)) → closed_of t (entry_of b) < r.esercizio
  pub blanked_closed : (t : List ℕ) → contents_ok table2 t ≡ true → (b : ℕ) → b < bodies t → (i : ℕ) → i < slots_of t (entry_of b)
      → slot_ok t (place_of t (entry_of b) + slot_size * i) ≡ true → IsClosed t b (record_at t (place_of t (entry_of b) + slot_size * i)).esercizio
      → Memᴰ (place_of t (entry_of b) + slot_size * i) (blanked t)
