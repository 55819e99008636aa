-- WHAT A TABLE SAYS (document 02, Req 12): "its lists are what the records say". And which tables the training room takes: "valid tables whose bodies have at most 32
-- slots", and "no closed table" (Req 14).
use Rattle.std.specs.Prelude.{ℕ, zero, suc, ◌+◌, Bool, true, ◌&&◌, List, [], ◌∷◌, eqb, leb}
use Rattle.slots.specs.Slots.{records_at}
use Rattle.entries.specs.Entry.{entry_size, code_at, slots_of, place_of, closed_of}
use Rattle.table.specs.Table.{head_size, bodies, abi_of}
use Rattle.training.specs.Training.{places}
use Rattle.plain.specs.Plain.{Listed, Plain}

-- a body of a table t by its entry at `at`
abbrev pub listed_at : List ℕ → ℕ → Listed
listed_at t at = record { code = code_at t at; slots = slots_of t at; orders = records_at t (place_of t at) (slots_of t at) }

-- the n bodies whose entries are from `at` on
unfoldable pub listed_from : List ℕ → ℕ → ℕ → List Listed
listed_from t at zero = []
listed_from t at (suc n) = listed_at t at ∷ listed_from t (at + entry_size) n

-- THE ROOM THAT A TABLE SAYS
abbrev pub plain_of : List ℕ → Plain
plain_of t = record { abi = abi_of t; bodies = listed_from t head_size (bodies t) }

-- a test holds of the n entries from `at` on
unfoldable pub each_entry : (ℕ → Bool) → ℕ → ℕ → Bool
each_entry test at zero = true
each_entry test at (suc n) = test at && each_entry test (at + entry_size) n

-- "tables whose bodies have at most 32 slots"
abbrev pub small : List ℕ → Bool
small t = each_entry (λ at. leb (slots_of t at) places) head_size (bodies t)

-- no body has closed a year
abbrev pub unclosed : List ℕ → Bool
unclosed t = each_entry (λ at. eqb (closed_of t at) 0) head_size (bodies t)
