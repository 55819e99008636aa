-- Checking the bank's cash journal (document 02, Req 10): "Given a body and the movements taken from one .., accept exactly when every executed line of
-- that body is listed once, with its cents, and nothing else is listed. Order is free. The answer is a code; the table isn't changed."
use Rattle.std.specs.Prelude.{ℕ, zero, suc, ◌+◌, ◌/◌, ◌%◌, ◌≡◌, Bool, true, false, ◌&&◌, ◌||◌, cond, List, [], ◌∷◌, ◌++◌, length, get_or, eqb, leb, Result, Ok, Err}
use Rattle.words.specs.Numbers.{be2, be4, be8}
use Rattle.record.specs.Slot.{executed_line}
use Rattle.record.specs.declared.Record.{Record}
use Rattle.slots.specs.Slots.{records_at}
use Rattle.address.specs.declared.NoBody.{NoBody}
use Rattle.address.specs.declared.NoBody.TheVariants.{Invalid, Unknown}
use Rattle.address.specs.Address.{addressed}
use Rattle.journal.specs.declared.Movement.{Movement}

-- THE MOVEMENTS: "16 bytes each: kind, line, esercizio in two, number in four, cents in eight"
abbrev pub movement_size : ℕ
movement_size = 16

unfoldable pub movement_at : List ℕ → ℕ → Movement
movement_at s at = record { kind = get_or s at 0; line = get_or s (at + 1) 0; esercizio = be2 s (at + 2); number = be4 s (at + 4); cents = be8 s (at + 8) }

-- the n movements from `at` on
unfoldable pub movements_at : List ℕ → ℕ → ℕ → List Movement
movements_at s at zero = []
movements_at s at (suc n) = movement_at s at ∷ movements_at s (at + movement_size) n

abbrev pub movements_in : List ℕ → List Movement
movements_in s = movements_at s 0 (length s / movement_size)

-- "29 over 4,096 or not whole movements": these bytes are neither
abbrev pub max_movements : ℕ
max_movements = 4096

unfoldable pub whole_movements : List ℕ → Bool
whole_movements s = eqb (length s % movement_size) 0 && leb (length s / movement_size) max_movements

-- "EVERY EXECUTED LINE OF THAT BODY", as the movement that lists it "with its cents": of a record's line with this number and amount
abbrev pub movement_of : Record → ℕ → ℕ → Movement
movement_of r line cents = record { kind = r.kind; line = line; esercizio = r.esercizio; number = r.number; cents = cents }

-- the executed ones among a record's lines, which are numbered from `line` on
unfoldable pub executed_from : Record → ℕ → List ℕ → List ℕ → List Movement
executed_from r line [] amounts = []
executed_from r line (s ∷ states) [] = []
executed_from r line (s ∷ states) (a ∷ amounts) =
    cond (eqb s executed_line) (movement_of r line a ∷ executed_from r (line + 1) states amounts) (executed_from r (line + 1) states amounts)

abbrev pub executed_of : Record → List Movement
executed_of r = executed_from r 1 r.states r.amounts

unfoldable pub executed_lines : List Record → List Movement
executed_lines [] = []
executed_lines (r ∷ rs) = executed_of r ++ executed_lines rs

-- TWO MOVEMENTS name the same line; and list the same cents of it
unfoldable pub same_line : Movement → Movement → Bool
same_line m x = eqb m.kind x.kind && (eqb m.line x.line && (eqb m.esercizio x.esercizio && eqb m.number x.number))

abbrev pub same_movement : Movement → Movement → Bool
same_movement m x = same_line m x && eqb m.cents x.cents

-- p holds of one of them; of all
unfoldable pub any_of : (Movement → Bool) → List Movement → Bool
any_of p [] = false
any_of p (x ∷ xs) = p x || any_of p xs

unfoldable pub all_of : (Movement → Bool) → List Movement → Bool
all_of p [] = true
all_of p (x ∷ xs) = p x && all_of p xs

-- THE CODES, where E are the body's executed lines: of a movement after those listed before it, "30 no such executed line, 31 other cents, 32 listed before"
unfoldable pub movement_code : List Movement → List Movement → Movement → ℕ
movement_code E before m = cond (any_of (same_line m) E) (cond (any_of (same_movement m) E) (cond (any_of (same_line m) before) 32 0) 31) 30

-- "then 33 an executed line is missing"
unfoldable pub missing_code : List Movement → List Movement → ℕ
missing_code E listed = cond (all_of (λ e. any_of (same_line e) listed) E) 0 33

-- "one by one": a movement's code, or where it is 0 what comes after
abbrev pub code_then : ℕ → ℕ → ℕ
code_then zero next = next
code_then (suc c) next = suc c

unfoldable pub journal_code : List Movement → List Movement → List Movement → ℕ
journal_code E before [] = missing_code E before
journal_code E before (m ∷ ms) = code_then (movement_code E before m) (journal_code E (before ++ m ∷ []) ms)

-- of a body's records
unfoldable pub checked : List Record → List ℕ → ℕ
checked rs s = cond (whole_movements s) (journal_code (executed_lines rs) [] (movements_in s)) 29

-- "Refusals after 1 and 7"
abbrev pub journal_by : List ℕ → List ℕ → Result (ℕ × ℕ × ℕ) NoBody → ℕ
journal_by t s (Err Invalid) = 1
journal_by t s (Err Unknown) = 7
journal_by t s (Ok (e, base, n)) = checked (records_at t base n) s

unfoldable pub journal_of : List ℕ → List ℕ → List ℕ → ℕ
journal_of t code s = journal_by t s (addressed t code)

-- THE PROMISE of a journal's call: for the body with this code, of these movements' bytes. The table is lent to read only
abbrev pub JournalPromise : List ℕ → List ℕ → List ℕ → ℕ → Type 0
JournalPromise t code s c = c ≡ journal_of t code s
