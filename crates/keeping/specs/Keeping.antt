-- One body under repair (document 02, Req 13): "Slot by slot, it keeps a record that is valid by itself and whose key hasn't been kept earlier in that body,
-- blanks the others, moves the kept ones up in order"; and what the report says of it. Req 14: "a valid table holds no record of that or an earlier year, and
-- salvage blanks such records": `closed` is the body's last closed year, 0 before the first.
use Rattle.std.specs.Prelude.{ℕ, zero, suc, ◌+◌, Bool, ◌&&◌, not, cond, List, [], ◌∷◌, ◌++◌, eqb, ltb}
use Rattle.record.specs.declared.Record.{Record}
use Rattle.record.specs.Slot.{slot_size, record_at, key_of}
use Rattle.ranges.specs.Ranges.{zeros, is_nothing}
use Rattle.slots.specs.Slots.{slots_at, find_in}
use Rattle.body.specs.Body.{slot_ok}
use Rattle.packing.specs.Packing.{chosen, flag}

-- WHAT IS KEPT

-- the slot is kept, after the records `seen` were
unfoldable pub keeps : ℕ → List ℕ → ℕ → List Record → Bool
keeps closed t at seen = slot_ok t at && (ltb closed (record_at t at).esercizio && is_nothing (find_in seen 0 (key_of (record_at t at))))

-- the flags of the n slots from `at` on, 1 for a kept one, after the records `seen` were kept
unfoldable pub keeps_from : ℕ → List ℕ → ℕ → ℕ → List Record → List ℕ
keeps_from closed t at zero seen = []
keeps_from closed t at (suc n) seen =
    flag (keeps closed t at seen) ∷ keeps_from closed t (at + slot_size) n (seen ++ cond (keeps closed t at seen) (record_at t at ∷ []) [])

-- the flags of a body's n slots
abbrev pub keeps_at : ℕ → List ℕ → ℕ → ℕ → List ℕ
keeps_at closed t base n = keeps_from closed t base n []

-- the records that are kept, in order
abbrev pub kept_at : ℕ → List ℕ → ℕ → ℕ → List Record
kept_at closed t base n = chosen (slots_at t base n) (keeps_at closed t base n)

-- WHAT IS REPORTED

-- "A slot already all zero isn't blanked": any other that isn't kept is
unfoldable pub blanks : List ℕ → ℕ → ℕ → Bool
blanks t at f = not (eqb f 1) && not (zeros t at (at + slot_size))

-- "the old place of each blanked slot", of the slots from `at` on with these flags
unfoldable pub blanked_from : List ℕ → ℕ → List ℕ → List ℕ
blanked_from t at [] = []
blanked_from t at (f ∷ fs) = cond (blanks t at f) (at ∷ []) [] ++ blanked_from t (at + slot_size) fs

-- "count of moved records": those kept that come to stand in another slot. The first flag is slot i's, and its record, if kept, comes to slot `to`
unfoldable pub moved_from : ℕ → ℕ → List ℕ → ℕ
moved_from i to [] = 0
moved_from i to (f ∷ fs) = cond (eqb f 1) (flag (not (eqb i to)) + moved_from (i + 1) (to + 1) fs) (moved_from (i + 1) to fs)

abbrev pub moved : List ℕ → ℕ
moved fs = moved_from 0 0 fs

-- numbers written one after the other, each by its bytes
unfoldable pub each_bytes : (ℕ → List ℕ) → List ℕ → List ℕ
each_bytes bytes [] = []
each_bytes bytes (v ∷ vs) = bytes v ++ each_bytes bytes vs
