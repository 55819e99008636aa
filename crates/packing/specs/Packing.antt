-- A body's slots packed by flags, one flag for each slot: 1 keeps it (document 02, Req 13: "moves the kept ones up in order"; Req 14: "the
-- rest move up").
use Rattle.std.specs.Prelude.{ℕ, suc, ◌+◌, ◌-◌, ◌*◌, Bool, cond, List, [], ◌∷◌, ◌++◌, length, take, drop, replicate, eqb}
use Rattle.words.specs.Numbers.{put}
use Rattle.record.specs.Slot.{slot_size}

-- how many the flags keep
unfoldable pub chosen_count : List ℕ → ℕ
chosen_count [] = 0
chosen_count (f ∷ fs) = cond (eqb f 1) (suc (chosen_count fs)) (chosen_count fs)

-- the elements that the flags keep, in order
unfoldable pub chosen : {A : Type 0} → List A → List ℕ → List A
chosen xs [] = []
chosen [] (f ∷ fs) = []
chosen (x ∷ xs) (f ∷ fs) = cond (eqb f 1) (x ∷ []) [] ++ chosen xs fs

-- the bytes of the slot at a place
abbrev pub slot_bytes : List ℕ → ℕ → List ℕ
slot_bytes t at = take slot_size (drop at t)

-- the bytes of the slots from `at` on that the flags keep, in order
unfoldable pub chosen_bytes : List ℕ → ℕ → List ℕ → List ℕ
chosen_bytes t at [] = []
chosen_bytes t at (f ∷ fs) = cond (eqb f 1) (slot_bytes t at) [] ++ chosen_bytes t (at + slot_size) fs

-- the table with these slots moved up to the body's first place, zeros after them to the body's end, and every other byte as it was
unfoldable pub packed : List ℕ → ℕ → List ℕ → List ℕ
packed t base fs = put t base (chosen_bytes t base fs ++ replicate (slot_size * (length fs - chosen_count fs)) 0)

-- a slot's flag
abbrev pub flag : Bool → ℕ
flag b = cond b 1 0
