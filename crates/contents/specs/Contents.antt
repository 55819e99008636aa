-- The contents of a table as they are written (document 01, "The table", with document 02, Req 04): "Contents first, then the bodies' records."
use Rattle.std.specs.Prelude.{ℕ, zero, suc, ◌+◌, ◌*◌, List, [], ◌∷◌, ◌++◌, replicate}
use Rattle.scan.specs.Bytes.{part}
use Rattle.words.specs.Numbers.{bytes2, bytes4}
use Rattle.record.specs.Slot.{slot_size}
use Rattle.entries.specs.Entry.{request_size, slots_of, kept_bytes}
use Rattle.table.specs.Table.{table2}

-- the head of a table of n bodies: "0-1 number of bodies; 2-3 the number; 4-7 total length; 8-12 the bank's five ABI digits in ASCII; rest zero"
unfoldable pub head_bytes : ℕ → ℕ → List ℕ → List ℕ
head_bytes n len abi = bytes2 n ++ bytes2 table2.number ++ bytes4 len ++ abi ++ 0 ∷ 0 ∷ 0 ∷ []

-- an entry: its bytes 0 to 19, the place p of its first slot, "cents paid at 24-31, cents collected at 32-39, rest zero"; so no year is closed (Req 14: "0
-- before the first close")
unfoldable pub entry_bytes : List ℕ → ℕ → ℕ → ℕ → List ℕ
entry_bytes form p paid collected = form ++ bytes4 p ++ kept_bytes paid collected ++ replicate 8 0

-- the entries of n bodies, the first one's slots at p and every later one's after those of the one before. What they are written from stands in s:
-- each one's bytes 0 to 19 from `at` on, `size` after the one before, and the cents of a kind by the place of these
unfoldable pub entries_bytes : ℕ → (ℕ → ℕ → ℕ) → List ℕ → ℕ → ℕ → ℕ → List ℕ
entries_bytes size cents s at zero p = []
entries_bytes size cents s at (suc n) p =
    entry_bytes (part s at (at + request_size)) p (cents 1 at) (cents 2 at)
    ++ entries_bytes size cents s (at + size) n (p + slot_size * slots_of s at)
