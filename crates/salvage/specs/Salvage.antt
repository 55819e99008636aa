-- Salvage of a damaged table (document 02, Req 13): "A repair needs a valid head and entries but for the kept totals. Slot by slot, it keeps a record that is
-- valid by itself and whose key hasn't been kept earlier in that body, blanks the others, moves the kept ones up in order and sets the totals anew." Req 14: "a
-- valid table holds no record of that or an earlier year, and salvage blanks such records".
use Rattle.std.specs.Prelude.{ℕ, zero, suc, ◌+◌, ◌≡◌, cond, List, [], ◌∷◌, ◌++◌, length, leb, Result, Ok, Err}
use Rattle.words.specs.Numbers.{put, bytes2, bytes4}
use Rattle.record.specs.declared.Record.{Record}
use Rattle.entries.specs.Entry.{entry_size, slots_of, place_of, closed_of}
use Rattle.table.specs.Table.{table2, head_size, bodies, contents_ok}
use Rattle.service.specs.Service.{settled}
use Rattle.packing.specs.Packing.{packed}
use Rattle.keeping.specs.Keeping.{keeps_at, kept_at, blanked_from, moved, each_bytes}
use Rattle.salvage.specs.declared.SalvageRefusal.{SalvageRefusal}
use Rattle.salvage.specs.declared.SalvageRefusal.TheVariants.{InvalidContents, ShortReport}
use Rattle.salvage.specs.declared.SalvageReply.{SalvageReply}

-- OF THE BODY whose entry is at `at`: the flags of its slots, 1 for a kept one, and the records that are kept
abbrev pub keeps_of : List ℕ → ℕ → List ℕ
keeps_of t at = keeps_at (closed_of t at) t (place_of t at) (slots_of t at)

abbrev pub kept_of : List ℕ → ℕ → List Record
kept_of t at = kept_at (closed_of t at) t (place_of t at) (slots_of t at)

-- THE REPAIRED TABLE

-- one body repaired: its kept slots moved up, zeros after them, and the totals of the kept records in its entry
unfoldable pub body_repaired : List ℕ → ℕ → List ℕ
body_repaired t at = settled (packed t (place_of t at) (keeps_of t at)) at (kept_of t at)

-- the bodies of the n entries from `at` on, one after the other
unfoldable pub repaired_from : List ℕ → ℕ → ℕ → List ℕ
repaired_from t at zero = t
repaired_from t at (suc n) = repaired_from (body_repaired t at) (at + entry_size) n

abbrev pub repaired : List ℕ → List ℕ
repaired t = repaired_from t head_size (bodies t)

-- THE REPORT: "each body's count of moved records (two bytes), then the old place of each blanked slot (four bytes), in table order"

unfoldable pub moved_in : List ℕ → ℕ → ℕ → List ℕ
moved_in t at zero = []
moved_in t at (suc n) = moved (keeps_of t at) ∷ moved_in t (at + entry_size) n

unfoldable pub blanked_in : List ℕ → ℕ → ℕ → List ℕ
blanked_in t at zero = []
blanked_in t at (suc n) = blanked_from t (place_of t at) (keeps_of t at) ++ blanked_in t (at + entry_size) n

abbrev pub blanked : List ℕ → List ℕ
blanked t = blanked_in t head_size (bodies t)

unfoldable pub report_of : List ℕ → List ℕ
report_of t = each_bytes bytes2 (moved_in t head_size (bodies t)) ++ each_bytes bytes4 (blanked t)

-- THE ANSWER for a table and a report of m bytes: "34 head or entries not valid, 35 report doesn't fit"
unfoldable pub salvage_of : List ℕ → ℕ → Result ℕ SalvageRefusal
salvage_of t m = cond (contents_ok table2 t) (cond (leb (length (report_of t)) m) (Ok (length (blanked t))) (Err ShortReport)) (Err InvalidContents)

-- "both leave table and report unchanged"; "bytes past it stay"
abbrev pub salvage_table : Result ℕ SalvageRefusal → List ℕ → List ℕ
salvage_table (Ok k) t = repaired t
salvage_table (Err InvalidContents) t = t
salvage_table (Err ShortReport) t = t

abbrev pub salvage_report : Result ℕ SalvageRefusal → List ℕ → List ℕ → List ℕ
salvage_report (Ok k) t r = put r 0 (report_of t)
salvage_report (Err InvalidContents) t r = r
salvage_report (Err ShortReport) t r = r

-- THE PROMISE of salvage, of the table t and the report's buffer r
abbrev pub SalvagePromise : List ℕ → List ℕ → Result ℕ SalvageRefusal → List ℕ → List ℕ → Type 0
SalvagePromise t r a t' r' = (a ≡ salvage_of t (length r)) × (t' ≡ salvage_table a t) × (r' ≡ salvage_report a t r)

-- DOCUMENT 02'S NUMBERS: "The answer has code and number blanked, 0 on refusal"
abbrev pub salvage_reply : Result ℕ SalvageRefusal → SalvageReply
salvage_reply (Ok k) = record { code = 0; blanked = k }
salvage_reply (Err InvalidContents) = record { code = 34; blanked = 0 }
salvage_reply (Err ShortReport) = record { code = 35; blanked = 0 }

-- the promise in these numbers
abbrev pub SalvageReplies : List ℕ → List ℕ → ℕ → ℕ → List ℕ → List ℕ → Type 0
SalvageReplies t r n k t' r' =
    (a : Result ℕ SalvageRefusal) × SalvagePromise t r a t' r' × (n ≡ (salvage_reply a).code) × (k ≡ (salvage_reply a).blanked)
