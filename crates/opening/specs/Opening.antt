-- Opening a table (document 01, "The table": "Opening takes five ABI digits followed by 20 bytes per body (an entry's bytes 0 to 19) and a buffer of
-- exactly the needed length, and fills it, every slot empty; its answer is a code").
use Rattle.std.specs.Prelude.{ℕ, ◌+◌, ◌*◌, ◌≡◌, cond, List, ◌++◌, length, replicate, eqb, Result, Ok, Err}
use Rattle.scan.specs.Bytes.{part}
use Rattle.record.specs.Slot.{slot_size}
use Rattle.entries.specs.Entry.{entry_size, request_size}
use Rattle.table.specs.Table.{head_size}
use Rattle.contents.specs.Contents.{head_bytes, entries_bytes}
use Rattle.request.specs.Request.{first_body, asked, slots_asked, needed, request_ok}
use Rattle.opening.specs.declared.OpenRefusal.{OpenRefusal}
use Rattle.opening.specs.declared.OpenRefusal.TheVariants.{WrongRequest, WrongLength}

-- no cents are paid or collected yet
abbrev pub no_cents : ℕ → ℕ → ℕ
no_cents kind at = 0

-- every byte of the opened table: head, entries, and all slots empty
unfoldable pub opened : List ℕ → List ℕ
opened q =
    head_bytes (asked q) (needed q) (part q 0 first_body) ++ entries_bytes request_size no_cents q first_body (asked q) (head_size + entry_size * asked q)
    ++ replicate (slot_size * slots_asked q) 0

-- what opening answers for a request and a buffer of n bytes
unfoldable pub open_of : List ℕ → ℕ → Result Unit OpenRefusal
open_of q n = cond (request_ok q) (cond (eqb n (needed q)) (Ok tt) (Err WrongLength)) (Err WrongRequest)

-- document 01's code
abbrev pub open_code : Result Unit OpenRefusal → ℕ
open_code (Ok tt) = 0
open_code (Err WrongRequest) = 9
open_code (Err WrongLength) = 10

-- the buffer afterwards: filled, or as it was
abbrev pub open_table : Result Unit OpenRefusal → List ℕ → List ℕ → List ℕ
open_table (Ok tt) q t = opened q
open_table (Err WrongRequest) q t = t
open_table (Err WrongLength) q t = t

-- THE PROMISE of opening, of the request q and the lent buffer t
abbrev pub OpenPromise : List ℕ → List ℕ → Result Unit OpenRefusal → List ℕ → Type 0
OpenPromise q t a t' = (a ≡ open_of q (length t)) × (t' ≡ open_table a q t)

-- the promise in document 01's number
abbrev pub OpenReplies : List ℕ → List ℕ → ℕ → List ℕ → Type 0
OpenReplies q t n t' = (a : Result Unit OpenRefusal) × OpenPromise q t a t' × (n ≡ open_code a)
