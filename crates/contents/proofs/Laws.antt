-- Laws of the bytes that are written, part by part.
use mathlib.Core.Path.{◌≡◌, refl, sym, ap, ◌∙◌}
use mathlib.Core.List.{List, [], ◌∷◌, ◌++◌}
use Prim.Native.Nat.{ℕ, zero, suc, ◌+◌, ◌-◌, ◌*◌, ◌≤◌}
use native.Mathlib.Omega.{arith}
use lib.ListN.{length, drop, replicate, length-append, length-drop}
use lib.Seq.{length-take-le}
use Rattle.scan.specs.Bytes.{part}
use Rattle.words.specs.Numbers.{put, bytes2, bytes4}
use Rattle.words.proofs.Laws.{put_put, put_nil}
use Rattle.bounds.specs.Bounds.{abi_length}
use Rattle.record.specs.Slot.{slot_size}
use Rattle.entries.specs.Entry.{entry_size, request_size, slots_of, kept_bytes}
use Rattle.entries.proofs.Laws.{times, put_next}
use Rattle.table.specs.Table.{head_size}
use Rattle.contents.specs.Contents.{head_bytes, entry_bytes, entries_bytes}

pub length_part : (q : List ℕ) (a n : ℕ) → a + n ≤ length q → length (part q a (a + n)) ≡ n
length_part q a n h = length-take-le (a + n - a) (drop a q) (omega (arith, length-drop a q)) ∙ omega arith

pub length_head : (n len : ℕ) (abi : List ℕ) → length abi ≡ abi_length → length (head_bytes n len abi) ≡ head_size
unfolding head_bytes
length_head n len abi h = simp length-append (omega arith)

pub length_kept : (paid collected : ℕ) → length (kept_bytes paid collected) ≡ 16
unfolding kept_bytes
length_kept paid collected = refl

pub length_entry : (form : List ℕ) (p paid collected : ℕ) → length form ≡ request_size → length (entry_bytes form p paid collected) ≡ entry_size
unfolding entry_bytes
length_entry form p paid collected h = simp length-append (omega (arith, length_kept paid collected))

-- the head, part by part
pub head_by : (s t₁ t₂ t₃ t₄ t₅ : List ℕ) (n len : ℕ) (abi : List ℕ) → length abi ≡ abi_length
    → t₁ ≡ put s 0 (bytes2 n) → t₂ ≡ put t₁ 2 (bytes2 2) → t₃ ≡ put t₂ 4 (bytes4 len) → t₄ ≡ put t₃ 8 abi
    → t₅ ≡ put t₄ 13 (0 ∷ 0 ∷ 0 ∷ []) → t₅ ≡ put s 0 (head_bytes n len abi)
unfolding head_bytes
head_by s t₁ t₂ t₃ t₄ t₅ n len abi h e₁ e₂ e₃ e₄ e₅ =
    let a = put_next s 0 (bytes2 n) (bytes2 2) 2 (omega arith) refl e₁ e₂ in
    let b = put_next s 0 (bytes2 n ++ bytes2 2) (bytes4 len) 4 (omega arith) refl a e₃ in
    let c = put_next s 0 (bytes2 n ++ bytes2 2 ++ bytes4 len) abi 8 (omega arith) refl b e₄ in
    let l = length-append (bytes2 n ++ bytes2 2 ++ bytes4 len) abi in
    put_next s 0 (bytes2 n ++ bytes2 2 ++ bytes4 len ++ abi) (0 ∷ 0 ∷ 0 ∷ []) 13 (omega arith) (omega arith) c e₅

-- an entry, part by part
pub entry_by : (s t₁ t₂ t₃ t₄ : List ℕ) (to : ℕ) (form : List ℕ) (p paid collected : ℕ) → length form ≡ request_size → to ≤ length s
    → t₁ ≡ put s to form → t₂ ≡ put t₁ (to + 20) (bytes4 p) → t₃ ≡ put t₂ (to + 24) (kept_bytes paid collected) → t₄ ≡ put t₃ (to + 40) (replicate 8 0)
    → t₄ ≡ put s to (entry_bytes form p paid collected)
unfolding entry_bytes
entry_by s t₁ t₂ t₃ t₄ to form p paid collected h k e₁ e₂ e₃ e₄ =
    let a = put_next s to form (bytes4 p) (to + 20) k (omega arith) e₁ e₂ in
    let l = length-append form (bytes4 p) in
    let b = put_next s to (form ++ bytes4 p) (kept_bytes paid collected) (to + 24) k (omega arith) a e₃ in
    let m = length-append (form ++ bytes4 p) (kept_bytes paid collected) in
    put_next s to (form ++ bytes4 p ++ kept_bytes paid collected) (replicate 8 0) (to + 40) k (omega (arith, length_kept paid collected)) b e₄

-- ENTRIES written from s, one at a time
module _ (size : ℕ) (cents : ℕ → ℕ → ℕ) (s : List ℕ) (wide : request_size ≤ size) where
  pub length_entries : (at n p : ℕ) → at + size * n ≤ length s → length (entries_bytes size cents s at n p) ≡ entry_size * n
  unfolding entries_bytes
  length_entries at zero p h = refl
  length_entries at (suc n) p h =
      let w = times size (suc n) n refl in
      length-append (entry_bytes (part s at (at + request_size)) p (cents 1 at) (cents 2 at)) (entries_bytes size cents s (at + size) n (p + slot_size * slots_of s at))
      ∙ omega (
        arith,
        length_entry (part s at (at + request_size)) p (cents 1 at) (cents 2 at) (length_part s at request_size (omega arith)),
        length_entries (at + size) n (p + slot_size * slots_of s at) (omega arith),
      )

  -- the first of k = m + 1 entries is written, and the rest is still to be
  pub entries_more : (u t : List ℕ) (to at k m p : ℕ) → k ≡ suc m → at + request_size ≤ length s → to ≤ length u
      → t ≡ put u to (entry_bytes (part s at (at + request_size)) p (cents 1 at) (cents 2 at))
      → put u to (entries_bytes size cents s at k p) ≡ put t (to + entry_size) (entries_bytes size cents s (at + size) m (p + slot_size * slots_of s at))
  unfolding entries_bytes
  entries_more u t to at k m p e h b f =
      let first = entry_bytes (part s at (at + request_size)) p (cents 1 at) (cents 2 at) in
      let r = entries_bytes size cents s (at + size) m (p + slot_size * slots_of s at) in
      let l = length_entry (part s at (at + request_size)) p (cents 1 at) (cents 2 at) (length_part s at request_size h) in
      rw e (sym (put_put u to first r (to + entry_size) b (omega arith)) ∙ ap (λ (x : List ℕ). put x (to + entry_size) r) (sym f))

  pub entries_done : (t : List ℕ) (to at k p : ℕ) → k ≤ 0 → put t to (entries_bytes size cents s at k p) ≡ t
  unfolding entries_bytes
  entries_done t to at k p h = let e : k ≡ 0 = omega arith in rw e (put_nil t to)
