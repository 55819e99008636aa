-- A VALID TABLE COMES OUT THE SAME, with nothing moved and nothing blanked; and so salvage twice is salvage once.
use Prim.Native.Nat.{ℕ, zero, suc, ◌+◌, ◌-◌, ◌*◌, ◌<◌}
use mathlib.Core.Bool.{Bool, true, false, cond}
use mathlib.Core.List.{List, [], ◌∷◌, ◌++◌}
use mathlib.Core.Path.{◌≡◌, refl, sym, ◌∙◌}
use native.Mathlib.Omega.{arith}
use lib.ListN.{length, take, drop, replicate, length-take}
use lib.Seq.{get_or-take, get_or-drop}
use lib.Dec.{eqb}
use Rattle.scan.specs.Bytes.{all}
use Rattle.words.specs.Numbers.{put, bytes8}
use Rattle.record.specs.declared.Record.{Record}
use Rattle.record.specs.Slot.{slot_size}
use Rattle.body.specs.Body.{cents_of}
use Rattle.entries.specs.Entry.{entry_size, entry_fixed, kept_bytes, place_of}
use Rattle.table.specs.Table.{table2, head_size, bodies, contents_ok, table_ok}
use Rattle.table.proofs.Laws.{valid_split}
use Rattle.table.proofs.Bodies.{body_at_lem}
use Rattle.table.proofs.Kept.{first, later}
use Rattle.service.specs.Service.{settled}
use Rattle.packing.specs.Packing as packing
use Rattle.keeping.specs.Keeping.{moved, blanked_from}
use Rattle.keeping.proofs.Repaired.{valid_kept, valid_moved, valid_blanked}
use Rattle.one_table.specs.One.{are_bytes, Matching}
use Rattle.one_table.proofs.Bytes.{small, bytes_each, bytes_append, bytes_8}
use Rattle.one_table.proofs.One.{one_table}
use Rattle.salvage.specs.Salvage.{keeps_of, kept_of, body_repaired, repaired_from, repaired, moved_in, blanked_in}
use Rattle.salvage.specs.Repaired.{Repairs, Unchanged}
use Rattle.salvage.proofs.All.{repairs}

-- A REPAIRED TABLE OF BYTES is one of bytes
bytes_take : (t : List ℕ) → are_bytes t ≡ true → (k : ℕ) → are_bytes (take k t) ≡ true
bytes_take t b k = bytes_each (take k t) (λ i h. omega (arith, get_or-take k t i 0 (omega (arith, length-take k t)), small t b i))

bytes_drop : (t : List ℕ) → are_bytes t ≡ true → (k : ℕ) → are_bytes (drop k t) ≡ true
bytes_drop t b k = bytes_each (drop k t) (λ i h. omega (arith, get_or-drop k t i 0, small t b (k + i)))

bytes_put : (t : List ℕ) (at : ℕ) (v : List ℕ) → are_bytes t ≡ true → are_bytes v ≡ true → are_bytes (put t at v) ≡ true
unfolding put
bytes_put t at v b c =
    bytes_append (take at t ++ v) (drop (at + length v) t) (bytes_append (take at t) v (bytes_take t b at) c) (bytes_drop t b (at + length v))

bytes_zero : (k : ℕ) → are_bytes (replicate k 0) ≡ true
unfolding all
bytes_zero zero = refl
bytes_zero (suc k) = bytes_zero k

bytes_kept : (t : List ℕ) → are_bytes t ≡ true → (at : ℕ) (fs : List ℕ) → are_bytes (packing.chosen_bytes t at fs) ≡ true
unfolding packing.chosen_bytes all
bytes_kept t b at [] = refl
bytes_kept t b at (f ∷ fs) = go (eqb f 1) (bytes_kept t b (at + slot_size) fs)
  where
    go : (x : Bool) → are_bytes (packing.chosen_bytes t (at + slot_size) fs) ≡ true
        → are_bytes (cond x (packing.slot_bytes t at) [] ++ packing.chosen_bytes t (at + slot_size) fs) ≡ true
    go true h = bytes_append (packing.slot_bytes t at) (packing.chosen_bytes t (at + slot_size) fs) (bytes_take (drop at t) (bytes_drop t b at) slot_size) h
    go false h = h

bytes_body : (t : List ℕ) → are_bytes t ≡ true → (at : ℕ) → are_bytes (body_repaired t at) ≡ true
unfolding body_repaired settled packing.packed kept_bytes
bytes_body t b at =
    let fs : List ℕ = keeps_of t at in
    let rs : List Record = kept_of t at in
    bytes_put _ (at + entry_fixed) (bytes8 (cents_of 1 rs) ++ bytes8 (cents_of 2 rs))
    (bytes_put t (place_of t at) _ b (bytes_append (packing.chosen_bytes t (place_of t at) fs) _ (bytes_kept t b (place_of t at) fs) (bytes_zero (slot_size * (length fs - packing.chosen_count fs)))))
    (bytes_append (bytes8 (cents_of 1 rs)) (bytes8 (cents_of 2 rs)) (bytes_8 (cents_of 1 rs)) (bytes_8 (cents_of 2 rs)))

pub bytes_repaired : (n : ℕ) (t : List ℕ) → are_bytes t ≡ true → (at : ℕ) → are_bytes (repaired_from t at n) ≡ true
unfolding repaired_from
bytes_repaired zero t b at = b
bytes_repaired (suc n) t b at = bytes_repaired n (body_repaired t at) (bytes_body t b at) (at + entry_size)

-- what holds of each body holds of all
all_still : (t : List ℕ) (at n : ℕ) → ((b : ℕ) → b < n → moved (keeps_of t (at + entry_size * b)) ≡ 0) → moved_in t at n ≡ replicate n 0
unfolding moved_in
all_still t at zero f = refl
all_still t at (suc n) f =
    let x = first (λ p. moved (keeps_of t p) ≡ 0) at n f in
    let y = all_still t (at + entry_size) n (later (λ p. moved (keeps_of t p) ≡ 0) at n f) in
    λ i. x i ∷ y i

all_left : (t : List ℕ) (at n : ℕ) → ((b : ℕ) → b < n → blanked_from t (place_of t (at + entry_size * b)) (keeps_of t (at + entry_size * b)) ≡ []) → blanked_in t at n ≡ []
unfolding blanked_in
all_left t at zero f = refl
all_left t at (suc n) f =
    let x = first (λ p. blanked_from t (place_of t p) (keeps_of t p) ≡ []) at n f in
    let y = all_left t (at + entry_size) n (later (λ p. blanked_from t (place_of t p) (keeps_of t p) ≡ []) at n f) in
    λ i. x i ++ y i

pub unchanged : (t : List ℕ) → are_bytes t ≡ true → table_ok t ≡ true → Unchanged t
unchanged t b ok = record {
  same = sym (one_table t (repaired t) b (bytes_repaired (bodies t) t b head_size) ok R.valid matching);
  none_moved = all_still t head_size (bodies t) (λ c h. valid_moved _ t _ _ (body_at_lem t ok c h).inside (body_at_lem t ok c h).holds.body (body_at_lem t ok c h).holds.later);
  none_blanked = all_left t head_size (bodies t) (λ c h. valid_blanked _ t _ _ (body_at_lem t ok c h).inside (body_at_lem t ok c h).holds.body (body_at_lem t ok c h).holds.later);
}
  where
    R : Repairs t (repaired t)
    R = repairs t (valid_split table2 t ok).0

    matching : Matching t (repaired t)
    matching = record {
      bank = sym R.bank;
      codes = sym R.codes;
      slots = λ c h. sym (R.slots c h);
      records = λ c h. sym (R.records c h ∙ valid_kept _ t _ _ (body_at_lem t ok c h).inside (body_at_lem t ok c h).holds.body (body_at_lem t ok c h).holds.later);
      closed = λ c h. sym (R.closed c h);
    }

pub once : (t : List ℕ) → are_bytes t ≡ true → contents_ok table2 t ≡ true → Unchanged (repaired t)
once t b ok = unchanged (repaired t) (bytes_repaired (bodies t) t b head_size) (repairs t ok).valid
