-- A CLOSE GOES BY ITS BODY ALONE: on two tables with the same bytes in the body's slots and in its entry's own bytes it answers the same, and leaves the same there.
use Rattle.std.specs.Prelude.{Result, Ok, Err}
use Prim.Native.Nat.{ℕ, ◌+◌, ◌-◌, ◌*◌, ◌≤◌}
use mathlib.Core.Path.{◌≡◌, refl, sym, ap, ◌∙◌}
use mathlib.Core.Bool.{cond}
use mathlib.Core.List.{List, [], ◌∷◌, ◌++◌}
use native.Mathlib.Omega.{arith}
use lib.ListN.{length, length-append, replicate}
use lib.Dec.{eqb}
use Rattle.words.specs.Numbers.{put, bytes2, bytes8}
use Rattle.words.proofs.Laws.{Agree, on, length_put}
use Rattle.record.specs.declared.Record.{Record}
use Rattle.record.specs.Slot.{slot_size}
use Rattle.record.proofs.Back.{agree_after}
use Rattle.slots.specs.Slots.{records_at}
use Rattle.body.specs.Body.{cents_of}
use Rattle.body.proofs.Same.{fewer, slots_agree, records_agree}
use Rattle.entries.specs.Entry.{entry_size, entry_fixed, closed_place, kept_bytes, closed_of}
use Rattle.entries.proofs.Same.{part_agree, closed_agree}
use Rattle.service.specs.Service.{settled}
use Rattle.service.proofs.Own.{put_agree}
use Rattle.packing.specs.Packing.{slot_bytes, packed}
use Rattle.packing.specs.Packing as P
use Rattle.packing.proofs.Packed.{packed_before}
use Rattle.closing.specs.Closing.{stays, flags_by, staying, stays_at, year_removed}
use Rattle.closing.proofs.Removed.{length_open}
use Rattle.year_end.specs.declared.CloseRefusal.{CloseRefusal}
use Rattle.year_end.specs.declared.CloseRefusal.TheVariants.{InvalidTable, UnknownBody, NotAYear, AlreadyClosed, EarlierRemains, LineWaits}
use Rattle.year_end.specs.YearEnd.{close_of, body_closed, close_stored}
use Rattle.year_end.specs.Inner.{Fits}
use Rattle.year_end.proofs.Laws.{removed_long}

-- PACKED ALIKE
slot_same : {s t : List ℕ} (at : ℕ) → Agree s at t at slot_size → at + slot_size ≤ length s → at + slot_size ≤ length t → slot_bytes s at ≡ slot_bytes t at
slot_same {s} {t} at a hs ht =
    let z : at + slot_size - at ≡ slot_size = omega arith in
    rw z at (part_agree a 0 slot_size (omega arith) at (at + slot_size) at (at + slot_size) (omega arith) refl (omega arith) refl hs ht)

bytes_same : {s t : List ℕ} (at : ℕ) (fs : List ℕ) → Agree s at t at (slot_size * length fs) → at + slot_size * length fs ≤ length s → at + slot_size * length fs ≤ length t
    → P.chosen_bytes s at fs ≡ P.chosen_bytes t at fs
unfolding P.chosen_bytes
bytes_same at [] a hs ht = refl
bytes_same at (f ∷ fs) a hs ht =
    let x = slot_same at (fewer a slot_size (omega arith)) (omega arith) (omega arith) in
    let y = bytes_same (at + slot_size) fs (on a slot_size (slot_size * length fs) (omega arith)) (omega arith) (omega arith) in
    λ i. cond (eqb f 1) (x i) [] ++ y i

module _ {s t : List ℕ} {e base n : ℕ} (year : ℕ) (a : Agree s base t base (slot_size * n)) (b : Agree s (e + entry_fixed) t (e + entry_fixed) (entry_size - entry_fixed))
    (S : Fits s e base n) (T : Fits t e base n) where
  abbrev fs : List ℕ
  fs = stays_at t base n year

  flags_same : stays_at s base n year ≡ stays_at t base n year
  flags_same = ap (flags_by (stays year)) (slots_agree n a)

  abbrev v : List ℕ
  v = P.chosen_bytes t base fs ++ replicate (slot_size * (length fs - P.chosen_count fs)) 0

  long : length fs ≡ n
  long = length_open t base n year

  packed_s : year_removed s base n year ≡ put s base v
  unfolding packed
  packed_s =
      let k : P.chosen_bytes s base fs ≡ P.chosen_bytes t base fs =
      bytes_same base fs (fewer a (slot_size * length fs) (omega (arith, long))) (omega (arith, long, S.inside)) (omega (arith, long, T.inside)) in
      ap (packed s base) flags_same ∙ ap (λ (x : List ℕ). put s base (x ++ replicate (slot_size * (length fs - P.chosen_count fs)) 0)) k

  packed_t : year_removed t base n year ≡ put t base v
  unfolding packed
  packed_t = refl

  mids : Agree (year_removed s base n year) base (year_removed t base n year) base (slot_size * n)
  mids =
      let z : base ≡ base + 0 = omega arith in
      rw (packed_s, packed_t, ap (λ (q : ℕ). put s q v) z, ap (λ (q : ℕ). put t q v) z) (put_agree a 0 v (omega (arith, S.inside)) (omega (arith, T.inside)))

  before : (u : List ℕ) (U : Fits u e base n) → Agree (year_removed u base n year) (e + entry_fixed) u (e + entry_fixed) (entry_size - entry_fixed)
  before u U =
      packed_before u base (stays_at u base n year) (omega (arith, length_open u base n year, U.inside)) (e + entry_fixed) (entry_size - entry_fixed) (omega (arith, U.entry))

  tails : Agree (year_removed s base n year) (e + entry_fixed) (year_removed t base n year) (e + entry_fixed) (entry_size - entry_fixed)
  tails = record { same = λ i h. (before s S).same i h ∙ b.same i h ∙ sym ((before t T).same i h) }

  abbrev rs : List Record
  rs = staying year (records_at t base n)

  abbrev sums : List ℕ
  sums = kept_bytes (cents_of 1 rs) (cents_of 2 rs)

  sixteen : length sums ≡ 16
  unfolding kept_bytes
  sixteen = length-append (bytes8 (cents_of 1 rs)) (bytes8 (cents_of 2 rs))

  abbrev written : List ℕ → List ℕ
  written u = put (put (year_removed u base n year) (e + entry_fixed) sums) (e + entry_fixed + 16) (bytes2 year)

  place : e + closed_place ≡ e + entry_fixed + 16
  place = omega arith

  written_s : body_closed s e base n year ≡ written s
  unfolding body_closed settled
  written_s =
      ap (λ (x : List Record). put (settled (year_removed s base n year) e (staying year x)) (e + closed_place) (bytes2 year)) (records_agree n a)
      ∙ ap (λ (q : ℕ). put (put (year_removed s base n year) (e + entry_fixed) sums) q (bytes2 year)) place

  written_t : body_closed t e base n year ≡ written t
  unfolding body_closed settled
  written_t = ap (λ (q : ℕ). put (put (year_removed t base n year) (e + entry_fixed) sums) q (bytes2 year)) place

  module _ (u : List ℕ) (U : Fits u e base n) where
    mid_long : length (year_removed u base n year) ≡ length u
    mid_long = removed_long u e base n year U

    set_long : length (put (year_removed u base n year) (e + entry_fixed) sums) ≡ length u
    set_long = length_put (year_removed u base n year) (e + entry_fixed) sums (omega (arith, sixteen, mid_long, U.entry, U.inside)) ∙ mid_long

    past : Agree (written u) base (year_removed u base n year) base (slot_size * n)
    past =
        let f = agree_after (put (year_removed u base n year) (e + entry_fixed) sums) (e + entry_fixed + 16) (bytes2 year) base (omega (arith, set_long, U.entry, U.inside)) (slot_size * n) (omega (arith, U.entry)) in
        let g = agree_after (year_removed u base n year) (e + entry_fixed) sums base (omega (arith, mid_long, U.entry, U.inside)) (slot_size * n) (omega (arith, sixteen, U.entry)) in
        record { same = λ i h. f.same i h ∙ g.same i h }

  slots_left : Agree (body_closed s e base n year) base (body_closed t e base n year) base (slot_size * n)
  slots_left = rw (written_s, written_t) (record { same = λ i h. (past s S).same i h ∙ mids.same i h ∙ sym ((past t T).same i h) })

  tail_left : Agree (body_closed s e base n year) (e + entry_fixed) (body_closed t e base n year) (e + entry_fixed) (entry_size - entry_fixed)
  tail_left =
      let z : e + entry_fixed ≡ e + entry_fixed + 0 = omega arith in
      let first : Agree (put (year_removed s base n year) (e + entry_fixed) sums) (e + entry_fixed) (put (year_removed t base n year) (e + entry_fixed) sums) (e + entry_fixed) (entry_size - entry_fixed) =
      rw (ap (λ (q : ℕ). put (year_removed s base n year) q sums) z, ap (λ (q : ℕ). put (year_removed t base n year) q sums) z)
      (put_agree tails 0 sums (omega (arith, mid_long s S, S.entry, S.inside)) (omega (arith, mid_long t T, T.entry, T.inside))) in
      rw (written_s, written_t) (put_agree first 16 (bytes2 year) (omega (arith, set_long s S, S.entry, S.inside)) (omega (arith, set_long t T, T.entry, T.inside)))

  -- THE SAME ANSWER
  pub close_same : close_of (closed_of s e) year (records_at s base n) ≡ close_of (closed_of t e) year (records_at t base n)
  close_same =
      let q : e + closed_place ≡ e + entry_fixed + 16 = omega arith in
      let c : Agree s (e + closed_place) t (e + closed_place) 2 = rw q (on b 16 2 (omega arith)) in
      λ i. close_of (closed_agree e e c i) year (records_agree n a i)

  -- AND THE SAME BYTES, whatever it is
  stored_same : (x : Result ℕ CloseRefusal) → Agree (close_stored s e base n year x) base (close_stored t e base n year x) base (slot_size * n)
      × Agree (close_stored s e base n year x) (e + entry_fixed) (close_stored t e base n year x) (e + entry_fixed) (entry_size - entry_fixed)
  stored_same (Ok k) = (slots_left, tail_left)
  stored_same (Err InvalidTable) = (a, b)
  stored_same (Err UnknownBody) = (a, b)
  stored_same (Err NotAYear) = (a, b)
  stored_same (Err AlreadyClosed) = (a, b)
  stored_same (Err EarlierRemains) = (a, b)
  stored_same (Err LineWaits) = (a, b)

  pub close_own : Agree (close_stored s e base n year (close_of (closed_of s e) year (records_at s base n))) base (close_stored t e base n year (close_of (closed_of t e) year (records_at t base n))) base (slot_size * n)
      × Agree (close_stored s e base n year (close_of (closed_of s e) year (records_at s base n))) (e + entry_fixed) (close_stored t e base n year (close_of (closed_of t e) year (records_at t base n))) (e + entry_fixed) (entry_size - entry_fixed)
  close_own = rw close_same (stored_same (close_of (closed_of t e) year (records_at t base n)))
