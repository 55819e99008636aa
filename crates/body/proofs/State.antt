-- A line's state on the table's bytes: one byte of its record's states, so that record with one state changed; the body stays valid, and every byte outside
-- its slots stays.
use Prim.Native.Nat.{ℕ, ◌+◌, ◌*◌, ◌≤◌, ◌<◌}
use mathlib.Core.Bool.{Bool, true, false, ◌&&◌}
use mathlib.Core.List.{List, [], ◌∷◌}
use mathlib.Core.Path.{◌≡◌, refl, sym, ap, ◌∙◌}
use native.Mathlib.Omega.{arith}
use lib.ListN.{length, get_or, set, length-set}
use lib.Seq.{ext_get_or, get_or-set_same, get_or-set_other}
use lib.Dec.{eqb, ltb}
use borrow.Author.Tests.{eqb-true, eqb-false, ltb-true, ltb-false}
use Rattle.scan.proofs.Laws.{both}
use Rattle.words.specs.Numbers.{put}
use Rattle.words.proofs.Laws.{Agree, on, at_it, same2, same4, same8, get_before, get_in, get_after, length_put}
use Rattle.ranges.proofs.Laws.{zeros_get, get_zeros}
use Rattle.record.specs.declared.Record.{Record}
use Rattle.record.specs.Slot.{states_offset, slot_size, eight_at, be8s, date_at, record_at, rest_zero, key_of, with_state}
use Rattle.record.proofs.Back.{eight_at_lem, same_be8s, same_record, agree_before, agree_after}
use Rattle.valid.specs.Valid.{record_ok}
use Rattle.valid.proofs.Valid.{Valid}
use Rattle.slots.specs.Slots.{used_at, slots_at, records_at, distinct, nth, no_record}
use Rattle.slots.proofs.Laws.{used_le}
use Rattle.slots.proofs.Search.{distinct_set}
use Rattle.slots.proofs.Index.{length_slots, get_record, get_slot, used_is, used_kind, used_empty}
use Rattle.body.specs.Body.{slot_ok, body_ok}
use Rattle.body.proofs.Laws.{slot_rest}
use Rattle.body.proofs.Same.{slot_ok_agree}
use Rattle.body.proofs.Slots.{slots_each, each_slots, parts, together}

-- THE BYTE OF A STATE

module _ (t : List ℕ) (at k s : ℕ) (small : k < 8) (fits : at + slot_size ≤ length t) where
  abbrev after : List ℕ
  after = put t (at + states_offset + k) (s ∷ [])

  byte : (j : ℕ) → j < 8 → (x : Bool) → eqb j k ≡ x → get_or after (at + states_offset + j) 0 ≡ get_or (set (eight_at t (at + states_offset)) k s) j 0
  byte j h true q =
      let e : j ≡ k = eqb-true j k q in
      let z : at + states_offset + j ≡ at + states_offset + k + 0 = omega arith in
      ap (λ (x : ℕ). get_or after x 0) z ∙ get_in t (at + states_offset + k) (s ∷ []) 0 (omega arith) (omega arith)
      ∙ sym (ap (λ (x : ℕ). get_or (set (eight_at t (at + states_offset)) k s) x 0) e ∙ get_or-set_same (eight_at t (at + states_offset)) k s 0 small)
  byte j h false q = other j (eqb-false j k q) ∙ sym (get_or-set_other (eight_at t (at + states_offset)) k j s 0 (eqb-false j k q) ∙ eight_at_lem t (at + states_offset) j h)
    where
      other : (x : ℕ) → (x ≡ k → ⊥) → get_or after (at + states_offset + x) 0 ≡ get_or t (at + states_offset + x) 0
      other x ne = go (ltb x k) refl
        where
          go : (b : Bool) → ltb x k ≡ b → get_or after (at + states_offset + x) 0 ≡ get_or t (at + states_offset + x) 0
          go true e = get_before t (at + states_offset + k) (s ∷ []) (at + states_offset + x) (omega (arith, ltb-true x k e)) (omega arith)
          go false e = get_after t (at + states_offset + k) (s ∷ []) (at + states_offset + x) (omega (arith, ltb-false x k e)) (omega arith)

  states_after : eight_at after (at + states_offset) ≡ set (eight_at t (at + states_offset)) k s
  states_after =
      ext_get_or 0 (eight_at after (at + states_offset)) (set (eight_at t (at + states_offset)) k s) (sym (length-set (eight_at t (at + states_offset)) k s))
      (λ j h. eight_at_lem after (at + states_offset) j h ∙ byte j h (eqb j k) refl)

  head_same : Agree after at t at 24
  head_same = agree_before t (at + states_offset + k) (s ∷ []) at (omega arith) 24 (omega arith)

  tail_same : Agree after (at + 32) t (at + 32) 64
  tail_same = agree_after t (at + states_offset + k) (s ∷ []) (at + 32) (omega arith) 64 (omega arith)

  date_same : date_at after (at + 12) ≡ date_at t (at + 12)
  date_same = let g = on head_same 12 4 (omega arith) in cc (same2 g (omega arith), g.same 2 (omega arith), g.same 3 (omega arith))

  amounts_same : be8s after (at + 32) ≡ be8s t (at + 32)
  amounts_same = same_be8s tail_same

  pub state_record : record_at after at ≡ with_state (record_at t at) k s
  unfolding record_at
  state_record =
      let g = head_same in
      cc (
        at_it g (omega arith),
        g.same 1 (omega arith),
        g.same 2 (omega arith),
        same2 (on g 4 2 (omega arith)) (omega arith),
        same4 (on g 8 4 (omega arith)) (omega arith),
        date_same,
        same8 (on g 16 8 (omega arith)) (omega arith),
        states_after,
        amounts_same,
      )

  pub state_rest : rest_zero after at ≡ rest_zero t at
  unfolding rest_zero
  state_rest = let g = head_same in cc (g.same 3 (omega arith), same2 (on g 6 2 (omega arith)) (omega arith))

-- A BODY AFTER A CALL

-- what was written into a body of n slots from base on left t' of t: as long, the same bytes outside its slots, the body valid
pub record Within (t t' : List ℕ) (base n : ℕ) : Type 0 where
  pub long : length t' ≡ length t
  pub before : (p m : ℕ) → p + m ≤ base → Agree t' p t p m
  pub after : (p m : ℕ) → base + slot_size * n ≤ p → Agree t' p t p m
  pub ok : body_ok t' base n ≡ true

pub within_same : (t : List ℕ) (base n : ℕ) → body_ok t base n ≡ true → Within t t base n
within_same t base n e = record { long = refl; before = λ p m h. record { same = λ i b. refl }; after = λ p m h. record { same = λ i b. refl }; ok = e }

pub within_on : {s t u : List ℕ} {base n : ℕ} → Within s t base n → Within t u base n → Within s u base n
within_on a b = record {
  long = b.long ∙ a.long;
  before = λ p m h. record { same = λ i l. (b.before p m h).same i l ∙ (a.before p m h).same i l };
  after = λ p m h. record { same = λ i l. (b.after p m h).same i l ∙ (a.after p m h).same i l };
  ok = b.ok;
}

-- THE BYTE OF A USED SLOT, in the list of records

module _ (t : List ℕ) (base n i k s : ℕ) (small : k < 8) (fits : base + slot_size * n ≤ length t) (h : i < used_at t base n) where
  abbrev u : ℕ
  u = used_at t base n

  abbrev old : Record
  old = record_at t (base + slot_size * i)

  abbrev left : List ℕ
  left = put t (base + slot_size * i + states_offset + k) (s ∷ [])

  low : i < n
  low = omega (arith, used_le t base n)

  slot_fits : base + slot_size * i + slot_size ≤ length t
  slot_fits = omega (arith, low)

  pub others : (j : ℕ) → (j ≡ i → ⊥) → Agree left (base + slot_size * j) t (base + slot_size * j) slot_size
  others j ne = go (ltb j i) refl
    where
      go : (b : Bool) → ltb j i ≡ b → Agree left (base + slot_size * j) t (base + slot_size * j) slot_size
      go true q = agree_before t (base + slot_size * i + states_offset + k) (s ∷ []) (base + slot_size * j) (omega (arith, slot_fits)) slot_size (omega (arith, ltb-true j i q))
      go false q = agree_after t (base + slot_size * i + states_offset + k) (s ∷ []) (base + slot_size * j) (omega (arith, slot_fits)) slot_size (omega (arith, ltb-false j i q))

  each : (P : ℕ → Type 0) → P i → ((j : ℕ) → (j ≡ i → ⊥) → P j) → (j : ℕ) → P j
  each P a b j = go (eqb j i) refl
    where
      go : (x : Bool) → eqb j i ≡ x → P j
      go true e = rw (eqb-true j i e) a
      go false e = b j (eqb-false j i e)

  kind_same : (j : ℕ) → get_or left (base + slot_size * j) 0 ≡ get_or t (base + slot_size * j) 0
  kind_same =
      each (λ j. get_or left (base + slot_size * j) 0 ≡ get_or t (base + slot_size * j) 0)
      (get_before t (base + slot_size * i + states_offset + k) (s ∷ []) (base + slot_size * i) (omega arith) (omega (arith, slot_fits)))
      (λ j ne. at_it (others j ne) (omega arith))

  pub used_same : used_at left base n ≡ u
  used_same = used_is left base n u (used_le t base n) (λ j b z. used_kind t base n j b (sym (kind_same j) ∙ z)) (λ b. kind_same u ∙ used_empty t base n u refl b)

  pub slots_set : slots_at left base u ≡ set (slots_at t base u) i (with_state old k s)
  slots_set =
      let r : Record = with_state old k s in
      let l = length_slots t base u in
      ext_get_or r (slots_at left base u) (set (slots_at t base u) i r) (length_slots left base u ∙ sym (length-set (slots_at t base u) i r ∙ l))
      (λ j b.
      let c : j < u = omega (arith, length_slots left base u) in
      get_slot left base u j r c
      ∙ each (λ x. x < u → record_at left (base + slot_size * x) ≡ get_or (set (slots_at t base u) i r) x r)
      (λ d. state_record t (base + slot_size * i) k s small slot_fits ∙ sym (get_or-set_same (slots_at t base u) i r r (omega arith)))
      (λ x ne d. same_record (others x ne) ∙ sym (get_or-set_other (slots_at t base u) i x r r ne ∙ get_slot t base u x r d))
      j c)

  pub state_records : records_at left base n ≡ set (records_at t base n) i (with_state (nth (records_at t base n) i) k s)
  state_records = ap (slots_at left base) used_same ∙ slots_set ∙ ap (λ (x : Record). set (records_at t base n) i (with_state x k s)) (sym (get_record t base n i no_record h))

  -- and the body stays valid
  module _ (ok : body_ok t base n ≡ true) (v : Valid (with_state (record_at t (base + slot_size * i)) k s)) where
    abbrev place : ℕ
    place = base + slot_size * i + states_offset + k

    new_rest : rest_zero left (base + slot_size * i) ≡ true
    new_rest =
        state_rest t (base + slot_size * i) k s small slot_fits
        ∙ (both (rest_zero t (base + slot_size * i)) _ (sym (slot_rest t (base + slot_size * i)) ∙ slots_each t base u (parts t base n ok).slots i h)).0

    slot_there : slot_ok left (base + slot_size * i) ≡ true
    slot_there =
        slot_rest left (base + slot_size * i)
        ∙ (λ j. new_rest j && (ap record_ok (state_record t (base + slot_size * i) k s small slot_fits) ∙ v.ok) j)

    state_ok : body_ok left base n ≡ true
    state_ok =
        let p = parts t base n ok in
        let r : Record = with_state old k s in
        together left base n u used_same
        (each_slots left base u
        (each (λ j. j < u → slot_ok left (base + slot_size * j) ≡ true) (λ b. slot_there)
        (λ j ne b. slot_ok_agree (others j ne) ∙ slots_each t base u p.slots j b)))
        (get_zeros left (base + slot_size * u) (base + slot_size * n)
        (λ x b c. get_after t place (s ∷ []) x (omega arith) (omega (arith, slot_fits)) ∙ zeros_get t (base + slot_size * u) (base + slot_size * n) p.empty x b c))
        (ap distinct slots_set ∙ distinct_set (slots_at t base u) i r r (ap key_of (sym (get_slot t base u i r h))) ∙ p.keys)

    pub state_within : Within t left base n
    state_within = record {
      long = length_put t place (s ∷ []) (omega (arith, slot_fits));
      before = λ p m b. agree_before t place (s ∷ []) p (omega (arith, slot_fits)) m (omega arith);
      after = λ p m b. agree_after t place (s ∷ []) p (omega (arith, slot_fits)) m (omega (arith, used_le t base n));
      ok = state_ok;
    }
