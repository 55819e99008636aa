-- A valid record put into a slot: it takes the place of one, or comes after the last, in the list of records; and the body stays valid.
use Rattle.std.specs.Prelude.{None}
use Prim.Native.Nat.{ℕ, suc, ◌+◌, ◌*◌, ◌≤◌, ◌<◌}
use mathlib.Core.Bool.{Bool, true, false, ◌&&◌}
use mathlib.Core.List.{List, [], ◌∷◌, ◌++◌}
use mathlib.Core.Path.{◌≡◌, refl, sym, ap, ◌∙◌}
use native.Mathlib.Omega.{arith}
use lib.ListN.{length, get_or, set, length-set}
use lib.Seq.{ext_get_or, get_or-set_same, get_or-set_other}
use lib.Dec.{eqb, ltb}
use borrow.Author.Tests.{eqb-true, eqb-false, ltb-true, ltb-false}
use Rattle.words.specs.Numbers.{put}
use Rattle.words.proofs.Laws.{Agree, at_it, get_after}
use Rattle.record.specs.Slot.{slot_size, record_at, record_bytes, key_of}
use Rattle.record.specs.declared.Record.{Record}
use Rattle.record.proofs.Back.{same_record, agree_before, agree_after, length_record, record_put, rest_put}
use Rattle.ranges.specs.Ranges.{is_nothing}
use Rattle.valid.specs.Valid.{record_ok}
use Rattle.slots.specs.Slots.{used_at, slots_at, records_at, find_in, distinct}
use Rattle.body.specs.Body.{slot_ok, body_ok}
use Rattle.valid.proofs.Valid.{Valid, valid_sized, ok_used}
use Rattle.slots.proofs.Laws.{used_le}
use Rattle.ranges.proofs.Laws.{zeros_get, get_zeros}
use Rattle.body.proofs.Same.{slots_agree, slot_ok_agree}
use Rattle.slots.proofs.Search.{distinct_set, distinct_add}
use Rattle.slots.proofs.Index.{length_slots, get_slot, slots_snoc, used_is, used_kind, used_empty}
use Rattle.body.proofs.Slots.{slots_each, each_slots, Parts, parts, together}

-- A VALID RECORD IN SLOT i

module _ (t : List ℕ) (base n i : ℕ) (r : Record) (v : Valid r) (low : i < n) (fits : base + slot_size * n ≤ length t) where
  abbrev after : List ℕ
  after = put t (base + slot_size * i) (record_bytes r)

  long : length (record_bytes r) ≡ slot_size
  long = length_record r v.states v.amounts

  there : record_at after (base + slot_size * i) ≡ r
  there = record_put r (valid_sized r v) t (base + slot_size * i) (omega arith)

  kind_there : get_or after (base + slot_size * i) 0 ≡ 0 → ⊥
  unfolding record_at
  kind_there z = ok_used r v.ok (sym (ap (λ (x : Record). x.kind) there) ∙ z)

  slot_there : slot_ok after (base + slot_size * i) ≡ true
  unfolding slot_ok
  slot_there =
      let a = rest_put r (valid_sized r v) t (base + slot_size * i) (omega arith) in
      let b = ap record_ok there ∙ v.ok in
      λ k. a k && b k

  other : (j : ℕ) → (j ≡ i → ⊥) → Agree after (base + slot_size * j) t (base + slot_size * j) slot_size
  other j ne = go (ltb j i) refl where
    go : (b : Bool) → ltb j i ≡ b → Agree after (base + slot_size * j) t (base + slot_size * j) slot_size
    go true e = agree_before t (base + slot_size * i) (record_bytes r) (base + slot_size * j) (omega arith) slot_size (omega (arith, ltb-true j i e))
    go false e = agree_after t (base + slot_size * i) (record_bytes r) (base + slot_size * j) (omega arith) slot_size (omega (arith, ltb-false j i e, long))

  -- what holds of slot i and of every other one
  each : (P : ℕ → Type 0) → P i → ((j : ℕ) → (j ≡ i → ⊥) → P j) → (j : ℕ) → P j
  each P a b j = go (eqb j i) refl where
    go : (x : Bool) → eqb j i ≡ x → P j
    go true e = rw (eqb-true j i e) a
    go false e = b j (eqb-false j i e)

  slots_set : (m : ℕ) → i < m → slots_at after base m ≡ set (slots_at t base m) i r
  slots_set m h =
      let l = length_slots t base m in
      ext_get_or r (slots_at after base m) (set (slots_at t base m) i r)
      (length_slots after base m ∙ sym (length-set (slots_at t base m) i r ∙ l))
      (λ j b.
      let k : j < m = omega (arith, length_slots after base m) in
      get_slot after base m j r k
      ∙ each (λ x. x < m → record_at after (base + slot_size * x) ≡ get_or (set (slots_at t base m) i r) x r)
      (λ c. there ∙ sym (get_or-set_same (slots_at t base m) i r r (omega arith)))
      (λ x ne c. same_record (other x ne) ∙ sym (get_or-set_other (slots_at t base m) i x r r ne ∙ get_slot t base m x r c))
      j k)

  slots_add : slots_at after base (suc i) ≡ slots_at t base i ++ r ∷ []
  slots_add =
      let a = slots_agree i (agree_before t (base + slot_size * i) (record_bytes r) base (omega arith) (slot_size * i) (omega arith)) in
      slots_snoc after base i ∙ (λ k. a k ++ there k ∷ [])

  -- u slots are used afterwards: slot i, and others that were used before
  module _ (u : ℕ) (above : i < u) (most : u ≤ n) (old : (j : ℕ) → j < u → (j ≡ i → ⊥) → j < used_at t base n) where
    used_after : (u < n → get_or t (base + slot_size * u) 0 ≡ 0) → used_at after base n ≡ u
    used_after e =
        used_is after base n u most
        (each (λ j. j < u → get_or after (base + slot_size * j) 0 ≡ 0 → ⊥) (λ b. kind_there)
        (λ j ne b z. used_kind t base n j (old j b ne) (sym (at_it (other j ne) (omega arith)) ∙ z)))
        (λ b. at_it (other u (λ (q : u ≡ i). omega arith)) (omega arith) ∙ e b)

    body_after : Parts t base n → used_at t base n ≤ u → used_at after base n ≡ u → distinct (slots_at after base u) ≡ true → body_ok after base n ≡ true
    body_after p l e k =
        together after base n u e
        (each_slots after base u
        (each (λ j. j < u → slot_ok after (base + slot_size * j) ≡ true) (λ b. slot_there)
        (λ j ne b. slot_ok_agree (other j ne) ∙ slots_each t base (used_at t base n) p.slots j (old j b ne))))
        (get_zeros after (base + slot_size * u) (base + slot_size * n)
        (λ x b c.
        get_after t (base + slot_size * i) (record_bytes r) x (omega (arith, long)) (omega arith)
        ∙ zeros_get t (base + slot_size * used_at t base n) (base + slot_size * n) p.empty x (omega arith) c))
        k

  -- in place of a record
  module _ (h : i < used_at t base n) where
    used_set : used_at after base n ≡ used_at t base n
    used_set = used_after (used_at t base n) h (used_le t base n) (λ j b ne. b) (used_empty t base n (used_at t base n) refl)

    pub records_set : records_at (put t (base + slot_size * i) (record_bytes r)) base n ≡ set (records_at t base n) i r
    records_set = ap (slots_at after base) used_set ∙ slots_set (used_at t base n) h

    pub keeps_ok : body_ok t base n ≡ true → key_of r ≡ key_of (record_at t (base + slot_size * i)) → body_ok (put t (base + slot_size * i) (record_bytes r)) base n ≡ true
    keeps_ok e k =
        let p = parts t base n e in
        let u = used_at t base n in
        body_after u h (used_le t base n) (λ j b ne. b) p (omega arith) used_set
        (ap distinct (slots_set u h) ∙ distinct_set (slots_at t base u) i r r (k ∙ ap key_of (sym (get_slot t base u i r h))) ∙ p.keys)

  -- in the first empty slot
  module _ (h : used_at t base n ≡ i) (e : body_ok t base n ≡ true) where
    used_add : used_at after base n ≡ suc i
    used_add =
        used_after (suc i) (omega arith) low (λ j b ne. omega arith)
        (λ b. zeros_get t (base + slot_size * used_at t base n) (base + slot_size * n) (parts t base n e).empty (base + slot_size * suc i) (omega arith) (omega arith))

    pub records_add : records_at (put t (base + slot_size * i) (record_bytes r)) base n ≡ records_at t base n ++ r ∷ []
    records_add = ap (slots_at after base) used_add ∙ slots_add ∙ ap (λ (m : ℕ). slots_at t base m ++ r ∷ []) (sym h)

    pub adds_ok : find_in (records_at t base n) 0 (key_of r) ≡ None → body_ok (put t (base + slot_size * i) (record_bytes r)) base n ≡ true
    adds_ok f =
        let p = parts t base n e in
        body_after (suc i) (omega arith) low (λ j b ne. omega arith) p (omega arith) used_add
        (sym (ap (λ (m : ℕ). distinct (slots_at after base m)) used_add) ∙ ap distinct records_add ∙ distinct_add (records_at t base n) r (ap is_nothing f) p.keys)
