-- A record that is put at a place is read back there, and places that the put does not touch read as before.
use Prim.Native.Nat.{ℕ, zero, suc, ◌+◌, ◌*◌, ◌%◌, ◌≤◌, ◌<◌}
use mathlib.Core.Bool.{true}
use mathlib.Core.List.{List, [], ◌∷◌, ◌++◌}
use mathlib.Core.Path.{◌≡◌, refl, sym, ap, ◌∙◌}
use native.Mathlib.Omega.{arith}
use native.Mathlib.Nat.{add-zero, zero-add, not-suc-le-zero, mod-eq_of_lt}
use lib.ListN.{length, get_or, length-append, get_or-append}
use lib.Seq.{ext_get_or, get_or-append-add}
use Rattle.words.specs.Numbers.{put, be2, be4, be8, bytes8}
use Rattle.words.proofs.Laws.{Agree, on, at_it, same2, same4, same8, be2_bytes, be4_bytes, be8_bytes, get_before, get_in, get_after}
use Rattle.record.specs.Slot.{slot_size, record_at, record_bytes, rest_zero, slot_head, flat8, eight_at, be8s, date_at}
use Rattle.record.specs.declared.Record.{Record}
use Rattle.record.proofs.Laws.{length_flat8, length_head}

-- the fields fit their bytes
pub record Sized (r : Record) : Type 0 where
  pub esercizio : r.esercizio < 65536
  pub number : r.number < 4294967296
  pub year : r.date.year < 65536
  pub month : r.date.month < 256
  pub day : r.date.day < 256
  pub total : r.total < 18446744073709551616
  pub states : length r.states ≡ 8
  pub amounts : length r.amounts ≡ 8
  pub each : (k : ℕ) → k < 8 → get_or r.amounts k 0 < 18446744073709551616

-- EIGHT BYTES AND EIGHT NUMBERS, one at a time

pub eight_at_lem : (t : List ℕ) (p k : ℕ) → k < 8 → get_or (eight_at t p) k 0 ≡ get_or t (p + k) 0
eight_at_lem t p zero h = ap (λ (x : ℕ). get_or t x 0) (sym (add-zero p))
eight_at_lem t p (suc zero) h = refl
eight_at_lem t p (suc (suc zero)) h = refl
eight_at_lem t p (suc (suc (suc zero))) h = refl
eight_at_lem t p (suc (suc (suc (suc zero)))) h = refl
eight_at_lem t p (suc (suc (suc (suc (suc zero))))) h = refl
eight_at_lem t p (suc (suc (suc (suc (suc (suc zero)))))) h = refl
eight_at_lem t p (suc (suc (suc (suc (suc (suc (suc zero))))))) h = refl
eight_at_lem t p (suc (suc (suc (suc (suc (suc (suc (suc k)))))))) h = absurd (omega arith)

pub be8s_at : (t : List ℕ) (p k : ℕ) → k < 8 → get_or (be8s t p) k 0 ≡ be8 t (p + 8 * k)
be8s_at t p zero h = ap (be8 t) (sym (add-zero p))
be8s_at t p (suc zero) h = refl
be8s_at t p (suc (suc zero)) h = refl
be8s_at t p (suc (suc (suc zero))) h = refl
be8s_at t p (suc (suc (suc (suc zero)))) h = refl
be8s_at t p (suc (suc (suc (suc (suc zero))))) h = refl
be8s_at t p (suc (suc (suc (suc (suc (suc zero)))))) h = refl
be8s_at t p (suc (suc (suc (suc (suc (suc (suc zero))))))) h = refl
be8s_at t p (suc (suc (suc (suc (suc (suc (suc (suc k)))))))) h = absurd (omega arith)

pub same_be8s : {s t : List ℕ} {p q : ℕ} → Agree s p t q 64 → be8s s p ≡ be8s t q
same_be8s g =
    cc (
      same8 g (omega arith),
      same8 (on g 8 8 (omega arith)) (omega arith),
      same8 (on g 16 8 (omega arith)) (omega arith),
      same8 (on g 24 8 (omega arith)) (omega arith),
      same8 (on g 32 8 (omega arith)) (omega arith),
      same8 (on g 40 8 (omega arith)) (omega arith),
      same8 (on g 48 8 (omega arith)) (omega arith),
      same8 (on g 56 8 (omega arith)) (omega arith),
    )

-- THE SAME BYTES HOLD THE SAME RECORD

module _ {s t : List ℕ} {p q : ℕ} (h : Agree s p t q slot_size) where
  same_eight : eight_at s (p + 24) ≡ eight_at t (q + 24)
  same_eight =
      let g : Agree s (p + 24) t (q + 24) 8 = on h 24 8 (omega arith) in
      cc (at_it g (omega arith), g.same 1 (omega arith), g.same 2 (omega arith), g.same 3 (omega arith), g.same 4 (omega arith), g.same 5 (omega arith), g.same 6 (omega arith), g.same 7 (omega arith))

  same_amounts : be8s s (p + 32) ≡ be8s t (q + 32)
  same_amounts = same_be8s (on h 32 64 (omega arith))

  same_date : date_at s (p + 12) ≡ date_at t (q + 12)
  same_date =
      let g : Agree s (p + 12) t (q + 12) 4 = on h 12 4 (omega arith) in
      cc (same2 g (omega arith), g.same 2 (omega arith), g.same 3 (omega arith))

  pub same_record : record_at s p ≡ record_at t q
  unfolding record_at
  same_record =
      cc (
        at_it h (omega arith),
        h.same 1 (omega arith),
        h.same 2 (omega arith),
        same2 (on h 4 2 (omega arith)) (omega arith),
        same4 (on h 8 4 (omega arith)) (omega arith),
        same_date,
        same8 (on h 16 8 (omega arith)) (omega arith),
        same_eight,
        same_amounts,
      )

  pub same_rest : rest_zero s p ≡ rest_zero t q
  unfolding rest_zero
  same_rest = cc (h.same 3 (omega arith), same2 (on h 6 2 (omega arith)) (omega arith))

-- A PLACE THAT THE PUT DOES NOT TOUCH

-- it ends before the put, or starts past it
module _ (t : List ℕ) (at : ℕ) (v : List ℕ) (p : ℕ) (k : at ≤ length t) where
  pub agree_before : (n : ℕ) → p + n ≤ at → Agree (put t at v) p t p n
  agree_before n h = record { same = λ i b. get_before t at v (p + i) (omega arith) k }

  pub agree_after : (n : ℕ) → at + length v ≤ p → Agree (put t at v) p t p n
  agree_after n h = record { same = λ i b. get_after t at v (p + i) (omega arith) k }

  pub record_before : p + slot_size ≤ at → record_at (put t at v) p ≡ record_at t p
  record_before h = same_record (agree_before slot_size h)

  pub record_after : at + length v ≤ p → record_at (put t at v) p ≡ record_at t p
  record_after h = same_record (agree_after slot_size h)

  pub rest_before : p + slot_size ≤ at → rest_zero (put t at v) p ≡ rest_zero t p
  rest_before h = same_rest (agree_before slot_size h)

  pub rest_after : at + length v ≤ p → rest_zero (put t at v) p ≡ rest_zero t p
  rest_after h = same_rest (agree_after slot_size h)

-- READ BACK

-- eight elements by their places
eight : (a b c d e f g h : ℕ) (l : List ℕ) → length l ≡ 8 → a ≡ get_or l 0 0 → b ≡ get_or l 1 0 → c ≡ get_or l 2 0 → d ≡ get_or l 3 0
    → e ≡ get_or l 4 0 → f ≡ get_or l 5 0 → g ≡ get_or l 6 0 → h ≡ get_or l 7 0 → a ∷ b ∷ c ∷ d ∷ e ∷ f ∷ g ∷ h ∷ [] ≡ l
eight a b c d e f g h l n p₀ p₁ p₂ p₃ p₄ p₅ p₆ p₇ = ext_get_or 0 (a ∷ b ∷ c ∷ d ∷ e ∷ f ∷ g ∷ h ∷ []) l (sym n) each where
  each : (i : ℕ) → i < 8 → get_or (a ∷ b ∷ c ∷ d ∷ e ∷ f ∷ g ∷ h ∷ []) i 0 ≡ get_or l i 0
  each zero b' = p₀
  each (suc zero) b' = p₁
  each (suc (suc zero)) b' = p₂
  each (suc (suc (suc zero))) b' = p₃
  each (suc (suc (suc (suc zero)))) b' = p₄
  each (suc (suc (suc (suc (suc zero))))) b' = p₅
  each (suc (suc (suc (suc (suc (suc zero)))))) b' = p₆
  each (suc (suc (suc (suc (suc (suc (suc zero))))))) b' = p₇
  each (suc (suc (suc (suc (suc (suc (suc (suc i)))))))) b' = absurd (omega arith)

-- number k of eight bytes each
flat8_at : (l : List ℕ) (k : ℕ) → k < length l → be8 (flat8 l) (8 * k) ≡ get_or l k 0 % 18446744073709551616
unfolding flat8
flat8_at [] k h = absurd (not-suc-le-zero h)
flat8_at (x ∷ xs) zero h =
    same8 {m = 8} (record { same = λ i b. get_or-append (bytes8 x) (flat8 xs) 0 (0 + i) (omega arith) }) (omega arith) ∙ be8_bytes x
flat8_at (x ∷ xs) (suc k) h =
    same8 {m = 8} (record {
      same = λ i b.
          let q : 8 * suc k + i ≡ 8 + (8 * k + i) = omega arith in
          ap (λ (n : ℕ). get_or (bytes8 x ++ flat8 xs) n 0) q ∙ get_or-append-add (bytes8 x) (flat8 xs) (8 * k + i) 0;
    }) (omega arith)
    ∙ flat8_at xs k (omega arith)

pub length_record : (r : Record) → length r.states ≡ 8 → length r.amounts ≡ 8 → length (record_bytes r) ≡ slot_size
unfolding record_bytes
length_record r a b = simp length-append (omega (arith, length_flat8 r.amounts, length_head r))

module _ (r : Record) (z : Sized r) where
  length_bytes : length (record_bytes r) ≡ slot_size
  length_bytes = length_record r z.states z.amounts

  amount_in : (k : ℕ) → k < 8 → be8 (record_bytes r) (32 + 8 * k) ≡ get_or r.amounts k 0
  unfolding record_bytes
  amount_in k h =
      let n : length (slot_head r ++ r.states) ≡ 32 = length-append (slot_head r) r.states ∙ omega (arith, z.states, length_head r) in
      let e : be8 (record_bytes r) (32 + 8 * k) ≡ be8 (flat8 r.amounts) (8 * k) =
      same8 {m = 8} (record {
        same = λ i b.
            let q : 32 + 8 * k + i ≡ length (slot_head r ++ r.states) + (8 * k + i) = omega arith in
            ap (λ (x : ℕ). get_or (record_bytes r) x 0) q ∙ get_or-append-add (slot_head r ++ r.states) (flat8 r.amounts) (8 * k + i) 0;
      }) (omega arith) in
      e ∙ flat8_at r.amounts k (omega (arith, z.amounts)) ∙ mod-eq_of_lt (z.each k h)

  state_in : (k : ℕ) → k < 8 → get_or (record_bytes r) (24 + k) 0 ≡ get_or r.states k 0
  unfolding record_bytes
  state_in k h =
      get_or-append (slot_head r ++ r.states) (flat8 r.amounts) 0 (24 + k) (simp length-append (omega (arith, z.states, length_head r)))
      ∙ get_or-append-add (slot_head r) r.states k 0

  esercizio_in : be2 (record_bytes r) 4 ≡ r.esercizio
  unfolding record_bytes be2
  esercizio_in = be2_bytes r.esercizio ∙ mod-eq_of_lt z.esercizio

  number_in : be4 (record_bytes r) 8 ≡ r.number
  unfolding record_bytes be4 be2
  number_in = be4_bytes r.number ∙ mod-eq_of_lt z.number

  year_in : be2 (record_bytes r) 12 ≡ r.date.year
  unfolding record_bytes be2
  year_in = be2_bytes r.date.year ∙ mod-eq_of_lt z.year

  total_in : be8 (record_bytes r) 16 ≡ r.total
  unfolding record_bytes be8 be4 be2
  total_in = be8_bytes r.total ∙ mod-eq_of_lt z.total

  date_in : date_at (record_bytes r) 12 ≡ r.date
  unfolding record_bytes
  date_in i = record { year = year_in i; month = mod-eq_of_lt z.month i; day = mod-eq_of_lt z.day i }

  states_in : eight_at (record_bytes r) 24 ≡ r.states
  states_in =
      eight _ _ _ _ _ _ _ _ r.states z.states (state_in 0 (omega arith)) (state_in 1 (omega arith)) (state_in 2 (omega arith)) (state_in 3 (omega arith))
      (state_in 4 (omega arith)) (state_in 5 (omega arith)) (state_in 6 (omega arith)) (state_in 7 (omega arith))

  amounts_in : be8s (record_bytes r) 32 ≡ r.amounts
  amounts_in =
      eight _ _ _ _ _ _ _ _ r.amounts z.amounts (amount_in 0 (omega arith)) (amount_in 1 (omega arith)) (amount_in 2 (omega arith)) (amount_in 3 (omega arith))
      (amount_in 4 (omega arith)) (amount_in 5 (omega arith)) (amount_in 6 (omega arith)) (amount_in 7 (omega arith))

  own : record_at (record_bytes r) 0 ≡ r
  unfolding record_at record_bytes
  own i = record {
    kind = r.kind;
    state = r.state;
    lines = r.lines;
    esercizio = esercizio_in i;
    number = number_in i;
    date = date_in i;
    total = total_in i;
    states = states_in i;
    amounts = amounts_in i;
  }

  own_rest : rest_zero (record_bytes r) 0 ≡ true
  unfolding rest_zero record_bytes be2
  own_rest = refl

  module _ (t : List ℕ) (at : ℕ) (h : at ≤ length t) where
    agree_put : Agree (put t at (record_bytes r)) at (record_bytes r) 0 slot_size
    agree_put = record { same = λ i b. get_in t at (record_bytes r) i (omega (arith, length_bytes)) h ∙ ap (λ (x : ℕ). get_or (record_bytes r) x 0) (sym (zero-add i)) }

    pub record_put : record_at (put t at (record_bytes r)) at ≡ r
    record_put = same_record agree_put ∙ own

    pub rest_put : rest_zero (put t at (record_bytes r)) at ≡ true
    rest_put = same_rest agree_put ∙ own_rest
