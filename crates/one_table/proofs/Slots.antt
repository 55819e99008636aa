-- A body's records and its slots' number fix the bytes of its slots.
use Prim.Native.Nat.{ℕ, zero, suc, ◌+◌, ◌-◌, ◌*◌, ◌<◌}
use mathlib.Core.Path.{◌≡◌, refl, sym, ap, ◌∙◌}
use mathlib.Core.Bool.{true}
use mathlib.Core.List.{List}
use native.Mathlib.Omega.{arith}
use lib.ListN.{length, get_or}
use lib.Dec.{eqb}
use borrow.Author.Tests.{eqb-true}
use Rattle.scan.proofs.Laws.{both}
use Rattle.words.specs.Numbers.{be2}
use Rattle.words.proofs.Laws.{Agree}
use Rattle.record.specs.Slot.{slot_size, eight_at, be8s, record_at, rest_zero}
use Rattle.record.specs.declared.Record.{Record}
use Rattle.record.proofs.Back.{eight_at_lem, be8s_at}
use Rattle.valid.specs.Valid.{record_ok}
use Rattle.ranges.specs.Ranges.{zeros}
use Rattle.ranges.proofs.Laws.{zeros_get}
use Rattle.slots.specs.Slots.{used_at, slots_at, records_at}
use Rattle.slots.proofs.Laws.{used_le}
use Rattle.slots.proofs.Index.{length_records}
use Rattle.body.specs.Body.{slot_ok, slots_ok, body_ok}
use Rattle.body.proofs.Slots.{parts}
use Rattle.body.proofs.Same.{fewer}
use Rattle.one_table.proofs.Bytes.{nothing, one, adjoined, pieces, two, four, eight}

-- where both are zero
pub both_zero : (t u : List ℕ) (p q n e f : ℕ) → zeros t p e ≡ true → zeros u q f ≡ true → e ≡ p + n → f ≡ q + n → Agree t p u q n
both_zero t u p q n e f z y h k = record {
  same = λ i b. zeros_get t p e z (p + i) (omega arith) (omega arith) ∙ sym (zeros_get u q f y (q + i) (omega arith) (omega arith));
}

-- what holds nothing
rest : (t : List ℕ) (p : ℕ) → rest_zero t p ≡ true → (get_or t (p + 3) 0 ≡ 0) × (be2 t (p + 6) ≡ 0)
unfolding rest_zero
rest t p e = let a = both (eqb (get_or t (p + 3) 0) 0) (eqb (be2 t (p + 6)) 0) e in (eqb-true _ 0 a.0, eqb-true _ 0 a.1)

module _ {t u : List ℕ} (bt : (i : ℕ) → get_or t i 0 < 256) (bu : (i : ℕ) → get_or u i 0 < 256) where
  states : (p q : ℕ) → eight_at t p ≡ eight_at u q → Agree t p u q 8
  states p q e = record { same = λ i b. sym (eight_at_lem t p i b) ∙ ap (λ (l : List ℕ). get_or l i 0) e ∙ eight_at_lem u q i b }

  amounts : (p q : ℕ) → be8s t p ≡ be8s u q → Agree t p u q 64
  amounts p q e =
      pieces 8 p q 8 (λ k h. eight bt bu (p + 8 * k) (q + 8 * k) (sym (be8s_at t p k h) ∙ ap (λ (l : List ℕ). get_or l k 0) e ∙ be8s_at u q k h))

module _ {t u : List ℕ} (bt : (i : ℕ) → get_or t i 0 < 256) (bu : (i : ℕ) → get_or u i 0 < 256) where
  slot : (p q : ℕ) → record_at t p ≡ record_at u q → rest_zero t p ≡ true → rest_zero u q ≡ true → Agree t p u q slot_size
  unfolding record_at
  slot p q e y z =
      let a = rest t p y in
      let b = rest u q z in
      let first = adjoined (one p q (ap (λ (r : Record). r.kind) e)) (one (p + 1) (q + 1) (ap (λ (r : Record). r.state) e)) refl refl in
      let lines = adjoined first (one (p + 2) (q + 2) (ap (λ (r : Record). r.lines) e)) refl refl in
      let third = adjoined lines (one (p + 3) (q + 3) (a.0 ∙ sym b.0)) refl refl in
      let year = adjoined third (two bt bu (p + 4) (q + 4) (ap (λ (r : Record). r.esercizio) e)) refl refl in
      let sixth = adjoined year (two bt bu (p + 6) (q + 6) (a.1 ∙ sym b.1)) refl refl in
      let number = adjoined sixth (four bt bu (p + 8) (q + 8) (ap (λ (r : Record). r.number) e)) refl refl in
      let dated = adjoined number (two bt bu (p + 12) (q + 12) (ap (λ (r : Record). r.date.year) e)) refl refl in
      let month = adjoined dated (one (p + 12 + 2) (q + 12 + 2) (ap (λ (r : Record). r.date.month) e)) (omega arith) (omega arith) in
      let day = adjoined month (one (p + 12 + 3) (q + 12 + 3) (ap (λ (r : Record). r.date.day) e)) (omega arith) (omega arith) in
      let total = adjoined day (eight bt bu (p + 16) (q + 16) (ap (λ (r : Record). r.total) e)) refl refl in
      let state = adjoined total (states bt bu (p + 24) (q + 24) (ap (λ (r : Record). r.states) e)) refl refl in
      adjoined state (amounts bt bu (p + 32) (q + 32) (ap (λ (r : Record). r.amounts) e)) refl refl

  used : (n p q : ℕ) → slots_at t p n ≡ slots_at u q n → slots_ok t p n ≡ true → slots_ok u q n ≡ true → Agree t p u q (slot_size * n)
  unfolding slots_at slots_ok slot_ok
  used zero p q e y z = fewer (nothing p q) (slot_size * 0) (omega arith)
  used (suc n) p q e y z =
      let a = both (slot_ok t p) (slots_ok t (p + slot_size) n) y in
      let b = both (slot_ok u q) (slots_ok u (q + slot_size) n) z in
      let r : record_at t p ≡ record_at u q = cc in
      let l : slots_at t (p + slot_size) n ≡ slots_at u (q + slot_size) n = cc in
      fewer
      (adjoined (slot p q r (both (rest_zero t p) (record_ok (record_at t p)) a.0).0 (both (rest_zero u q) (record_ok (record_at u q)) b.0).0)
      (used n (p + slot_size) (q + slot_size) l a.1 b.1) refl refl)
      (slot_size * suc n) (omega arith)

  pub body_fixed : (n p q : ℕ) → body_ok t p n ≡ true → body_ok u q n ≡ true → records_at t p n ≡ records_at u q n → Agree t p u q (slot_size * n)
  body_fixed n p q y z e =
      let a = parts t p n y in
      let b = parts u q n z in
      let m : used_at t p n ≡ used_at u q n = sym (length_records t p n) ∙ ap length e ∙ length_records u q n in
      let k : ℕ = used_at t p n in
      let full = used k p q (e ∙ ap (slots_at u q) (sym m)) a.slots (ap (slots_ok u q) m ∙ b.slots) in
      let l = used_le t p n in
      let empty =
      both_zero t u (p + slot_size * k) (q + slot_size * k) (slot_size * n - slot_size * k) (p + slot_size * n) (q + slot_size * n) a.empty
      (ap (λ (x : ℕ). zeros u (q + slot_size * x) (q + slot_size * n)) m ∙ b.empty) (omega arith) (omega arith) in
      fewer (adjoined full empty refl refl) (slot_size * n) (omega arith)
