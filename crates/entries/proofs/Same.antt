-- Entries that hold the same bytes have the same form, code, slots, place and closed year.
use mathlib.Core.Path.{◌≡◌, refl, sym, ap, ◌∙◌}
use mathlib.Core.List.{List, ◌∷◌}
use mathlib.Core.Bool.{true}
use Prim.Native.Nat.{ℕ, zero, suc, ◌+◌, ◌-◌, ◌*◌, ◌≤◌, ◌<◌}
use native.Mathlib.Nat.{add-zero, mul-zero, not-suc-le-zero}
use native.Mathlib.Omega.{arith}
use lib.ListN.{length, get_or, drop, length-drop}
use lib.Seq.{length-take-le, get_or-take, get_or-drop, ext_get_or}
use lib.Dec.{eqb}
use borrow.Author.Tests.{le-leb}
use Rattle.scan.specs.Bytes.{part, all, is_alnum}
use Rattle.words.proofs.Laws.{Agree, on, at_it, same2, same4}
use Rattle.ranges.specs.Ranges.{zeros}
use Rattle.entries.specs.Entry.{entry_fixed, closed_place, request_size, code_length, code_at, slots_of, place_of, closed_of, form_ok, forms_ok, codes_from}
use Rattle.bounds.specs.Bounds.{max_code, max_slots}
use Rattle.entries.proofs.Laws.{times, form, forms_split}

-- the bytes from k on up to m of what agrees
module _ {s t : List ℕ} {p q n : ℕ} (h : Agree s p t q n) (k m : ℕ) (f : m ≤ n) where
  pub part_agree : (a e a' e' : ℕ) → a ≡ p + k → e ≡ p + m → a' ≡ q + k → e' ≡ q + m → e ≤ length s → e' ≤ length t → part s a e ≡ part t a' e'
  part_agree a e a' e' ea ee ea' ee' ls lt =
      let x : length (part s a e) ≡ m - k = length-take-le (e - a) (drop a s) (omega (arith, length-drop a s)) ∙ omega arith in
      let y : length (part t a' e') ≡ m - k = length-take-le (e' - a') (drop a' t) (omega (arith, length-drop a' t)) ∙ omega arith in
      ext_get_or 0 (part s a e) (part t a' e') (x ∙ sym y)
      (λ i b.
      let u : a + i ≡ p + (k + i) = omega arith in
      let v : q + (k + i) ≡ a' + i = omega arith in
      get_or-take (e - a) (drop a s) i 0 (omega arith) ∙ get_or-drop a s i 0 ∙ ap (λ (z : ℕ). get_or s z 0) u
      ∙ h.same (k + i) (omega arith)
      ∙ ap (λ (z : ℕ). get_or t z 0) v ∙ sym (get_or-drop a' t i 0) ∙ sym (get_or-take (e' - a') (drop a' t) i 0 (omega arith)))

  pub zeros_agree : (a e a' e' : ℕ) → a ≡ p + k → e ≡ p + m → a' ≡ q + k → e' ≡ q + m → e ≤ length s → e' ≤ length t → zeros s a e ≡ zeros t a' e'
  unfolding zeros
  zeros_agree a e a' e' ea ee ea' ee' ls lt = ap (all (λ b. eqb b 0)) (part_agree a e a' e' ea ee ea' ee' ls lt)

module _ {s t : List ℕ} {p q n : ℕ} (h : Agree s p t q n) where
  pub slots_agree : request_size ≤ n → slots_of s p ≡ slots_of t q
  unfolding slots_of
  slots_agree b = same2 (on h 18 2 (omega arith)) (omega arith)

  pub place_agree : entry_fixed ≤ n → place_of s p ≡ place_of t q
  unfolding place_of
  place_agree b = same4 (on h 20 4 (omega arith)) (omega arith)

-- the closed year is two bytes
pub closed_agree : {s t : List ℕ} (p q : ℕ) → Agree s (p + closed_place) t (q + closed_place) 2 → closed_of s p ≡ closed_of t q
unfolding closed_of
closed_agree p q h = same2 h (omega arith)

module _ {s t : List ℕ} {p q : ℕ} (h : Agree s p t q request_size) (ls : p + request_size ≤ length s) (lt : q + request_size ≤ length t) where
  same_length : code_length s p ≡ code_length t q
  same_length = at_it h (omega arith)

  pub code_agree : code_length t q ≤ max_code → code_at s p ≡ code_at t q
  unfolding code_at
  code_agree l =
      let n = same_length in
      part_agree h 1 (1 + code_length t q) (omega arith) (p + 1) (p + 1 + code_length s p) (q + 1) (q + 1 + code_length t q)
      refl (omega arith) refl (omega arith) (omega arith) (omega arith)

  pub form_agree : form_ok t q ≡ true → form_ok s p ≡ true
  unfolding form_ok
  form_agree e =
      let f = form t q e in
      let n = same_length in
      let l = f.short in
      let c = ap (all is_alnum) (code_agree l) ∙ f.alnum in
      let z = zeros_agree h (1 + code_length t q) 18 (omega arith) (p + 1 + code_length s p) (p + 18) (q + 1 + code_length t q) (q + 18) (omega arith) refl (omega arith) refl (omega arith) (omega arith) ∙ f.padded in
      let m = slots_agree h (omega arith) in
      rw (c, z, n, m, le-leb 1 (code_length t q) f.some, le-leb (code_length t q) max_code l, le-leb 1 (slots_of t q) f.one_slot, le-leb (slots_of t q) max_slots f.most_slots)

-- entries of s, m after each other, that agree with entries of t, n after each other
pub data Rows (s t : List ℕ) (m n : ℕ) : ℕ → ℕ → ℕ → Type 0 where
  none : {p q : ℕ} → Rows s t m n p q 0
  row : {p q k : ℕ} → Agree s p t q request_size → p + request_size ≤ length s → q + request_size ≤ length t → Rows s t m n (p + m) (q + n) k → Rows s t m n p q (suc k)

module _ {s t : List ℕ} {m n : ℕ} where
  pub forms_rows : {p q k : ℕ} → Rows s t m n p q k → forms_ok n t q k ≡ true → forms_ok m s p k ≡ true
  unfolding forms_ok
  forms_rows none e = refl
  forms_rows (row {p = p} {q = q} {k = k} h ls lt r) e =
      let w = forms_split n t q (suc k) k refl e in
      rw (form_agree h ls lt w.0) (forms_rows r w.1)

  pub codes_rows : {p q k : ℕ} → Rows s t m n p q k → forms_ok n t q k ≡ true → codes_from m s p k ≡ codes_from n t q k
  unfolding codes_from
  codes_rows none e = refl
  codes_rows (row {p = p} {q = q} {k = k} h ls lt r) e =
      let w = forms_split n t q (suc k) k refl e in
      let c = code_agree h ls lt (form t q w.0).short in
      let d = codes_rows r w.1 in
      λ i. c i ∷ d i

  pub slots_rows : {p q k : ℕ} → Rows s t m n p q k → (b : ℕ) → b < k → slots_of s (p + m * b) ≡ slots_of t (q + n * b)
  slots_rows none b h = absurd (not-suc-le-zero h)
  slots_rows (row {p = p} {q = q} g ls lt r) zero h =
      let u : p + m * 0 ≡ p = ap (λ (x : ℕ). p + x) (mul-zero m) ∙ add-zero p in
      let v : q ≡ q + n * 0 = sym (ap (λ (x : ℕ). q + x) (mul-zero n) ∙ add-zero q) in
      ap (slots_of s) u ∙ slots_agree g (omega arith) ∙ ap (slots_of t) v
  slots_rows (row {p = p} {q = q} g ls lt r) (suc b) h =
      let u : p + m * suc b ≡ p + m + m * b = omega (arith, times m (suc b) b refl) in
      let v : q + n + n * b ≡ q + n * suc b = omega (arith, times n (suc b) b refl) in
      ap (slots_of s) u ∙ slots_rows r b (omega arith) ∙ ap (slots_of t) v
