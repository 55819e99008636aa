-- Laws of entries, an entry at a time.
use Rattle.std.specs.Prelude.{Some, None}
use mathlib.Core.Path.{◌≡◌, ap, ◌∙◌}
use mathlib.Core.List.{List, ◌++◌}
use mathlib.Core.Bool.{true, false, ◌&&◌}
use Prim.Native.Nat.{ℕ, suc, ◌+◌, ◌-◌, ◌*◌, ◌≤◌, ◌<◌}
use native.Mathlib.Nat.{mul-suc, mul-add}
use native.Mathlib.Numerals.{add-one}
use native.Mathlib.Omega.{arith}
use lib.ListN.{length, get_or}
use lib.Dec.{leb}
use borrow.Author.Tests.{leb-true, le-leb}
use Rattle.scan.specs.Bytes.{between, part, all, is_alnum, text_is}
use Rattle.scan.proofs.Laws.{both}
use Rattle.words.specs.Numbers.{put, bytes8}
use Rattle.words.proofs.Laws.{put_put}
use Rattle.ranges.specs.Ranges.{zeros, is_nothing}
use Rattle.bounds.specs.Bounds.{max_code, is_code, max_slots}
use Rattle.entries.specs.Entry.{entry_fixed, closed_place, kept_bytes, code_length, code_at, slots_of, form_ok, forms_ok, codes_from, slots_from, find_code, distinct_codes}

-- room for one entry more
pub times : (size k m : ℕ) → k ≡ suc m → size * k ≡ size + size * m
times size k m e = ap (λ (x : ℕ). size * x) e ∙ mul-suc size m ∙ omega arith

-- the entry at an index, among n: where the next one stands, and what is left
module _ (size first n i : ℕ) where
  pub at_next : first + size * i + size ≡ first + size * (i + 1)
  at_next = omega (arith, times size (i + 1) i (add-one i))

  pub has_room : i < n → size * i + size + size * (n - (i + 1)) ≡ size * n
  has_room h =
      let q : i + 1 + (n - (i + 1)) ≡ n = omega arith in
      omega (arith, times size (i + 1) i (add-one i), mul-add size (i + 1) (n - (i + 1)), ap (λ (k : ℕ). size * k) q)

-- a neighbour is put after what was put
pub put_next : (s : List ℕ) (at : ℕ) (v w : List ℕ) (n : ℕ) {t u : List ℕ} → at ≤ length s → at + length v ≡ n → t ≡ put s at v → u ≡ put t n w → u ≡ put s at (v ++ w)
put_next s at v w n h l e f = f ∙ ap (λ (x : List ℕ). put x n w) e ∙ put_put s at v w n h l

pub settled_by : (s t u : List ℕ) (at paid collected : ℕ) → at + closed_place ≤ length s → t ≡ put s (at + 24) (bytes8 paid) → u ≡ put t (at + 32) (bytes8 collected)
    → u ≡ put s (at + entry_fixed) (kept_bytes paid collected)
unfolding kept_bytes
settled_by s t u at paid collected h e f = put_next s (at + 24) (bytes8 paid) (bytes8 collected) (at + 32) (omega arith) (omega arith) e f

-- A CLOSED YEAR, a way out of the code at a time
-- FORM: what the tests of a form say
pub record Form (t : List ℕ) (at : ℕ) : Type 0 where
  pub some : 1 ≤ code_length t at
  pub short : code_length t at ≤ max_code
  pub alnum : all is_alnum (code_at t at) ≡ true
  pub padded : zeros t (at + 1 + code_length t at) (at + 18) ≡ true
  pub one_slot : 1 ≤ slots_of t at
  pub most_slots : slots_of t at ≤ max_slots

pub form : (t : List ℕ) (at : ℕ) → form_ok t at ≡ true → Form t at
unfolding form_ok
form t at e =
    let a = both (is_code (code_length t at) (code_at t at)) (zeros t (at + 1 + code_length t at) (at + 18) && between 1 max_slots (slots_of t at)) e in
    let b = both (between 1 max_code (code_length t at)) (all is_alnum (code_at t at)) a.0 in
    let d = both (zeros t (at + 1 + code_length t at) (at + 18)) (between 1 max_slots (slots_of t at)) a.1 in
    let l = both (leb 1 (code_length t at)) (leb (code_length t at) max_code) b.0 in
    let s = both (leb 1 (slots_of t at)) (leb (slots_of t at) max_slots) d.1 in
    record {
      some = leb-true 1 (code_length t at) l.0;
      short = leb-true (code_length t at) max_code l.1;
      alnum = b.1;
      padded = d.0;
      one_slot = leb-true 1 (slots_of t at) s.0;
      most_slots = leb-true (slots_of t at) max_slots s.1;
    }

-- form_ok, a way out of the code at a time: n is the length read
module _ (t : List ℕ) (at n : ℕ) (e : n ≡ get_or t at 0) where
  module _ (lo : 1 ≤ n) (hi : n ≤ max_code) where
    pub form_code : all is_alnum (part t (at + 1) (at + 1 + n)) ≡ false → form_ok t at ≡ false
    unfolding form_ok code_at
    form_code h = rw (← e, le-leb 1 n lo, le-leb n max_code hi, h)

-- FORMS, CODES: the first of k = m + 1
module _ (size : ℕ) (t : List ℕ) (at k m : ℕ) (e : k ≡ suc m) where
  pub forms_not : form_ok t at ≡ false → forms_ok size t at k ≡ false
  unfolding forms_ok
  forms_not h = rw (e, h)

  pub forms_on : form_ok t at ≡ true → forms_ok size t at k ≡ forms_ok size t (at + size) m
  unfolding forms_ok
  forms_on h = rw (e, h)

  pub forms_split : forms_ok size t at k ≡ true → (form_ok t at ≡ true) × (forms_ok size t (at + size) m ≡ true)
  unfolding forms_ok
  forms_split h = both (form_ok t at) (forms_ok size t (at + size) m) (rw e at h)

  pub slots_more : slots_from size t at k ≡ slots_of t at + slots_from size t (at + size) m
  unfolding slots_from
  slots_more = rw e

  pub find_hit : (i : ℕ) (c : List ℕ) → text_is (code_at t at) c ≡ true → find_code (codes_from size t at k) i c ≡ Some i
  unfolding find_code codes_from
  find_hit i c h = rw (e, h)

  pub find_on : (i : ℕ) (c : List ℕ) → text_is (code_at t at) c ≡ false → find_code (codes_from size t at k) i c ≡ find_code (codes_from size t (at + size) m) (i + 1) c
  unfolding find_code codes_from
  find_on i c h = rw (e, h)

  pub distinct_not : is_nothing (find_code (codes_from size t (at + size) m) 0 (code_at t at)) ≡ false → distinct_codes (codes_from size t at k) ≡ false
  unfolding distinct_codes codes_from
  distinct_not h = rw (e, h)

  pub distinct_on : is_nothing (find_code (codes_from size t (at + size) m) 0 (code_at t at)) ≡ true → distinct_codes (codes_from size t at k) ≡ distinct_codes (codes_from size t (at + size) m)
  unfolding distinct_codes codes_from
  distinct_on h = rw (e, h)

module _ (size : ℕ) (t : List ℕ) (at k : ℕ) (h : k ≤ 0) where
  pub forms_done : forms_ok size t at k ≡ true
  unfolding forms_ok
  forms_done = let e : k ≡ 0 = omega arith in rw e

  pub slots_done : slots_from size t at k ≡ 0
  unfolding slots_from
  slots_done = let e : k ≡ 0 = omega arith in rw e

  pub find_done : (i : ℕ) (c : List ℕ) → find_code (codes_from size t at k) i c ≡ None
  unfolding find_code codes_from
  find_done i c = let e : k ≡ 0 = omega arith in rw e

  pub distinct_done : distinct_codes (codes_from size t at k) ≡ true
  unfolding distinct_codes codes_from
  distinct_done = let e : k ≡ 0 = omega arith in rw e
