-- WHAT A REPAIRED BODY IS: valid whatever it was, its records the kept ones in order, and a valid body as it was.
use Prim.Native.Nat.{ℕ, zero, suc, ◌+◌, ◌-◌, ◌*◌, ◌≤◌, ◌<◌}
use mathlib.Core.Bool.{Bool, true, false, ◌&&◌, not, cond}
use mathlib.Core.List.{List, [], ◌∷◌, ◌++◌, append_assoc, append-nil}
use mathlib.Core.Path.{◌≡◌, refl, sym, ap, ◌∙◌}
use native.Mathlib.Omega.{arith}
use native.Mathlib.Nat.{not-suc-le-zero, zero-add}
use lib.ListN.{length, get_or, replicate}
use lib.Dec.{eqb, ltb}
use borrow.Author.Tests.{eq-eqb, ltb-true}
use Rattle.words.proofs.Laws.{Agree, on}
use Rattle.scan.proofs.Laws.{both}
use Rattle.record.specs.declared.Record.{Record}
use Rattle.record.specs.declared.Key.{Key}
use Rattle.record.specs.Slot.{slot_size, record_at, rest_zero, key_is, key_of}
use Rattle.ranges.specs.Ranges.{zeros, is_nothing}
use Rattle.ranges.proofs.Laws.{zeros_get, get_zeros}
use Rattle.valid.specs.Valid.{record_ok}
use Rattle.valid.proofs.Valid.{ok_used}
use Rattle.slots.specs.Slots.{used_at, slots_at, records_at, find_in, distinct}
use Rattle.slots.proofs.Laws.{used_le}
use Rattle.slots.proofs.Search.{distinct_add, cons_none}
use Rattle.valid.proofs.Laws.{same_test}
use Rattle.body.specs.Body.{slot_ok, slots_ok, body_ok, all_later}
use Rattle.body.proofs.Laws.{slot_rest}
use Rattle.body.proofs.Slots.{parts}
use Rattle.body.proofs.Later.{later_nil, later_add}
use Rattle.body.proofs.Same.{fewer, slot_ok_agree, slots_agree}
use Rattle.record.proofs.Back.{same_record}
use Rattle.packing.specs.Packing.{chosen, packed, flag}
use Rattle.packing.proofs.Packed.{none_cons, packed_records, packed_ok, packed_same, first_kept}
use Rattle.keeping.specs.Keeping.{keeps, keeps_from, keeps_at, kept_at, blanks, blanked_from, moved_from, moved}
use Rattle.keeping.proofs.Laws.{keeps_more}

-- as many flags as slots
pub keeps_length : (closed : ℕ) (t : List ℕ) (at n : ℕ) (seen : List Record) → length (keeps_from closed t at n seen) ≡ n
unfolding keeps_from
keeps_length closed t at zero seen = refl
keeps_length closed t at (suc n) seen = ap suc (keeps_length closed t (at + slot_size) n (seen ++ cond (keeps closed t at seen) (record_at t at ∷ []) []))

-- a kept slot is valid by itself
flag_true : (b : Bool) → flag b ≡ 1 → b ≡ true
flag_true true e = refl
flag_true false e = absurd (omega arith)

kept_valid : (closed : ℕ) (t : List ℕ) (at : ℕ) (seen : List Record) → keeps closed t at seen ≡ true → slot_ok t at ≡ true
unfolding keeps
kept_valid closed t at seen e = (both (slot_ok t at) _ e).0

kept_later : (closed : ℕ) (t : List ℕ) (at : ℕ) (seen : List Record) → keeps closed t at seen ≡ true → closed < (record_at t at).esercizio
unfolding keeps
kept_later closed t at seen e = ltb-true _ _ (both (ltb closed (record_at t at).esercizio) _ (both (slot_ok t at) _ e).1).0

kept_new : (closed : ℕ) (t : List ℕ) (at : ℕ) (seen : List Record) → keeps closed t at seen ≡ true → is_nothing (find_in seen 0 (key_of (record_at t at))) ≡ true
unfolding keeps
kept_new closed t at seen e = (both (ltb closed (record_at t at).esercizio) _ (both (slot_ok t at) _ e).1).1

pub keeps_valid : (closed : ℕ) (t : List ℕ) (at n : ℕ) (seen : List Record) (i : ℕ) → i < n → get_or (keeps_from closed t at n seen) i 0 ≡ 1 → slot_ok t (at + slot_size * i) ≡ true
unfolding keeps_from
keeps_valid closed t at zero seen i h e = absurd (not-suc-le-zero h)
keeps_valid closed t at (suc n) seen zero h e = let q : at + slot_size * 0 ≡ at = omega arith in ap (slot_ok t) q ∙ kept_valid closed t at seen (flag_true (keeps closed t at seen) e)
keeps_valid closed t at (suc n) seen (suc i) h e =
    let q : at + slot_size * suc i ≡ at + slot_size + slot_size * i = omega arith in
    ap (slot_ok t) q ∙ keeps_valid closed t (at + slot_size) n (seen ++ cond (keeps closed t at seen) (record_at t at ∷ []) []) i (omega arith) e

-- a valid slot is a used one
pub valid_used : (t : List ℕ) (at : ℕ) → slot_ok t at ≡ true → get_or t at 0 ≡ 0 → ⊥
unfolding record_at
valid_used t at e z = ok_used (record_at t at) (both (rest_zero t at) (record_ok (record_at t at)) (sym (slot_rest t at) ∙ e)).1 z

-- no key is kept twice
flag_chosen : (b : Bool) (r : Record) (rs : List Record) (fs : List ℕ) → chosen (r ∷ rs) (flag b ∷ fs) ≡ cond b (r ∷ []) [] ++ chosen rs fs
unfolding chosen
flag_chosen true r rs fs = refl
flag_chosen false r rs fs = refl

none : chosen {A = Record} [] [] ≡ []
unfolding chosen
none = refl

keeps_distinct : (closed : ℕ) (t : List ℕ) (at n : ℕ) (seen : List Record) → distinct seen ≡ true → distinct (seen ++ chosen (slots_at t at n) (keeps_from closed t at n seen)) ≡ true
unfolding keeps_from slots_at
keeps_distinct closed t at zero seen d = ap distinct (ap (λ (l : List Record). seen ++ l) none ∙ append-nil seen) ∙ d
keeps_distinct closed t at (suc n) seen d =
    let b : Bool = keeps closed t at seen in
    let next : List Record = seen ++ cond b (record_at t at ∷ []) [] in
    let s : distinct next ≡ true = new b refl in
    ap distinct
    (ap (λ (l : List Record). seen ++ l) (flag_chosen b (record_at t at) (slots_at t (at + slot_size) n) (keeps_from closed t (at + slot_size) n next))
    ∙ sym (append_assoc seen (cond b (record_at t at ∷ []) []) (chosen (slots_at t (at + slot_size) n) (keeps_from closed t (at + slot_size) n next))))
    ∙ keeps_distinct closed t (at + slot_size) n next s
  where
    new : (b : Bool) → keeps closed t at seen ≡ b → distinct (seen ++ cond b (record_at t at ∷ []) []) ≡ true
    new true e = distinct_add seen (record_at t at) (kept_new closed t at seen e) d
    new false e = ap distinct (append-nil seen) ∙ d

-- and every kept record is of a year after the closed one
keeps_later : (closed : ℕ) (t : List ℕ) (at n : ℕ) (seen : List Record) → all_later closed seen ≡ true
    → all_later closed (seen ++ chosen (slots_at t at n) (keeps_from closed t at n seen)) ≡ true
unfolding keeps_from slots_at
keeps_later closed t at zero seen d = ap (all_later closed) (ap (λ (l : List Record). seen ++ l) none ∙ append-nil seen) ∙ d
keeps_later closed t at (suc n) seen d =
    let b : Bool = keeps closed t at seen in
    let next : List Record = seen ++ cond b (record_at t at ∷ []) [] in
    let s : all_later closed next ≡ true = new b refl in
    ap (all_later closed)
    (ap (λ (l : List Record). seen ++ l) (flag_chosen b (record_at t at) (slots_at t (at + slot_size) n) (keeps_from closed t (at + slot_size) n next))
    ∙ sym (append_assoc seen (cond b (record_at t at ∷ []) []) (chosen (slots_at t (at + slot_size) n) (keeps_from closed t (at + slot_size) n next))))
    ∙ keeps_later closed t (at + slot_size) n next s
  where
    new : (b : Bool) → keeps closed t at seen ≡ b → all_later closed (seen ++ cond b (record_at t at ∷ []) []) ≡ true
    new true e = later_add closed seen (record_at t at) (kept_later closed t at seen e) d
    new false e = ap (all_later closed) (append-nil seen) ∙ d

empty_distinct : distinct [] ≡ true
unfolding distinct
empty_distinct = refl

module _ (closed : ℕ) (t : List ℕ) (base n : ℕ) (fits : base + slot_size * n ≤ length t) where
  abbrev fs : List ℕ
  fs = keeps_at closed t base n

  long : length fs ≡ n
  long = keeps_length closed t base n []

  room : base + slot_size * length fs ≤ length t
  room = omega (arith, long)

  used : (i : ℕ) → i < length fs → get_or fs i 0 ≡ 1 → get_or t (base + slot_size * i) 0 ≡ 0 → ⊥
  used i h e = valid_used t (base + slot_size * i) (keeps_valid closed t base n [] i (omega (arith, long)) e)

  -- A REPAIRED BODY IS VALID, whatever it was
  pub repaired_ok : body_ok (packed t base (keeps_at closed t base n)) base n ≡ true
  repaired_ok =
      ap (body_ok (packed t base fs) base) (sym long)
      ∙ packed_ok t base fs room used (λ i h e. keeps_valid closed t base n [] i (omega (arith, long)) e)
      (ap (λ (m : ℕ). distinct (chosen (slots_at t base m) fs)) long ∙ keeps_distinct closed t base n [] empty_distinct)

  -- ITS RECORDS are the kept ones, in order
  pub repaired_records : records_at (packed t base (keeps_at closed t base n)) base n ≡ chosen (slots_at t base n) (keeps_at closed t base n)
  repaired_records =
      ap (records_at (packed t base fs) base) (sym long)
      ∙ packed_records t base fs room used
      ∙ ap (λ (m : ℕ). chosen (slots_at t base m) fs) long

  pub repaired_later : all_later closed (chosen (slots_at t base n) (keeps_at closed t base n)) ≡ true
  repaired_later = keeps_later closed t base n [] (later_nil closed)

-- A VALID BODY COMES OUT THE SAME

key_swap : (r x : Record) → key_is r (key_of x) ≡ key_is x (key_of r)
unfolding key_is
key_swap r x =
    let s : (m n : ℕ) → eqb m n ≡ eqb n m = λ m n. same_test m n n m sym sym in
    λ i. s r.kind x.kind i && (s r.esercizio x.esercizio i && s r.number x.number i)

apart : (seen : List Record) (r : Record) (rest : List Record) (k : Key) → is_nothing (find_in (seen ++ r ∷ rest) 0 k) ≡ true → key_is r k ≡ false
apart [] r rest k e = (none_cons r rest k e).0
apart (x ∷ seen) r rest k e = apart seen r rest k (none_cons x (seen ++ r ∷ rest) k e).1

nothing : (k : Key) → is_nothing (find_in [] 0 k) ≡ true
unfolding find_in
nothing k = refl

-- of a list where no key stands twice, a later record's key isn't among those before it
distinct_none : (seen : List Record) (r : Record) (rest : List Record) → distinct (seen ++ r ∷ rest) ≡ true → is_nothing (find_in seen 0 (key_of r)) ≡ true
unfolding distinct
distinct_none [] r rest e = nothing (key_of r)
distinct_none (x ∷ seen) r rest e =
    let w = both (is_nothing (find_in (seen ++ r ∷ rest) 0 (key_of x))) (distinct (seen ++ r ∷ rest)) e in
    cons_none x seen (key_of r) (key_swap x r ∙ apart seen r rest (key_of x) w.0) (distinct_none seen r rest w.1)

kept_here : (closed : ℕ) (t : List ℕ) (at : ℕ) (seen : List Record) → slot_ok t at ≡ true → ltb closed (record_at t at).esercizio ≡ true
    → is_nothing (find_in seen 0 (key_of (record_at t at))) ≡ true → keeps closed t at seen ≡ true
unfolding keeps
kept_here closed t at seen a l b = λ i. a i && (l i && b i)

-- u slots that are valid, of later years and different keys, are kept; n slots in all
keeps_all : (closed : ℕ) (t : List ℕ) (at u m n : ℕ) (seen : List Record) → n ≡ u + m → slots_ok t at u ≡ true → all_later closed (slots_at t at u) ≡ true
    → distinct (seen ++ slots_at t at u) ≡ true
    → keeps_from closed t at n seen ≡ replicate u 1 ++ keeps_from closed t (at + slot_size * u) m (seen ++ slots_at t at u)
unfolding slots_ok slots_at all_later
keeps_all closed t at zero m n seen q v y d =
    let p : at ≡ at + slot_size * 0 = omega arith in
    let k : n ≡ m = omega arith in
    λ i. keeps_from closed t (p i) (k i) (sym (append-nil seen) i)
keeps_all closed t at (suc u) m n seen q v y d =
    let w = both (slot_ok t at) (slots_ok t (at + slot_size) u) v in
    let x = both (ltb closed (record_at t at).esercizio) (all_later closed (slots_at t (at + slot_size) u)) y in
    let r : Record = record_at t at in
    let k : keeps closed t at seen ≡ true = kept_here closed t at seen w.0 x.0 (distinct_none seen r (slots_at t (at + slot_size) u) d) in
    let a : (seen ++ r ∷ []) ++ slots_at t (at + slot_size) u ≡ seen ++ r ∷ slots_at t (at + slot_size) u = append_assoc seen (r ∷ []) (slots_at t (at + slot_size) u) in
    let p : at + slot_size + slot_size * u ≡ at + slot_size * suc u = omega arith in
    keeps_more closed t at n (u + m) seen (omega arith)
    ∙ (λ i. flag (k i) ∷ keeps_from closed t (at + slot_size) (u + m) (seen ++ cond (k i) (r ∷ []) []))
    ∙ ap (λ (l : List ℕ). 1 ∷ l)
    (keeps_all closed t (at + slot_size) u m (u + m) (seen ++ r ∷ []) refl w.1 x.1 (ap distinct a ∙ d)
    ∙ (λ i. replicate u 1 ++ keeps_from closed t (p i) m (a i)))

-- m slots whose bytes are zero are not kept
not_kept : (closed : ℕ) (t : List ℕ) (at : ℕ) (seen : List Record) → get_or t at 0 ≡ 0 → keeps closed t at seen ≡ false
not_kept closed t at seen z = go (keeps closed t at seen) refl
  where
    go : (b : Bool) → keeps closed t at seen ≡ b → b ≡ false
    go true e = absurd (valid_used t at (kept_valid closed t at seen e) z)
    go false e = refl

keeps_none : (closed : ℕ) (t : List ℕ) (at m : ℕ) (seen : List Record) → ((i : ℕ) → i < m → get_or t (at + slot_size * i) 0 ≡ 0) → keeps_from closed t at m seen ≡ replicate m 0
unfolding keeps_from
keeps_none closed t at zero seen z = refl
keeps_none closed t at (suc m) seen z =
    let p : at ≡ at + slot_size * 0 = omega arith in
    let k : keeps closed t at seen ≡ false = not_kept closed t at seen (ap (λ (x : ℕ). get_or t x 0) p ∙ z 0 (omega arith)) in
    (λ i. flag (k i) ∷ keeps_from closed t (at + slot_size) m (seen ++ cond (k i) (record_at t at ∷ []) []))
    ∙ ap (λ (l : List ℕ). 0 ∷ l)
    (keeps_none closed t (at + slot_size) m (seen ++ [])
    (λ i h. let q : at + slot_size + slot_size * i ≡ at + slot_size * suc i = omega arith in ap (λ (x : ℕ). get_or t x 0) q ∙ z (suc i) (omega arith)))

-- kept ones first, and slots of zeros after them: nothing is moved, nothing blanked
none_moved : (i to m : ℕ) → moved_from i to (replicate m 0) ≡ 0
unfolding moved_from
none_moved i to zero = refl
none_moved i to (suc m) = none_moved (i + 1) to m

first_moved : (i u m : ℕ) → moved_from i i (first_kept u m) ≡ 0
unfolding moved_from
first_moved i zero m = none_moved i i m
first_moved i (suc u) m = ap (λ (b : Bool). flag (not b) + moved_from (i + 1) (i + 1) (first_kept u m)) (eq-eqb i i refl) ∙ zero-add (moved_from (i + 1) (i + 1) (first_kept u m)) ∙ first_moved (i + 1) u m

blanks_zero : (t : List ℕ) (at : ℕ) → zeros t at (at + slot_size) ≡ true → blanks t at 0 ≡ false
unfolding blanks
blanks_zero t at z = ap not z

blanks_one : (t : List ℕ) (at : ℕ) → blanks t at 1 ≡ false
unfolding blanks
blanks_one t at = refl

none_blanked : (t : List ℕ) (at m : ℕ) → ((i : ℕ) → at ≤ i → i < at + slot_size * m → get_or t i 0 ≡ 0) → blanked_from t at (replicate m 0) ≡ []
unfolding blanked_from
none_blanked t at zero z = refl
none_blanked t at (suc m) z =
    let b = blanks_zero t at (get_zeros t at (at + slot_size) (λ i a h. z i a (omega arith))) in
    ap (λ (x : Bool). cond x (at ∷ []) [] ++ blanked_from t (at + slot_size) (replicate m 0)) b
    ∙ none_blanked t (at + slot_size) m (λ i a h. z i (omega arith) (omega arith))

first_blanked : (t : List ℕ) (at u m : ℕ) → ((i : ℕ) → at + slot_size * u ≤ i → i < at + slot_size * (u + m) → get_or t i 0 ≡ 0) → blanked_from t at (first_kept u m) ≡ []
unfolding blanked_from
first_blanked t at zero m z = none_blanked t at m (λ i a h. z i (omega arith) (omega arith))
first_blanked t at (suc u) m z =
    ap (λ (x : Bool). cond x (at ∷ []) [] ++ blanked_from t (at + slot_size) (first_kept u m)) (blanks_one t at)
    ∙ first_blanked t (at + slot_size) u m (λ i a h. z i (omega arith) (omega arith))

module _ (closed : ℕ) (t : List ℕ) (base n : ℕ) (fits : base + slot_size * n ≤ length t) (ok : body_ok t base n ≡ true)
    (later : all_later closed (records_at t base n) ≡ true) where
  abbrev u : ℕ
  u = used_at t base n

  pub valid_flags : keeps_at closed t base n ≡ first_kept (used_at t base n) (n - used_at t base n)
  valid_flags =
      let p = parts t base n ok in
      let l = used_le t base n in
      keeps_all closed t base u (n - u) n [] (omega arith) p.slots later p.keys
      ∙ ap (λ (x : List ℕ). replicate u 1 ++ x)
      (keeps_none closed t (base + slot_size * u) (n - u) (slots_at t base u)
      (λ i h. zeros_get t (base + slot_size * u) (base + slot_size * n) p.empty (base + slot_size * u + slot_size * i) (omega arith) (omega arith)))

  pub repaired_same : packed t base (keeps_at closed t base n) ≡ t
  repaired_same =
      let l = used_le t base n in
      let q : u + (n - u) ≡ n = omega arith in
      ap (packed t base) valid_flags
      ∙ packed_same t base u (n - u) (omega arith) (ap (λ (x : ℕ). zeros t (base + slot_size * u) (base + slot_size * x)) q ∙ (parts t base n ok).empty)

  -- its records are all kept, none is moved, and no slot is blanked
  pub valid_kept : kept_at closed t base n ≡ records_at t base n
  valid_kept = sym (repaired_records closed t base n fits) ∙ ap (λ (s : List ℕ). records_at s base n) repaired_same

  pub valid_moved : moved (keeps_at closed t base n) ≡ 0
  valid_moved = ap moved valid_flags ∙ first_moved 0 u (n - u)

  pub valid_blanked : blanked_from t base (keeps_at closed t base n) ≡ []
  valid_blanked =
      let l = used_le t base n in
      let p = parts t base n ok in
      ap (blanked_from t base) valid_flags
      ∙ first_blanked t base u (n - u)
      (λ i a b. zeros_get t (base + slot_size * u) (base + slot_size * n) p.empty i a (omega arith))

-- WHAT IS KEPT goes by the closed year and the slots' bytes alone
keeps_agree : (closed : ℕ) {s t : List ℕ} {p q : ℕ} → Agree s p t q slot_size → (seen : List Record) → keeps closed s p seen ≡ keeps closed t q seen
unfolding keeps
keeps_agree closed a seen =
    let x = slot_ok_agree a in
    let y = same_record a in
    λ i. x i && (ltb closed (y i).esercizio && is_nothing (find_in seen 0 (key_of (y i))))

flags_agree : (closed : ℕ) {s t : List ℕ} (p q : ℕ) (n : ℕ) (seen : List Record) → Agree s p t q (slot_size * n) → keeps_from closed s p n seen ≡ keeps_from closed t q n seen
unfolding keeps_from
flags_agree closed p q zero seen a = refl
flags_agree closed {s} {t} p q (suc n) seen a =
    let h = fewer a slot_size (omega arith) in
    let k = keeps_agree closed h seen in
    let r = same_record h in
    let z = flags_agree closed (p + slot_size) (q + slot_size) n (seen ++ cond (keeps closed s p seen) (record_at s p ∷ []) []) (on a slot_size (slot_size * n) (omega arith)) in
    ap (λ (l : List ℕ). flag (keeps closed s p seen) ∷ l) z
    ∙ (λ i. flag (k i) ∷ keeps_from closed t (q + slot_size) n (seen ++ cond (k i) (r i ∷ []) []))

pub kept_agree : (closed : ℕ) {s t : List ℕ} {p q : ℕ} (n : ℕ) → Agree s p t q (slot_size * n) → kept_at closed s p n ≡ kept_at closed t q n
kept_agree closed n a i = chosen (slots_agree n a i) (flags_agree closed _ _ n [] a i)
