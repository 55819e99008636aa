-- Laws of the code, one way through it at a time: flags, blanked slots, moved records.
use Rattle.std.specs.Option.{is_some}
use Prim.Native.Nat.{ℕ, suc, ◌+◌, ◌-◌, ◌*◌, ◌≤◌, ◌<◌}
use mathlib.Core.Bool.{Bool, true, false, not, cond}
use mathlib.Core.List.{List, [], ◌∷◌, ◌++◌, append_assoc, append-nil}
use mathlib.Core.Path.{◌≡◌, refl, sym, ap, subst⁻¹, ◌∙◌}
use native.Mathlib.Omega.{arith}
use native.Mathlib.Numerals.{add-one}
use lib.ListN.{length, get_or, take, drop, set, drop_of_length-le}
use lib.Seq.{length-take-le, drop-cons, get_or-take, take-suc-set, take_all}
use lib.Dec.{eqb}
use borrow.Author.Tests.{eq-eqb, ne_eqb}
use Rattle.words.specs.Numbers.{put}
use Rattle.words.proofs.Laws.{put_put, put_nil}
use Rattle.record.specs.declared.Record.{Record}
use Rattle.record.specs.declared.Key.{Key}
use Rattle.record.specs.Slot.{slot_size, record_at, key_is, key_of}
use Rattle.ranges.specs.Ranges.{is_nothing}
use Rattle.valid.specs.Inner.{judged_by}
use Rattle.slots.specs.Slots.{slots_at, find_in}
use Rattle.slots.proofs.Laws.{slots_more, find_first, find_later}
use Rattle.slots.specs.Inner.{mark_of}
use Rattle.slots.proofs.Index.{length_slots, slots_snoc}
use Rattle.slots.proofs.Search.{cons_none}
use Rattle.slots.proofs.Filter.{Marked, marked_none, marked_by, other_key}
use Rattle.packing.specs.Packing.{chosen, flag}
use Rattle.packing.proofs.Packed.{none_any, none_cons}
use Rattle.keeping.specs.Keeping.{keeps, keeps_from, keeps_at, blanks, blanked_from, moved_from, each_bytes}

-- A VALID SLOT, as its judge tells it
pub slot_told : (b : Bool) (cents : ℕ) → is_some (judged_by b cents) ≡ b
slot_told true cents = refl
slot_told false cents = refl

-- CHOSEN, from the front and at the end
module _ {A : Type 0} (x : A) (xs : List A) (f : ℕ) (fs : List ℕ) where
  chosen_yes : f ≡ 1 → chosen (x ∷ xs) (f ∷ fs) ≡ x ∷ chosen xs fs
  unfolding chosen
  chosen_yes e = rw (eq-eqb f 1 e)

  chosen_no : (f ≡ 1 → ⊥) → chosen (x ∷ xs) (f ∷ fs) ≡ chosen xs fs
  unfolding chosen
  chosen_no e = rw (ne_eqb f 1 e)

pub chosen_snoc : {A : Type 0} (xs : List A) (x : A) (fs : List ℕ) (f : ℕ) → length xs ≡ length fs → chosen (xs ++ x ∷ []) (fs ++ f ∷ []) ≡ chosen xs fs ++ cond (eqb f 1) (x ∷ []) []
unfolding chosen
chosen_snoc [] x [] f e = append-nil (cond (eqb f 1) (x ∷ []) [])
chosen_snoc [] x (g ∷ fs) f e = absurd (omega arith)
chosen_snoc (y ∷ xs) x [] f e = absurd (omega arith)
chosen_snoc (y ∷ xs) x (g ∷ fs) f e =
    ap (λ (r : List _). cond (eqb g 1) (y ∷ []) [] ++ r) (chosen_snoc xs x fs f (omega arith))
    ∙ sym (append_assoc (cond (eqb g 1) (y ∷ []) []) (chosen xs fs) (cond (eqb f 1) (x ∷ []) []))

-- A KEY AMONG THE KEPT: the answer from slot i on is the whole answer
abbrev pub none_from : List ℕ → ℕ → List ℕ → ℕ → Key → ℕ → Bool
none_from t base fs n k i = is_nothing (find_in (chosen (slots_at t (base + slot_size * i) (n - i)) (drop i (take n fs))) 0 k)

pub none_start : (t : List ℕ) (base : ℕ) (fs : List ℕ) (n : ℕ) (k : Key) → is_nothing (find_in (chosen (slots_at t base n) (take n fs)) 0 k) ≡ none_from t base fs n k 0
none_start t base fs n k =
    let p : base ≡ base + slot_size * 0 = omega arith in
    let q : n ≡ n - 0 = omega arith in
    λ j. is_nothing (find_in (chosen (slots_at t (p j) (q j)) (take n fs)) 0 k)

module _ (t : List ℕ) (base : ℕ) (fs : List ℕ) (n : ℕ) (k : Key) (i : ℕ) (low : i < n) (fits : n ≤ length fs) where
  abbrev here : Record
  here = record_at t (base + slot_size * i)

  rest : List Record
  rest = slots_at t (base + slot_size * (i + 1)) (n - (i + 1))

  slots_here : slots_at t (base + slot_size * i) (n - i) ≡ here ∷ slots_at t (base + slot_size * (i + 1)) (n - (i + 1))
  slots_here =
      let q : base + slot_size * i + slot_size ≡ base + slot_size * (i + 1) = omega arith in
      slots_more t (base + slot_size * i) (n - i) (n - (i + 1)) (omega arith) ∙ ap (λ (p : ℕ). here ∷ slots_at t p (n - (i + 1))) q

  flags_here : drop i (take n fs) ≡ get_or fs i 0 ∷ drop (i + 1) (take n fs)
  flags_here =
      let l = length-take-le n fs fits in
      drop-cons (take n fs) i 0 (omega arith) ∙ (λ j. get_or-take n fs i 0 low j ∷ drop (sym (add-one i) j) (take n fs))

  abbrev later : List Record
  later = chosen (slots_at t (base + slot_size * (i + 1)) (n - (i + 1))) (drop (i + 1) (take n fs))

  both_here : chosen (slots_at t (base + slot_size * i) (n - i)) (drop i (take n fs)) ≡ chosen (here ∷ slots_at t (base + slot_size * (i + 1)) (n - (i + 1))) (get_or fs i 0 ∷ drop (i + 1) (take n fs))
  both_here = λ j. chosen (slots_here j) (flags_here j)

  pub none_skip : (get_or fs i 0 ≡ 1 → ⊥) → none_from t base fs n k i ≡ none_from t base fs n k (i + 1)
  none_skip h = ap (λ (l : List Record). is_nothing (find_in l 0 k)) (both_here ∙ chosen_no here _ (get_or fs i 0) (drop (i + 1) (take n fs)) h)

  module _ (h : get_or fs i 0 ≡ 1) {b : Bool} (e : b ≡ key_is (record_at t (base + slot_size * i)) k) where
    front : chosen (slots_at t (base + slot_size * i) (n - i)) (drop i (take n fs)) ≡ here ∷ later
    front = both_here ∙ chosen_yes here _ (get_or fs i 0) (drop (i + 1) (take n fs)) h

    pub none_hit : b ≡ true → false ≡ none_from t base fs n k i
    none_hit g = sym (ap is_nothing (find_first front 0 k (sym e ∙ g)))

    pub none_pass : b ≡ false → none_from t base fs n k i ≡ none_from t base fs n k (i + 1)
    none_pass g = ap is_nothing (find_later front 0 k (sym e ∙ g)) ∙ none_any later 1 0 k

pub none_end : (t : List ℕ) (base : ℕ) (fs : List ℕ) (n : ℕ) (k : Key) (i : ℕ) → n ≤ length fs → n ≤ i → true ≡ none_from t base fs n k i
unfolding chosen find_in
none_end t base fs n k i fits h =
    let l = length-take-le n fs fits in
    let d = drop_of_length-le (take n fs) {i = i} (omega arith) in
    rw d

-- ALL FLAGS: those set so far, and those from here on, are the whole
abbrev pub flags_from : ℕ → List ℕ → ℕ → ℕ → List ℕ → ℕ → List ℕ
flags_from closed t base n fs i = take i fs ++ keeps_from closed t (base + slot_size * i) (n - i) (chosen (slots_at t base i) (take i fs))

pub flags_start : (closed : ℕ) (t : List ℕ) (base n : ℕ) (fs : List ℕ) → keeps_at closed t base n ≡ flags_from closed t base n fs 0
unfolding chosen slots_at
flags_start closed t base n fs =
    let p : base ≡ base + slot_size * 0 = omega arith in
    let q : n ≡ n - 0 = omega arith in
    λ j. keeps_from closed t (p j) (q j) []

pub keeps_more : (closed : ℕ) (t : List ℕ) (at n m : ℕ) (seen : List Record) → n ≡ suc m
    → keeps_from closed t at n seen ≡ flag (keeps closed t at seen) ∷ keeps_from closed t (at + slot_size) m (seen ++ cond (keeps closed t at seen) (record_at t at ∷ []) [])
unfolding keeps_from
keeps_more closed t at n m seen e = rw e

flag_one : (b : Bool) {A : Type 0} (x y : A) → cond (eqb (flag b) 1) x y ≡ cond b x y
flag_one true x y = refl
flag_one false x y = refl

-- one more slot's flag: the records kept so far
sofar_more : (closed : ℕ) (t : List ℕ) (base : ℕ) (fs : List ℕ) (i f : ℕ) → i < length fs → f ≡ flag (keeps closed t (base + slot_size * i) (chosen (slots_at t base i) (take i fs)))
    → chosen (slots_at t base (i + 1)) (take (i + 1) (set fs i f))
    ≡ chosen (slots_at t base i) (take i fs) ++ cond (keeps closed t (base + slot_size * i) (chosen (slots_at t base i) (take i fs))) (record_at t (base + slot_size * i) ∷ []) []
sofar_more closed t base fs i f low e =
    let seen : List Record = chosen (slots_at t base i) (take i fs) in
    let at : ℕ = base + slot_size * i in
    let w : take (i + 1) (set fs i f) ≡ take i fs ++ f ∷ [] = ap (λ (k : ℕ). take k (set fs i f)) (add-one i) ∙ take-suc-set fs i f low in
    let l : length (slots_at t base i) ≡ length (take i fs) = length_slots t base i ∙ sym (length-take-le i fs (omega arith)) in
    let s : slots_at t base (i + 1) ≡ slots_at t base i ++ record_at t at ∷ [] = ap (slots_at t base) (add-one i) ∙ slots_snoc t base i in
    (λ j. chosen (s j) (w j)) ∙ chosen_snoc (slots_at t base i) (record_at t at) (take i fs) f l
    ∙ ap (λ (x : ℕ). seen ++ cond (eqb x 1) (record_at t at ∷ []) []) e ∙ ap (λ (r : List Record). seen ++ r) (flag_one (keeps closed t at seen) (record_at t at ∷ []) [])

pub flags_more : (closed : ℕ) (t : List ℕ) (base n : ℕ) (fs : List ℕ) (i f : ℕ) → n ≡ length fs → i < n → f ≡ flag (keeps closed t (base + slot_size * i) (chosen (slots_at t base i) (take i fs)))
    → flags_from closed t base n fs i ≡ flags_from closed t base n (set fs i f) (i + 1)
flags_more closed t base n fs i f q low e =
    let seen : List Record = chosen (slots_at t base i) (take i fs) in
    let at : ℕ = base + slot_size * i in
    let w : take (i + 1) (set fs i f) ≡ take i fs ++ f ∷ [] = ap (λ (k : ℕ). take k (set fs i f)) (add-one i) ∙ take-suc-set fs i f (omega arith) in
    let c = sofar_more closed t base fs i f (omega arith) e in
    let p : at + slot_size ≡ base + slot_size * (i + 1) = omega arith in
    let k : keeps_from closed t at (n - i) seen ≡ f ∷ keeps_from closed t (base + slot_size * (i + 1)) (n - (i + 1)) (chosen (slots_at t base (i + 1)) (take (i + 1) (set fs i f))) =
    keeps_more closed t at (n - i) (n - (i + 1)) seen (omega arith)
    ∙ (λ j. sym e j ∷ keeps_from closed t (p j) (n - (i + 1)) (sym c j)) in
    ap (λ (r : List ℕ). take i fs ++ r) k
    ∙ sym (append_assoc (take i fs) (f ∷ []) (keeps_from closed t (base + slot_size * (i + 1)) (n - (i + 1)) (chosen (slots_at t base (i + 1)) (take (i + 1) (set fs i f)))))
    ∙ ap (λ (r : List ℕ). r ++ keeps_from closed t (base + slot_size * (i + 1)) (n - (i + 1)) (chosen (slots_at t base (i + 1)) (take (i + 1) (set fs i f)))) (sym w)

pub flags_end : (closed : ℕ) (t : List ℕ) (base n : ℕ) (fs : List ℕ) (i : ℕ) → n ≡ length fs → n ≤ i → i ≤ n → flags_from closed t base n fs i ≡ fs
unfolding keeps_from
flags_end closed t base n fs i q h g =
    let z : n - i ≡ 0 = omega arith in
    ap (λ (m : ℕ). take i fs ++ keeps_from closed t (base + slot_size * i) m (chosen (slots_at t base i) (take i fs))) z
    ∙ append-nil (take i fs) ∙ take_all i fs (omega arith)

-- THE FILTER of keys that were kept: marked with the flag's slot, whether that is kept or not
none_last : (rs : List Record) (r : Record) (k : Key) → key_is r k ≡ false → is_nothing (find_in rs 0 k) ≡ true → is_nothing (find_in (rs ++ r ∷ []) 0 k) ≡ true
none_last [] r k n e = cons_none r [] k n e
none_last (x ∷ rs) r k n e = let w = none_cons x rs k e in cons_none x (rs ++ r ∷ []) k w.0 (none_last rs r k n w.1)

mark_one : (b : Bool) (seen : List ℕ) (rs : List Record) (r : Record) (h : ℕ) → Marked seen rs → h ≡ mark_of (key_of r) → h < 4096 → Marked (set seen h 1) (rs ++ cond b (r ∷ []) [])
mark_one true seen rs r h m q l = marked_by seen rs (rs ++ r ∷ []) h m l (λ k n. none_last rs r k (other_key r k (λ p. n (p ∙ sym q))))
mark_one false seen rs r h m q l = marked_by seen rs (rs ++ []) h m l (λ k n e. ap (λ (x : List Record). is_nothing (find_in x 0 k)) (append-nil rs) ∙ e)

-- the records kept among the first i slots
abbrev pub sofar : List ℕ → ℕ → List ℕ → ℕ → List Record
sofar t base fs i = chosen (slots_at t base i) (take i fs)

pub marked_start : (t : List ℕ) (base : ℕ) (fs seen : List ℕ) → length seen ≡ 4096 → Marked seen (sofar t base fs 0)
unfolding chosen
marked_start t base fs seen l = marked_none l refl

pub marked_more : (closed : ℕ) (t : List ℕ) (base : ℕ) (fs seen : List ℕ) (i f h : ℕ) {k : Key} → i < length fs → k ≡ key_of (record_at t (base + slot_size * i)) → h ≡ mark_of k → h < 4096
    → f ≡ flag (keeps closed t (base + slot_size * i) (sofar t base fs i)) → Marked seen (sofar t base fs i) → Marked (set seen h 1) (sofar t base (set fs i f) (i + 1))
marked_more closed t base fs seen i f h low q p l e m =
    subst⁻¹ (λ (rs : List Record). Marked (set seen h 1) rs) (sofar_more closed t base fs i f low e)
    (mark_one (keeps closed t (base + slot_size * i) (sofar t base fs i)) seen (sofar t base fs i) (record_at t (base + slot_size * i)) h m (p ∙ ap mark_of q) l)

-- BLANKED SLOTS: the slot at `at`, whose flag is f
-- those from slot i on
abbrev pub blanked_rest : List ℕ → ℕ → List ℕ → ℕ → List ℕ
blanked_rest t base fs i = blanked_from t (base + slot_size * i) (drop i fs)

module _ (t : List ℕ) (base : ℕ) (fs : List ℕ) (i : ℕ) (low : i < length fs) {b : Bool} (e : b ≡ blanks t (base + slot_size * i) (get_or fs i 0)) where
  rest_is : blanked_rest t base fs i ≡ cond b ((base + slot_size * i) ∷ []) [] ++ blanked_rest t base fs (i + 1)
  unfolding blanked_from
  rest_is =
      let at : ℕ = base + slot_size * i in
      let q : at + slot_size ≡ base + slot_size * (i + 1) = omega arith in
      ap (blanked_from t at) (drop-cons fs i 0 low ∙ (λ j. get_or fs i 0 ∷ drop (sym (add-one i) j) fs))
      ∙ (λ j. cond (sym e j) (at ∷ []) [] ++ blanked_from t (q j) (drop (i + 1) fs))

  pub rest_yes : b ≡ true → blanked_rest t base fs i ≡ (base + slot_size * i) ∷ blanked_rest t base fs (i + 1)
  rest_yes h = rest_is ∙ ap (λ (x : Bool). cond x ((base + slot_size * i) ∷ []) [] ++ blanked_rest t base fs (i + 1)) h

  pub rest_no : b ≡ false → blanked_rest t base fs i ≡ blanked_rest t base fs (i + 1)
  rest_no h = rest_is ∙ ap (λ (x : Bool). cond x ((base + slot_size * i) ∷ []) [] ++ blanked_rest t base fs (i + 1)) h

pub rest_start : (t : List ℕ) (base : ℕ) (fs : List ℕ) → blanked_from t base fs ≡ blanked_rest t base fs 0
rest_start t base fs = let p : base ≡ base + slot_size * 0 = omega arith in ap (λ (b : ℕ). blanked_from t b fs) p

pub rest_end : (t : List ℕ) (base : ℕ) (fs : List ℕ) (i : ℕ) → length fs ≤ i → blanked_rest t base fs i ≡ []
unfolding blanked_from
rest_end t base fs i h = ap (blanked_from t (base + slot_size * i)) (drop_of_length-le fs {i = i} h)

-- numbers written one after the other, w bytes each: one more, and none
module _ (bytes : ℕ → List ℕ) (r : List ℕ) (to : ℕ) where
  pub put_more : (r' : List ℕ) (w v : ℕ) (vs : List ℕ) → length (bytes v) ≡ w → to ≤ length r → r' ≡ put r to (bytes v) → put r to (each_bytes bytes (v ∷ vs)) ≡ put r' (to + w) (each_bytes bytes vs)
  unfolding each_bytes
  put_more r' w v vs l h e =
      sym (ap (λ (x : List ℕ). put x (to + w) (each_bytes bytes vs)) e ∙ put_put r to (bytes v) (each_bytes bytes vs) (to + w) h (ap (λ (x : ℕ). to + x) l))

  pub put_none : put r to (each_bytes bytes []) ≡ r
  unfolding each_bytes
  put_none = put_nil r to

-- MOVED RECORDS: those from slot i on, of which the next kept one comes to slot `to`
module _ (fs : List ℕ) (i to : ℕ) (low : i < length fs) where
  moved_is : moved_from i to (drop i fs) ≡ cond (eqb (get_or fs i 0) 1) (flag (not (eqb i to)) + moved_from (i + 1) (to + 1) (drop (i + 1) fs)) (moved_from (i + 1) to (drop (i + 1) fs))
  unfolding moved_from
  moved_is = ap (moved_from i to) (drop-cons fs i 0 low ∙ (λ j. get_or fs i 0 ∷ drop (sym (add-one i) j) fs))

  pub moved_up : get_or fs i 0 ≡ 1 → (i ≡ to → ⊥) → moved_from i to (drop i fs) ≡ 1 + moved_from (i + 1) (to + 1) (drop (i + 1) fs)
  moved_up f n = moved_is ∙ rw (eq-eqb (get_or fs i 0) 1 f, ne_eqb i to n)

  pub moved_stays : get_or fs i 0 ≡ 1 → i ≡ to → moved_from i to (drop i fs) ≡ moved_from (i + 1) (to + 1) (drop (i + 1) fs)
  moved_stays f n = moved_is ∙ rw (eq-eqb (get_or fs i 0) 1 f, eq-eqb i to n) (omega arith)

  pub moved_not : (get_or fs i 0 ≡ 1 → ⊥) → moved_from i to (drop i fs) ≡ moved_from (i + 1) to (drop (i + 1) fs)
  moved_not f = moved_is ∙ rw (ne_eqb (get_or fs i 0) 1 f)

pub moved_end : (fs : List ℕ) (i to : ℕ) → length fs ≤ i → moved_from i to (drop i fs) ≡ 0
unfolding moved_from
moved_end fs i to h = ap (moved_from i to) (drop_of_length-le fs {i = i} h)
