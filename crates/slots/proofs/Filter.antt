-- The filter of keys that were seen, and the walk over the slots from the last to the first.
use Rattle.std.specs.Prelude.{Err}
use Prim.Native.Nat.{ℕ, zero, suc, ◌+◌, ◌-◌, ◌*◌, ◌≤◌, ◌<◌}
use mathlib.Core.Bool.{Bool, true, false, ◌&&◌, not, and-false}
use mathlib.Core.List.{List, [], ◌∷◌, ◌++◌}
use mathlib.Core.Path.{◌≡◌, refl, sym, ap, subst⁻¹, ◌∙◌}
use native.Mathlib.Omega.{arith}
use native.Mathlib.Numerals.{add-one, unary_clauses}
use lib.ListN.{length, get_or, set, replicate, length-set, length-replicate, get_or-replicate}
use lib.Seq.{get_or-set_same, get_or-set_other}
use lib.Dec.{eqb}
use borrow.Author.Tests.{eqb-true, not-false}
use Rattle.record.specs.Slot.{slot_size, record_at, key_is, key_of}
use Rattle.record.specs.declared.Record.{Record}
use Rattle.record.specs.declared.Key.{Key}
use Rattle.ranges.specs.Ranges.{is_nothing}
use Rattle.slots.specs.Inner.{seek_in, mark_of, Filters}
pub use Rattle.slots.specs.Inner.{Marked}
use Rattle.slots.specs.Slots.{used_at, slots_at, records_at, find_in, distinct}
use Rattle.slots.proofs.Laws.{slots_none, slots_more, find_nil, distinct_more, used_next}
use Rattle.slots.proofs.Search.{key_is_lem, cons_none, none_add, nothing_is, seek_none}
use Rattle.slots.proofs.Index.{length_records, slots_snoc}

pub marked_none : {seen : List ℕ} {rs : List Record} → length seen ≡ 4096 → rs ≡ [] → Marked seen rs
marked_none l e = record { size = l; absent = λ k z. ap is_nothing (find_nil e 0 k) }

-- a key whose place is not marked
pub unmarked : {seen : List ℕ} {rs : List Record} (k : Key) (h : ℕ) → Marked seen rs → h ≡ mark_of k → not (eqb (get_or seen h 0) 0) ≡ false → is_nothing (find_in rs 0 k) ≡ true
unmarked {seen} k h m q z = m.absent k (ap (λ (p : ℕ). get_or seen p 0) (sym q) ∙ eqb-true _ 0 (not-false _ z))

-- a record whose key is at another place has another key
pub other_key : (r : Record) (k : Key) → (mark_of k ≡ mark_of (key_of r) → ⊥) → key_is r k ≡ false
other_key r k n = go (key_is r k) refl where
  go : (b : Bool) → key_is r k ≡ b → key_is r k ≡ false
  go true e = absurd (n (ap mark_of (sym (key_is_lem r k e))))
  go false e = e

-- one more place marked: what is not is another one, and was not before
pub still_unmarked : (seen : List ℕ) (h p : ℕ) → length seen ≡ 4096 → h < 4096 → get_or (set seen h 1) p 0 ≡ 0 → (p ≡ h → ⊥) × (get_or seen p 0 ≡ 0)
still_unmarked seen h p s l z = (n, sym (get_or-set_other seen h p 1 0 n) ∙ z) where
  n : p ≡ h → ⊥
  n e =
      let w = get_or-set_same seen h 1 0 (omega arith) in
      let v = ap (λ (q : ℕ). get_or (set seen h 1) q 0) e in
      omega arith

-- other records, where no key of another place comes in with them
pub marked_by : (seen : List ℕ) (rs more : List Record) (h : ℕ) → Marked seen rs → h < 4096
    → ((k : Key) → (mark_of k ≡ h → ⊥) → is_nothing (find_in rs 0 k) ≡ true → is_nothing (find_in more 0 k) ≡ true) → Marked (set seen h 1) more
marked_by seen rs more h m l f = record {
  size = length-set seen h 1 ∙ m.size;
  absent = λ k z. let u = still_unmarked seen h (mark_of k) m.size l z in f k u.0 (m.absent k u.1);
}

-- one more record, with its place marked
mark : (seen : List ℕ) (rs : List Record) (r : Record) (h : ℕ) → Marked seen rs → h ≡ mark_of (key_of r) → h < 4096 → Marked (set seen h 1) (r ∷ rs)
mark seen rs r h m q l = marked_by seen rs (r ∷ rs) h m l (λ k n. cons_none r rs k (other_key r k (λ p. n (p ∙ sym q))))

-- a key that stands twice in the slots from one on stands twice in all of them
later_not : (t : List ℕ) (base m later : ℕ) → distinct (slots_at t (base + slot_size * m) later) ≡ false → distinct (slots_at t base (m + later)) ≡ false
later_not t base zero later e =
    let p : base ≡ base + slot_size * 0 = omega arith in
    let q : 0 + later ≡ later = omega arith in
    ap (λ (n : ℕ). distinct (slots_at t base n)) q ∙ ap (λ (b : ℕ). distinct (slots_at t b later)) p ∙ e
later_not t base (suc m) later e =
    let p : base + slot_size + slot_size * m ≡ base + slot_size * suc m = omega arith in
    let x = is_nothing (find_in (slots_at t (base + slot_size) (m + later)) 0 (key_of (record_at t base))) in
    distinct_more (slots_more t base (suc m + later) (m + later) (omega arith))
    ∙ ap (λ (b : Bool). x && b) (later_not t (base + slot_size) m later (ap (λ (b : ℕ). distinct (slots_at t b later)) p ∙ e)) ∙ and-false x

-- THE WALK, with the slot at `at` in front of the later ones, which begin at `next`

module _ (t : List ℕ) (base n next later at : ℕ) (s : next + slot_size * later ≡ base + slot_size * n) (l : later < n) (q : next ≡ at + slot_size) {k : Key} (e : k ≡ key_of (record_at t at)) where
  in_front : slots_at t at (later + 1) ≡ record_at t at ∷ slots_at t next later
  in_front = slots_more t at (later + 1) later (add-one later) ∙ ap (λ (p : ℕ). record_at t at ∷ slots_at t p later) (sym q)

  its_tests : distinct (slots_at t at (later + 1)) ≡ (is_nothing (find_in (slots_at t next later) 0 k) && distinct (slots_at t next later))
  its_tests = distinct_more in_front ∙ ap (λ (j : Key). is_nothing (find_in (slots_at t next later) 0 j) && distinct (slots_at t next later)) (sym e)

  pub repeated : is_nothing (find_in (slots_at t next later) 0 k) ≡ false → distinct (slots_at t base n) ≡ false
  repeated f =
      let m = n - (later + 1) in
      let w : at ≡ base + slot_size * m = omega arith in
      let v : n ≡ m + (later + 1) = omega arith in
      ap (λ (j : ℕ). distinct (slots_at t base j)) v
      ∙ later_not t base m (later + 1) (ap (λ (p : ℕ). distinct (slots_at t p (later + 1))) (sym w) ∙ its_tests ∙ ap (λ (b : Bool). b && distinct (slots_at t next later)) f)

  pub one_more : {seen : List ℕ} (h : ℕ) → h ≡ mark_of k → h < 4096 → is_nothing (find_in (slots_at t next later) 0 k) ≡ true
      → (distinct (slots_at t next later) ≡ true) × Marked seen (slots_at t next later)
      → (distinct (slots_at t at (later + 1)) ≡ true) × Marked (set seen h 1) (slots_at t at (later + 1))
  one_more {seen} h p b f w =
      let d = w.0 in
      let m = mark seen (slots_at t next later) (record_at t at) h w.1 (p ∙ ap mark_of e) b in
      (its_tests ∙ (λ i. f i && d i), subst⁻¹ (λ (rs : List Record). Marked (set seen h 1) rs) in_front m)

-- the walk is done
pub distinct_all : (t : List ℕ) (base n next later : ℕ) → next + slot_size * later ≡ base + slot_size * n → later ≤ n → n ≤ later
    → distinct (slots_at t next later) ≡ true → distinct (slots_at t base n) ≡ true
distinct_all t base n next later s l g d =
    let p : base ≡ next = omega arith in
    let q : n ≡ later = omega arith in
    (λ i. distinct (slots_at t (p i) (q i))) ∙ d

-- THE KEYS OF A BODY MARKED, from the first slot on

-- a record after the others, with its place marked
pub mark_last : (seen : List ℕ) (rs : List Record) (r : Record) (h : ℕ) → Marked seen rs → h ≡ mark_of (key_of r) → h < 4096 → Marked (set seen h 1) (rs ++ r ∷ [])
mark_last seen rs r h m q l = marked_by seen rs (rs ++ r ∷ []) h m l (λ k n. none_add rs r k (other_key r k (λ p. n (p ∙ sym q))))

-- the slots before i are used, and their keys marked
pub record Marking (t : List ℕ) (base n : ℕ) (seen : List ℕ) (i : ℕ) : Type 0 where
  pub low : i ≤ n
  pub count : used_at t base n ≡ i + used_at t (base + slot_size * i) (n - i)
  pub marked : Marked seen (slots_at t base i)

module _ (t : List ℕ) (base n : ℕ) {seen : List ℕ} where
  pub marking_start : length seen ≡ 4096 → Marking t base n seen 0
  marking_start l = record { low = omega arith; count = simp unary_clauses (omega arith); marked = marked_none l (slots_none t base 0 refl) }

  module _ {i : ℕ} (m : Marking t base n seen i) where
    pub marking_more : {k : Key} (h : ℕ) → i < n → (get_or t (base + slot_size * i) 0 ≡ 0 → ⊥) → k ≡ key_of (record_at t (base + slot_size * i)) → h ≡ mark_of k → h < 4096
        → Marking t base n (set seen h 1) (i + 1)
    marking_more h b z e p l =
        let u = m.count in
        let w = mark_last seen (slots_at t base i) (record_at t (base + slot_size * i)) h m.marked (p ∙ ap mark_of e) l in
        record {
          low = omega arith;
          count = omega (arith, used_next t base n i b z);
          marked = subst⁻¹ (λ (rs : List Record). Marked (set seen h 1) rs) (ap (slots_at t base) (add-one i) ∙ slots_snoc t base i) w;
        }

    pub marking_end : used_at t (base + slot_size * i) (n - i) ≡ 0 → (i ≡ used_at t base n) × Marked seen (records_at t base n)
    marking_end z =
        let e : used_at t base n ≡ i = omega (arith, m.count) in
        (sym e, subst⁻¹ (λ (j : ℕ). Marked seen (slots_at t base j)) e m.marked)

-- A SEARCH THAT ASKS THE FILTER FIRST

pub filters : (t : List ℕ) (base n : ℕ) {seen : List ℕ} {used : ℕ} → used ≡ used_at t base n → Marked seen (records_at t base n) → Filters seen used (records_at t base n)
filters t base n e m = record { marked = m; many = λ k z. e ∙ sym (length_records t base n) }

mark_low : (k : Key) → mark_of k < 4096
unfolding mark_of
mark_low k = omega arith

-- every place is marked
pub filters_all : (used : ℕ) (rs : List Record) → Filters (replicate 4096 1) used rs
filters_all used rs = record { marked = record { size = length-replicate {A = ℕ} 4096 1; absent = λ k z. absurd (never k z) }; many = λ k z. absurd (never k z) }
  where
    never : (k : Key) → get_or (replicate {A = ℕ} 4096 1) (mark_of k) 0 ≡ 0 → ⊥
    never k z = omega (arith, get_or-replicate {A = ℕ} 4096 (mark_of k) 1 0 (mark_low k))

-- other records with one more place marked, as above; their number follows from what it was
pub filters_by : {seen : List ℕ} {used used' : ℕ} (rs more : List Record) (key : Key) → Filters seen used rs
    → ((k : Key) → (mark_of k ≡ mark_of key → ⊥) → is_nothing (find_in rs 0 k) ≡ true → is_nothing (find_in more 0 k) ≡ true) → (used ≡ length rs → used' ≡ length more)
    → Filters (set seen (mark_of key) 1) used' more
filters_by {seen} rs more key f g c = record {
  marked = marked_by seen rs more (mark_of key) f.marked (mark_low key) g;
  many = λ k z. c (f.many k (still_unmarked seen (mark_of key) (mark_of k) f.marked.size (mark_low key) z).1);
}

pub seek_unmarked : {seen : List ℕ} {used : ℕ} (rs : List Record) (k : Key) (h : ℕ) → Filters seen used rs → h ≡ mark_of k → get_or seen h 0 ≡ 0 → Err used ≡ seek_in rs 0 k
seek_unmarked {seen} rs k h f q z =
    let u : get_or seen (mark_of k) 0 ≡ 0 = ap (λ (p : ℕ). get_or seen p 0) (sym q) ∙ z in
    ap Err (f.many k u) ∙ sym (seek_none rs k (nothing_is (find_in rs 0 k) (f.marked.absent k u)))
