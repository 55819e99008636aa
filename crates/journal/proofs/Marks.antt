-- The marks of the lines that were listed: eight for each slot.
use Rattle.std.specs.Prelude.{Some}
use Prim.Native.Nat.{ℕ, zero, suc, ◌+◌, ◌-◌, ◌*◌, ◌≤◌, ◌<◌}
use mathlib.Core.Bool.{Bool, true, false, ◌&&◌, ◌||◌, not, cond, or-true, or-false}
use mathlib.Core.List.{List, [], ◌∷◌, ◌++◌}
use mathlib.Core.Path.{◌≡◌, refl, sym, ap, ◌∙◌}
use native.Mathlib.Omega.{arith}
use native.Mathlib.Numerals.{add-one}
use lib.ListN.{length, get_or, set, drop, replicate, length-set, length-replicate, get_or-replicate, drop_of_length-le}
use lib.Seq.{get_or-set_same, get_or-set_other, drop-cons}
use lib.Dec.{eqb}
use borrow.Author.Tests.{eqb-true, eqb-false}
use Rattle.bounds.specs.Bounds.{max_slots}
use Rattle.record.specs.Slot.{slot_size, executed_line, states_offset, eight_at, record_at, key_of}
use Rattle.record.proofs.Back.{eight_at_lem}
use Rattle.record.specs.declared.Record.{Record}
use Rattle.record.specs.declared.Key.{Key}
use Rattle.slots.specs.Slots.{slots_at, records_at, find_in}
use Rattle.slots.proofs.Laws.{used_le, slots_more}
use Rattle.slots.proofs.Index.{length_records, get_record}
use Rattle.journal.specs.declared.Movement.{Movement}
use Rattle.journal.specs.Journal.{movement_of, executed_from, executed_of, executed_lines, same_line, any_of, all_of}
use Rattle.journal.specs.Inner.{movement_key, states_marked, all_marked, Walked}
use Rattle.journal.specs.Told.{OneLine}
use Rattle.journal.proofs.Laws.{any_nil, any_add, all_append, is_line, not_line}
use Rattle.journal.proofs.Lines.{key_test, hit_found, record_states, record_amounts}

-- A BODY'S RECORDS by slot

module _ {t : List ℕ} {base n used : ℕ} (W : Walked t base n used) where
  pub slot_length : (i : ℕ) → i < used → i < length (records_at t base n)
  slot_length i h = omega (arith, length_records t base n, W.known)

  pub slot_record : (i : ℕ) → i < used → get_or (records_at t base n) i (record_at t (base + slot_size * i)) ≡ record_at t (base + slot_size * i)
  slot_record i h = get_record t base n i (record_at t (base + slot_size * i)) (omega (arith, W.known))

  -- the slot that has the key is the one found
  pub slot_found : (i : ℕ) (k : Key) → i < used → key_of (record_at t (base + slot_size * i)) ≡ k → Some i ≡ find_in (records_at t base n) 0 k
  slot_found i k h e =
      hit_found (records_at t base n) k i (record_at t (base + slot_size * i)) W.keys (slot_length i h)
      (key_test (get_or (records_at t base n) i (record_at t (base + slot_size * i))) k (ap key_of (slot_record i h) ∙ e))

  one_slot : (i j : ℕ) (k : Key) → i < used → j < used → key_of (record_at t (base + slot_size * i)) ≡ k → key_of (record_at t (base + slot_size * j)) ≡ k → i ≡ j
  one_slot i j k h g e f =
      let a = slot_found i k h e in
      let b = slot_found j k g f in
      cc

  pub used_few : used ≤ max_slots
  used_few = omega (arith, used_le t base n, W.known, W.few)

-- THE MARKS say which lines were listed before

pub record Marks (t : List ℕ) (base used : ℕ) (marks : List ℕ) (before : List Movement) : Type 0 where
  pub size : length marks ≡ 4096
  pub told : (i l a : ℕ) → i < used → l < 8 → not (eqb (get_or marks (8 * i + l) 0) 0) ≡ any_of (same_line (movement_of (record_at t (base + slot_size * i)) (suc l) a)) before

pub marks_none : (t : List ℕ) (base used : ℕ) → used ≤ max_slots → Marks t base used (replicate 4096 0) []
marks_none t base used few = record {
  size = length-replicate {A = ℕ} 4096 0;
  told = λ i l a h g. ap (λ (v : ℕ). not (eqb v 0)) (get_or-replicate {A = ℕ} 4096 (8 * i + l) 0 0 (omega arith)) ∙ sym (any_nil (same_line (movement_of (record_at t (base + slot_size * i)) (suc l) a)));
}

-- a movement m of an executed line of slot i₀, whose mark is at p
module _ {t : List ℕ} {base n used : ℕ} (W : Walked t base n used) (m : Movement) (i₀ p : ℕ) (below : i₀ < used)
    (key : key_of (record_at t (base + slot_size * i₀)) ≡ movement_key m) (low : 1 ≤ m.line) (high : m.line ≤ 8) (place : p ≡ 8 * i₀ + (m.line - 1))
  where
    pub mark_told : {marks : List ℕ} {before : List Movement} → Marks t base used marks before → not (eqb (get_or marks p 0) 0) ≡ any_of (same_line m) before
    mark_told {marks} {before} M =
        let l : suc (m.line - 1) ≡ m.line = omega arith in
        let q : movement_of (record_at t (base + slot_size * i₀)) (suc (m.line - 1)) m.cents ≡ m =
        (λ j. record { kind = (key j).kind; line = l j; esercizio = (key j).esercizio; number = (key j).number; cents = m.cents }) in
        ap (λ (x : ℕ). not (eqb (get_or marks x 0) 0)) place ∙ M.told i₀ (m.line - 1) m.cents below (omega arith) ∙ ap (λ (x : Movement). any_of (same_line x) before) q

    -- another mark is another line's
    other_mark : (i l a : ℕ) → i < used → l < 8 → (8 * i + l ≡ p → ⊥) → same_line (movement_of (record_at t (base + slot_size * i)) (suc l) a) m ≡ false
    other_mark i l a h g n =
        not_line (movement_of (record_at t (base + slot_size * i)) (suc l) a) m (λ (o : OneLine (movement_of (record_at t (base + slot_size * i)) (suc l) a) m).
        let k : key_of (record_at t (base + slot_size * i)) ≡ movement_key m = (λ j. record { kind = o.kind j; esercizio = o.esercizio j; number = o.number j }) in
        let e = one_slot W i i₀ (movement_key m) h below k key in
        let f : suc l ≡ m.line = o.line in
        n (omega arith))

    own_mark : (i l a : ℕ) → l < 8 → 8 * i + l ≡ p → same_line (movement_of (record_at t (base + slot_size * i)) (suc l) a) m ≡ true
    own_mark i l a g e =
        let q : i ≡ i₀ = omega arith in
        let k : key_of (record_at t (base + slot_size * i)) ≡ movement_key m = ap (λ (x : ℕ). key_of (record_at t (base + slot_size * x))) q ∙ key in
        is_line (movement_of (record_at t (base + slot_size * i)) (suc l) a) m
        (record { kind = ap (λ (x : Key). x.kind) k; line = omega arith; esercizio = ap (λ (x : Key). x.esercizio) k; number = ap (λ (x : Key). x.number) k })

    pub mark_set : {marks : List ℕ} {before : List Movement} → Marks t base used marks before → Marks t base used (set marks p 1) (before ++ m ∷ [])
    mark_set {marks} {before} M = record { size = length-set marks p 1 ∙ M.size; told = λ i l a h g. go i l a h g (eqb (8 * i + l) p) refl }
      where
        go : (i l a : ℕ) → i < used → l < 8 → (b : Bool) → eqb (8 * i + l) p ≡ b
            → not (eqb (get_or (set marks p 1) (8 * i + l) 0) 0) ≡ any_of (same_line (movement_of (record_at t (base + slot_size * i)) (suc l) a)) (before ++ m ∷ [])
        go i l a h g true e =
            let q = eqb-true (8 * i + l) p e in
            let x = same_line (movement_of (record_at t (base + slot_size * i)) (suc l) a) in
            let u : used ≤ max_slots = used_few W in
            ap (λ (y : ℕ). not (eqb (get_or (set marks p 1) y 0) 0)) q
            ∙ ap (λ (v : ℕ). not (eqb v 0)) (get_or-set_same marks p 1 0 (omega (arith, M.size)))
            ∙ sym (any_add x before m ∙ ap (λ (b : Bool). any_of x before || b) (own_mark i l a g q) ∙ or-true (any_of x before))
        go i l a h g false e =
            let q = eqb-false (8 * i + l) p e in
            let x = same_line (movement_of (record_at t (base + slot_size * i)) (suc l) a) in
            ap (λ (v : ℕ). not (eqb v 0)) (get_or-set_other marks p (8 * i + l) 1 0 q)
            ∙ M.told i l a h g
            ∙ sym (any_add x before m ∙ ap (λ (b : Bool). any_of x before || b) (other_mark i l a h g q) ∙ or-false (any_of x before))

-- THE WALK OVER THE MARKS

pub states_more : (marks : List ℕ) (p : ℕ) (states : List ℕ) (k : ℕ) → k < length states
    → states_marked marks p (drop k states) ≡ ((not (eqb (get_or states k 0) executed_line) || not (eqb (get_or marks p 0) 0)) && states_marked marks (p + 1) (drop (k + 1) states))
unfolding states_marked
states_more marks p states k h = rw (add-one k, drop-cons states k 0 h)

pub states_done : (marks : List ℕ) (p : ℕ) (states : List ℕ) (k : ℕ) → length states ≤ k → states_marked marks p (drop k states) ≡ true
unfolding states_marked
states_done marks p states k h = rw (drop_of_length-le states h)

-- one of a slot's eight, by its test
module _ (marks : List ℕ) (p : ℕ) (t : List ℕ) (at k : ℕ) (h : k < 8) {b : Bool} (e : b ≡ (not (eqb (get_or t (at + k) 0) executed_line) || not (eqb (get_or marks p 0) 0))) where
  states_by : states_marked marks p (drop k (eight_at t at)) ≡ (b && states_marked marks (p + 1) (drop (k + 1) (eight_at t at)))
  states_by =
      let s = eight_at_lem t at k h in
      states_more marks p (eight_at t at) k h
      ∙ ap (λ (v : ℕ). (not (eqb v executed_line) || not (eqb (get_or marks p 0) 0)) && states_marked marks (p + 1) (drop (k + 1) (eight_at t at))) s
      ∙ ap (λ (x : Bool). x && states_marked marks (p + 1) (drop (k + 1) (eight_at t at))) (sym e)

  pub states_stop : b ≡ false → states_marked marks p (drop k (eight_at t at)) ≡ false
  states_stop f = states_by ∙ ap (λ (x : Bool). x && states_marked marks (p + 1) (drop (k + 1) (eight_at t at))) f

  pub states_turn : b ≡ true → states_marked marks p (drop k (eight_at t at)) ≡ states_marked marks (p + 1) (drop (k + 1) (eight_at t at))
  states_turn f = states_by ∙ ap (λ (x : Bool). x && states_marked marks (p + 1) (drop (k + 1) (eight_at t at))) f

pub all_more : (marks : List ℕ) (p : ℕ) {rs rest : List Record} {r : Record} → rs ≡ r ∷ rest
    → all_marked marks p rs ≡ (states_marked marks p r.states && all_marked marks (p + 8) rest)
unfolding all_marked
all_more marks p e = rw e

-- a slot, by its test
module _ (marks : List ℕ) (p : ℕ) (t : List ℕ) (at n k : ℕ) (q : n ≡ suc k) {b : Bool} (e : b ≡ states_marked marks p (eight_at t (at + states_offset))) where
  all_by : all_marked marks p (slots_at t at n) ≡ (b && all_marked marks (p + 8) (slots_at t (at + slot_size) k))
  unfolding record_at
  all_by = all_more marks p (slots_more t at n k q) ∙ ap (λ (x : Bool). x && all_marked marks (p + 8) (slots_at t (at + slot_size) k)) (sym e)

  pub all_stop : b ≡ false → all_marked marks p (slots_at t at n) ≡ false
  all_stop f = all_by ∙ ap (λ (x : Bool). x && all_marked marks (p + 8) (slots_at t (at + slot_size) k)) f

  pub all_turn : b ≡ true → all_marked marks p (slots_at t at n) ≡ all_marked marks (p + 8) (slots_at t (at + slot_size) k)
  all_turn f = all_by ∙ ap (λ (x : Bool). x && all_marked marks (p + 8) (slots_at t (at + slot_size) k)) f

pub all_done : (marks : List ℕ) (p : ℕ) {rs : List Record} → rs ≡ [] → all_marked marks p rs ≡ true
unfolding all_marked
all_done marks p e = rw e

-- EVERY EXECUTED LINE HAS ITS MARK exactly when it was listed

module _ (marks : List ℕ) (q : Movement → Bool) where
  states_listed : (r : Record) (p l : ℕ) (states amounts : List ℕ) → length states ≤ length amounts
      → ((k a : ℕ) → k < length states → not (eqb (get_or marks (p + k) 0) 0) ≡ q (movement_of r (l + k) a))
      → states_marked marks p states ≡ all_of q (executed_from r l states amounts)
  unfolding states_marked executed_from all_of
  states_listed r p l [] amounts h e = refl
  states_listed r p l (s ∷ states) [] h e = absurd (omega arith)
  states_listed r p l (s ∷ states) (a ∷ amounts) h e =
      let here : not (eqb (get_or marks p 0) 0) ≡ q (movement_of r l a) =
      let x : p ≡ p + 0 = omega arith in
      let y : l + 0 ≡ l = omega arith in
      ap (λ (v : ℕ). not (eqb (get_or marks v 0) 0)) x ∙ e 0 a (omega arith) ∙ ap (λ (v : ℕ). q (movement_of r v a)) y in
      let later = states_listed r (p + 1) (l + 1) states amounts (omega arith) (λ k b g.
      let x : p + 1 + k ≡ p + suc k = omega arith in
      let y : l + suc k ≡ l + 1 + k = omega arith in
      ap (λ (v : ℕ). not (eqb (get_or marks v 0) 0)) x ∙ e (suc k) b (omega arith) ∙ ap (λ (v : ℕ). q (movement_of r v b)) y) in
      go (eqb s executed_line) here later
    where
      go : (b : Bool) → not (eqb (get_or marks p 0) 0) ≡ q (movement_of r l a) → states_marked marks (p + 1) states ≡ all_of q (executed_from r (l + 1) states amounts)
          → ((not b || not (eqb (get_or marks p 0) 0)) && states_marked marks (p + 1) states)
          ≡ all_of q (cond b (movement_of r l a ∷ executed_from r (l + 1) states amounts) (executed_from r (l + 1) states amounts))
      go true x y = λ j. x j && y j
      go false x y = y

  slots_listed : (t : List ℕ) (at p n : ℕ)
      → ((i l a : ℕ) → i < n → l < 8 → not (eqb (get_or marks (p + 8 * i + l) 0) 0) ≡ q (movement_of (record_at t (at + slot_size * i)) (suc l) a))
      → all_marked marks p (slots_at t at n) ≡ all_of q (executed_lines (slots_at t at n))
  unfolding slots_at all_marked executed_lines all_of
  slots_listed t at p zero e = refl
  slots_listed t at p (suc n) e =
      let u = record_states t at in
      let v = record_amounts t at in
      let first = states_listed (record_at t at) p 1 (record_at t at).states (record_at t at).amounts (omega arith) (λ k a g.
      let x : p + k ≡ p + 8 * 0 + k = omega arith in
      let y : at + slot_size * 0 ≡ at = omega arith in
      let z : suc k ≡ 1 + k = omega arith in
      ap (λ (v : ℕ). not (eqb (get_or marks v 0) 0)) x ∙ e 0 k a (omega arith) (omega arith) ∙ (λ j. q (movement_of (record_at t (y j)) (z j) a))) in
      let others = slots_listed t (at + slot_size) (p + 8) n (λ i l a h g.
      let x : p + 8 + 8 * i + l ≡ p + 8 * suc i + l = omega arith in
      let y : at + slot_size * suc i ≡ at + slot_size + slot_size * i = omega arith in
      ap (λ (v : ℕ). not (eqb (get_or marks v 0) 0)) x ∙ e (suc i) l a (omega arith) g ∙ ap (λ (v : ℕ). q (movement_of (record_at t v) (suc l) a)) y) in
      (λ j. first j && others j) ∙ sym (all_append q (executed_of (record_at t at)) (executed_lines (slots_at t (at + slot_size) n)))

pub all_listed : {t : List ℕ} {base n used : ℕ} → Walked t base n used → {marks : List ℕ} {before : List Movement} → Marks t base used marks before
    → all_marked marks 0 (slots_at t base used) ≡ all_of (λ e. any_of (same_line e) before) (executed_lines (records_at t base n))
all_listed {t} {base} {n} {used} W {marks} {before} M =
    slots_listed marks (λ e. any_of (same_line e) before) t base 0 used (λ i l a h g.
    let x : 0 + 8 * i + l ≡ 8 * i + l = omega arith in
    ap (λ (v : ℕ). not (eqb (get_or marks v 0) 0)) x ∙ M.told i l a h g)
    ∙ ap (λ (u : ℕ). all_of (λ e. any_of (same_line e) before) (executed_lines (slots_at t base u))) W.known
