-- The walk over a journal's movements, a turn at a time.
use Rattle.std.specs.Prelude.{Some, None}
use Prim.Native.Nat.{ℕ, zero, suc, ◌+◌, ◌-◌, ◌*◌, ◌≤◌, ◌<◌}
use mathlib.Core.Bool.{Bool, true, false, not, cond}
use mathlib.Core.List.{List, [], ◌∷◌, ◌++◌}
use mathlib.Core.Path.{◌≡◌, refl, sym, ap, subst, ◌∙◌}
use native.Mathlib.Omega.{arith}
use lib.ListN.{length, get_or, set, replicate}
use lib.Dec.{eqb}
use borrow.Author.Tests.{eq-eqb, ne_eqb}
use Rattle.record.specs.Slot.{slot_size, record_at, key_of}
use Rattle.slots.specs.Slots.{slots_at, records_at, find_in}
use Rattle.slots.proofs.Laws.{used_le}
use Rattle.slots.proofs.Index.{length_records}
use Rattle.slots.proofs.Search.{found_below, found_key}
use Rattle.journal.specs.declared.Movement.{Movement}
use Rattle.journal.specs.Journal.{movement_size, movement_at, movements_at, executed_lines, same_line, any_of, movement_code, code_then, journal_code}
use Rattle.journal.specs.Inner.{movement_key, code_by, all_marked, Walked}
use Rattle.journal.proofs.Laws.{movements_more, movements_none, movements_add, code_stops, code_goes, code_ends, missing_by}
use Rattle.journal.proofs.Lines.{code_none, code_is, by_line, record_states, record_amounts}
use Rattle.journal.proofs.Marks.{Marks, marks_none, slot_length, slot_record, used_few, mark_told, mark_set, all_listed}

-- the code that is left after j of the movements
abbrev pub code_from : List ℕ → ℕ → ℕ → List ℕ → ℕ → ℕ → ℕ
code_from t base n s count j = journal_code (executed_lines (records_at t base n)) (movements_at s 0 j) (movements_at s (movement_size * j) (count - j))

pub code_start : (t : List ℕ) (base n : ℕ) (s : List ℕ) (count : ℕ) → journal_code (executed_lines (records_at t base n)) [] (movements_at s 0 count) ≡ code_from t base n s count 0
code_start t base n s count =
    let a = sym (movements_none s 0 0 refl) in
    let b : count ≡ count - 0 = omega arith in
    λ i. journal_code (executed_lines (records_at t base n)) (a i) (movements_at s 0 (b i))

pub marks_start : {t : List ℕ} {base n used : ℕ} → Walked t base n used → (s : List ℕ) → Marks t base used (replicate 4096 0) (movements_at s 0 0)
marks_start {t} {base} {n} {used} W s =
    subst (λ (l : List Movement). Marks t base used (replicate 4096 0) l) (sym (movements_none s 0 0 refl)) (marks_none t base used (used_few W))

-- slots that are used lie among the body's
pub used_inside : {t : List ℕ} {base n used : ℕ} → Walked t base n used → base + slot_size * used ≤ length t
used_inside {t} {base} {n} {used} W = omega (arith, used_le t base n, W.known, W.inside)

module _ {t : List ℕ} {base n used : ℕ} (W : Walked t base n used) (s : List ℕ) (count j : ℕ) where
  module _ (h : j < count) {m : Movement} (q : m ≡ movement_at s (movement_size * j)) where
    rest_is : movements_at s (movement_size * j) (count - j) ≡ m ∷ movements_at s (movement_size * (j + 1)) (count - (j + 1))
    rest_is =
        let p : movement_size * j + movement_size ≡ movement_size * (j + 1) = omega arith in
        movements_more s (movement_size * j) (count - j) (count - (j + 1)) (omega arith) ∙ (let r = sym q in λ i. r i ∷ movements_at s (p i) (count - (j + 1)))

    listed_is : movements_at s 0 (j + 1) ≡ movements_at s 0 j ++ m ∷ []
    listed_is =
        let p : 0 + movement_size * j ≡ movement_size * j = omega arith in
        movements_add s 0 j ∙ ap (λ (x : Movement). movements_at s 0 j ++ x ∷ []) (ap (movement_at s) p ∙ sym q)

    pub no_order : find_in (records_at t base n) 0 (movement_key m) ≡ None → code_from t base n s count j ≡ 30
    no_order f =
        code_stops (executed_lines (records_at t base n)) (movements_at s 0 j) rest_is 30 (λ z. omega arith)
        (code_none (records_at t base n) m f (movements_at s 0 j))

    module _ (i : ℕ) (f : find_in (records_at t base n) 0 (movement_key m) ≡ Some i) where
      below : i < used
      below = omega (arith, found_below (records_at t base n) (movement_key m) i (record_at t 0) f, length_records t base n, W.known)

      pub slot_in : base + slot_size * i + slot_size ≤ length t
      slot_in = omega (arith, below, used_inside W)

      its_key : key_of (record_at t (base + slot_size * i)) ≡ movement_key m
      its_key = ap key_of (sym (slot_record W i below)) ∙ found_key (records_at t base n) (movement_key m) i (record_at t (base + slot_size * i)) f

      its_code : movement_code (executed_lines (records_at t base n)) (movements_at s 0 j) m
          ≡ code_then (code_by (record_at t (base + slot_size * i)) m) (cond (any_of (same_line m) (movements_at s 0 j)) 32 0)
      its_code =
          code_is (records_at t base n) m i (record_at t (base + slot_size * i)) W.keys (slot_length W i below) (slot_record W i below) its_key
          (record_states t (base + slot_size * i)) (record_amounts t (base + slot_size * i)) (movements_at s 0 j)

      module _ {c : ℕ} (z : c ≡ code_by (record_at t (base + slot_size * i)) m) where
        pub other_code : (c ≡ 0 → ⊥) → code_from t base n s count j ≡ c
        other_code x = code_stops (executed_lines (records_at t base n)) (movements_at s 0 j) rest_is c x (its_code ∙ go c (sym z) x)
          where
            go : (c : ℕ) → code_by (record_at t (base + slot_size * i)) m ≡ c → (c ≡ 0 → ⊥)
                → code_then (code_by (record_at t (base + slot_size * i)) m) (cond (any_of (same_line m) (movements_at s 0 j)) 32 0) ≡ c
            go zero g x = absurd (x refl)
            go (suc c) g x = ap (λ (d : ℕ). code_then d (cond (any_of (same_line m) (movements_at s 0 j)) 32 0)) g

        module _ (y : c ≡ 0) where
          line_in : (1 ≤ m.line) × (m.line ≤ 8)
          line_in = by_line (record_at t (base + slot_size * i)) m (sym z ∙ y)

          -- its mark is one of 4,096
          pub mark_in : (1 ≤ m.line) × (8 * i + (m.line - 1) < 4096)
          mark_in = (line_in.0, omega (arith, below, used_few W, line_in.1))

          module _ (p : ℕ) (place : p ≡ 8 * i + (m.line - 1)) {marks : List ℕ} (M : Marks t base used marks (movements_at s 0 j)) where
            by_mark : {b : Bool} → not (eqb (get_or marks p 0) 0) ≡ b → movement_code (executed_lines (records_at t base n)) (movements_at s 0 j) m ≡ cond b 32 0
            by_mark g =
                its_code ∙ ap (λ (d : ℕ). code_then d (cond (any_of (same_line m) (movements_at s 0 j)) 32 0)) (sym z ∙ y)
                ∙ ap (λ (b : Bool). cond b 32 0) (sym (mark_told W m i p below its_key line_in.0 line_in.1 place M) ∙ g)

            pub twice : (get_or marks p 0 ≡ 0 → ⊥) → code_from t base n s count j ≡ 32
            twice g =
                code_stops (executed_lines (records_at t base n)) (movements_at s 0 j) rest_is 32 (λ z. omega arith)
                (by_mark {b = true} (ap not (ne_eqb (get_or marks p 0) 0 g)))

            pub goes_on_lem : get_or marks p 0 ≡ 0 → code_from t base n s count j ≡ code_from t base n s count (j + 1)
            goes_on_lem g =
                code_goes (executed_lines (records_at t base n)) (movements_at s 0 j) rest_is (by_mark {b = false} (ap not (eq-eqb (get_or marks p 0) 0 g)))
                ∙ ap (λ (l : List Movement). journal_code (executed_lines (records_at t base n)) l (movements_at s (movement_size * (j + 1)) (count - (j + 1)))) (sym listed_is)

            pub marked_too : Marks t base used (set marks p 1) (movements_at s 0 (j + 1))
            marked_too =
                subst (λ (l : List Movement). Marks t base used (set marks p 1) l) (sym listed_is) (mark_set W m i p below its_key line_in.0 line_in.1 place M)

  -- all movements are right: the lines that have no mark
  pub left_over : count ≤ j → {marks : List ℕ} → Marks t base used marks (movements_at s 0 j) → {b : Bool} → b ≡ all_marked marks 0 (slots_at t base used)
      → code_from t base n s count j ≡ cond b 0 33
  left_over h M e =
      code_ends (executed_lines (records_at t base n)) (movements_at s 0 j) (movements_none s (movement_size * j) (count - j) (omega arith))
      ∙ missing_by (executed_lines (records_at t base n)) (movements_at s 0 j) (e ∙ all_listed W M)
