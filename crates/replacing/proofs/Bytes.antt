-- Named lines on the table's bytes: one state after another is set, and the records are the book's.
use Rattle.std.specs.Prelude.{Option, Some, None}
use Prim.Native.Nat.{ℕ, suc, ◌+◌, ◌-◌, ◌*◌, ◌≤◌, ◌<◌}
use mathlib.Core.List.{List, [], ◌∷◌}
use mathlib.Core.Path.{◌≡◌, refl, sym, ap, ◌∙◌}
use native.Mathlib.Omega.{arith}
use native.Mathlib.Numerals.{add-one}
use lib.ListN.{length, drop}
use lib.Seq.{drop-cons, drop-length}
use Rattle.words.specs.Numbers.{put}
use Rattle.words.proofs.Laws.{length_put}
use Rattle.order.specs.declared.Line.{Line}
use Rattle.order.specs.Ordinativo.{no_line}
use Rattle.record.specs.declared.Record.{Record}
use Rattle.record.specs.Slot.{slot_size, record_at}
use Rattle.slots.specs.Slots.{records_at, nth, state_place, find_in}
use Rattle.slots.proofs.Held.{Held, search_held}
use Rattle.body.proofs.State.{state_records}
use Rattle.replacing.specs.declared.Naming.{Naming}
use Rattle.replacing.specs.Replacing.{namings_of, line_named_in, named_at, named_code, with_replaced_at, with_replaced, replace_code, line_stored, line_put, lines_put}
use Rattle.replacing.specs.Inner.{naming_at}
use Rattle.replacing.proofs.Marks.{Takes, takes, inside_list, or_zero}

-- WHAT A SEARCH TOLD

module _ (t : List ℕ) (base n : ℕ) where
  module _ (m : Naming) {f : Option ℕ} (e : f ≡ find_in (records_at t base n) 0 m.key) where
    pub named_none : f ≡ None → named_code (records_at t base n) m ≡ 24
    unfolding named_code named_at
    named_none g = ap (named_at (records_at t base n) m) (sym e ∙ g)

    pub named_found : {i : ℕ} {r : Record} → f ≡ Some i → r ≡ record_at t (base + slot_size * i) → named_code (records_at t base n) m ≡ line_named_in r m.line m.amount
    unfolding named_code named_at
    named_found g q = ap (named_at (records_at t base n) m) (sym e ∙ g) ∙ ap (λ (x : Record). line_named_in x m.line m.amount) ((search_held t base n m.key e g).same ∙ sym q)

-- A NAMED LINE THAT STANDS

module _ (t : List ℕ) (base n : ℕ) (m : Naming) (e : named_code (records_at t base n) m ≡ 0) where
  abbrev pub tk : Takes (records_at t base n) m
  tk = takes (records_at t base n) m e

  pub named_held : Held t base n tk.at
  named_held = search_held t base n m.key refl tk.found

  -- its place is one of eight
  pub named_small : m.line - 1 < 8
  unfolding record_at
  named_small =
      let l = inside_list (nth (records_at t base n) tk.at).states (m.line - 1) tk.stands.state in
      let q : length (nth (records_at t base n) tk.at).states ≡ 8 = ap (λ (x : Record). length x.states) named_held.same in
      omega arith

  -- what a search found is its record
  pub named_index : {f : Option ℕ} {i : ℕ} → f ≡ find_in (records_at t base n) 0 m.key → f ≡ Some i → i ≡ tk.at
  named_index p q = let z : ◌≡◌ {A = Option ℕ} (Some tk.at) (Some _) = sym tk.found ∙ sym p ∙ q in cc

  pub named_there : {f : Option ℕ} → f ≡ find_in (records_at t base n) 0 m.key → f ≡ None → ⊥
  named_there p q = let z : ◌≡◌ {A = Option ℕ} (Some tk.at) (None) = sym tk.found ∙ sym p ∙ q in let w : ◌≡◌ {A = ℕ} 0 1 = cc in omega arith

  pub named_first_lem : 1 ≤ m.line
  named_first_lem = tk.stands.first

  pub line_put_lem : {f : Option ℕ} {i : ℕ} → f ≡ find_in (records_at t base n) 0 m.key → f ≡ Some i → line_put t base n m ≡ put t (state_place base i m.line) (3 ∷ [])
  unfolding line_put line_stored
  line_put_lem p q = ap (line_stored t base m) (sym p ∙ q)

  pub line_is : line_put t base n m ≡ put t (state_place base tk.at m.line) (3 ∷ [])
  unfolding line_put line_stored
  line_is = ap (line_stored t base m) tk.found

  module _ (fits : base + slot_size * n ≤ length t) where
    pub line_long : length (line_put t base n m) ≡ length t
    line_long = ap length line_is ∙ length_put t (state_place base tk.at m.line) (3 ∷ []) (omega (arith, named_small, named_held.low))

    -- the byte is the mark
    pub line_records : records_at (line_put t base n m) base n ≡ with_replaced (records_at t base n) m
    unfolding with_replaced with_replaced_at
    line_records =
        ap (λ (x : List ℕ). records_at x base n) line_is
        ∙ state_records t base n tk.at (m.line - 1) 3 named_small fits named_held.used
        ∙ sym (ap (with_replaced_at (records_at t base n) m) tk.found)

-- ALL NAMED LINES, one after another

-- the order's first j lines are marked on t, which was t₀
pub record Going (t₀ t : List ℕ) (base n kind : ℕ) (ls : List Line) (j : ℕ) : Type 0 where
  pub low : j ≤ length ls
  pub long : length t ≡ length t₀
  pub same : lines_put t base n (namings_of kind (drop j ls)) ≡ lines_put t₀ base n (namings_of kind ls)
  pub stands : replace_code (records_at t base n) (namings_of kind (drop j ls)) ≡ 0

module _ (t₀ : List ℕ) (base n kind : ℕ) (ls : List Line) where
  pub going_start : replace_code (records_at t₀ base n) (namings_of kind ls) ≡ 0 → Going t₀ t₀ base n kind ls 0
  going_start e = record { low = omega arith; long = refl; same = refl; stands = e }

  module _ (t : List ℕ) (j : ℕ) (g : Going t₀ t base n kind ls j) where
    pub going_end : length ls ≤ j → t ≡ lines_put t₀ base n (namings_of kind ls)
    unfolding lines_put namings_of
    going_end h =
        let q : length ls ≡ j = omega (arith, g.low) in
        sym (ap (λ (l : List Line). lines_put t base n (namings_of kind l)) (ap (λ (x : ℕ). drop x ls) (sym q) ∙ drop-length ls)) ∙ g.same

    module _ (h : j < length ls) where
      here : namings_of kind (drop j ls) ≡ naming_at kind ls j ∷ namings_of kind (drop (suc j) ls)
      unfolding namings_of naming_at
      here = ap (namings_of kind) (drop-cons ls j no_line h)

      codes : (named_code (records_at t base n) (naming_at kind ls j) ≡ 0) × (replace_code (with_replaced (records_at t base n) (naming_at kind ls j)) (namings_of kind (drop (suc j) ls)) ≡ 0)
      unfolding replace_code
      codes = or_zero _ _ (sym (ap (replace_code (records_at t base n)) here) ∙ g.stands)

      pub going_code : {x : Naming} → x ≡ naming_at kind ls j → named_code (records_at t base n) x ≡ 0
      going_code q = ap (named_code (records_at t base n)) q ∙ codes.0

      pub going_next : base + slot_size * n ≤ length t → {x : Naming} {t' : List ℕ} → x ≡ naming_at kind ls j → t' ≡ line_put t base n x → Going t₀ t' base n kind ls (j + 1)
      unfolding lines_put
      going_next fits {x} {t'} q p =
          let d : t' ≡ line_put t base n (naming_at kind ls j) = p ∙ ap (line_put t base n) q in
          rw (add-one j) (record {
            low = omega arith;
            long = ap length d ∙ line_long t base n (naming_at kind ls j) codes.0 fits ∙ g.long;
            same = ap (λ (y : List ℕ). lines_put y base n (namings_of kind (drop (suc j) ls))) d ∙ sym (ap (lines_put t base n) here) ∙ g.same;
            stands =
                ap (λ (y : List Record). replace_code y (namings_of kind (drop (suc j) ls)))
                (ap (λ (y : List ℕ). records_at y base n) d ∙ line_records t base n (naming_at kind ls j) codes.0 fits)
                ∙ codes.1;
          })
