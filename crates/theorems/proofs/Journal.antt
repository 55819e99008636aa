-- A journal's answer.
use Rattle.std.specs.Prelude.{Option, Some, None}
use Prim.Native.Nat.{ℕ, zero, suc, ◌≤◌, ◌<◌}
use mathlib.Core.Path.{◌≡◌, refl, sym, ◌∙◌, subst}
use mathlib.Core.Bool.{Bool, true, false, cond}
use mathlib.Core.List.{List, [], ◌∷◌, ◌++◌}
use native.Mathlib.Omega.{arith}
use Rattle.entries.specs.Entry.{slots_of, place_of}
use Rattle.table.specs.Table.{table_ok, body_of, entry_of}
use Rattle.address.proofs.Laws.{slots}
use Rattle.body.proofs.Slots.{parts}
use Rattle.journal.specs.declared.Movement.{Movement}
use Rattle.journal.specs.Journal.{movements_in, whole_movements, executed_lines, same_line, same_movement, any_of, all_of, movement_code, missing_code, code_then, journal_code, checked, journal_of, JournalPromise}
use Rattle.journal.specs.Told.{Told}
use Rattle.journal.proofs.Told.{journal_told}
use Rattle.theorems.specs.Engine.{body_records}
use Rattle.theorems.specs.Journal.{Accepts, Broken, JournalAnswers}
use Rattle.theorems.proofs.Condition2.{is_body, no_table, no_body}

-- the codes of movements: 0, or 30 and above
data Own : ℕ → Type 0 where
  zero_code : Own 0
  high : {n : ℕ} → 30 ≤ n → Own n

own_cond : (b : Bool) {x y : ℕ} → Own x → Own y → Own (cond b x y)
own_cond true ox oy = ox
own_cond false ox oy = oy

own_then : (c : ℕ) {next : ℕ} → Own c → Own next → Own (code_then c next)
own_then zero o after = after
own_then (suc c) o after = o

own_movement : (E before : List Movement) (m : Movement) → Own (movement_code E before m)
unfolding movement_code
own_movement E before m =
    own_cond (any_of (same_line m) E)
    (own_cond (any_of (same_movement m) E) (own_cond (any_of (same_line m) before) (high (omega arith)) zero_code) (high (omega arith)))
    (high (omega arith))

own : (E before ms : List Movement) → Own (journal_code E before ms)
unfolding journal_code missing_code
own E before [] = own_cond (all_of (λ e. any_of (same_line e) before) E) zero_code (high (omega arith))
own E before (m ∷ ms) = own_then (movement_code E before m) (own_movement E before m) (own E (before ++ m ∷ []) ms)

-- so no code below 30 but 0 is one of theirs
low : {n : ℕ} (k : ℕ) → Own n → n ≡ suc k → k < 29 → ⊥
low k zero_code e h = omega arith
low k (high o) e h = omega arith

module _ (t code s : List ℕ) (c : ℕ) (p : JournalPromise t code s c) where
  to_1 : table_ok t ≡ false → c ≡ 1
  unfolding journal_of
  to_1 e = p ∙ rw (no_table t code e)

  to_7 : table_ok t ≡ true → body_of t code ≡ None → c ≡ 7
  unfolding journal_of
  to_7 ok e = p ∙ rw (no_body t code ok e)

  module _ (b : ℕ) (ok : table_ok t ≡ true) (e : body_of t code ≡ Some b) where
    to_body : c ≡ checked (body_records b t) s
    unfolding journal_of
    to_body = p ∙ rw (is_body t ok code b e)

    to_29 : whole_movements s ≡ false → c ≡ 29
    unfolding checked
    to_29 w = to_body ∙ rw w

    to_code : whole_movements s ≡ true → c ≡ journal_code (executed_lines (body_records b t)) [] (movements_in s)
    unfolding checked
    to_code w = to_body ∙ rw w

    to_told : Told (body_records b t) (movements_in s)
    to_told =
        let w = slots t code (is_body t ok code b e) in
        journal_told (body_records b t) (parts t (place_of t (entry_of b)) (slots_of t (entry_of b)) w.valid).keys (movements_in s)

  -- what a code says, by cases over table, body and bytes
  data Case : Type 0 where
    no_table_case : table_ok t ≡ false → c ≡ 1 → Case
    no_body_case : table_ok t ≡ true → body_of t code ≡ None → c ≡ 7 → Case
    broken_case : Broken t code s → c ≡ 29 → Case
    own_case : Own c → Case

  the_case : Case
  the_case = valid (table_ok t) refl
    where
      whole : (b : ℕ) → table_ok t ≡ true → body_of t code ≡ Some b → (x : Bool) → whole_movements s ≡ x → Case
      whole b ok e true w = own_case (subst Own (sym (to_code b ok e w)) (own (executed_lines (body_records b t)) [] (movements_in s)))
      whole b ok e false w = broken_case (record { valid = ok; body = b; named = e; broken = w }) (to_29 b ok e w)

      found : table_ok t ≡ true → (f : Option ℕ) → body_of t code ≡ f → Case
      found ok (Some b) e = whole b ok e (whole_movements s) refl
      found ok None e = no_body_case ok e (to_7 ok e)

      valid : (x : Bool) → table_ok t ≡ x → Case
      valid true ok = found ok (body_of t code) refl
      valid false e = no_table_case e (to_1 e)

  from_1 : Case → c ≡ 1 → table_ok t ≡ false
  from_1 (no_table_case e z) h = e
  from_1 (no_body_case ok e z) h = absurd (omega arith)
  from_1 (broken_case w z) h = absurd (omega arith)
  from_1 (own_case o) h = absurd (low 0 o h (omega arith))

  from_7 : Case → c ≡ 7 → (table_ok t ≡ true) × (body_of t code ≡ None)
  from_7 (no_table_case e z) h = absurd (omega arith)
  from_7 (no_body_case ok e z) h = (ok, e)
  from_7 (broken_case w z) h = absurd (omega arith)
  from_7 (own_case o) h = absurd (low 6 o h (omega arith))

  from_29 : Case → c ≡ 29 → Broken t code s
  from_29 (no_table_case e z) h = absurd (omega arith)
  from_29 (no_body_case ok e z) h = absurd (omega arith)
  from_29 (broken_case w z) h = w
  from_29 (own_case o) h = absurd (low 28 o h (omega arith))

  accepts : c ≡ 0 → Accepts t code s
  accepts z = valid (table_ok t) refl
    where
      whole : (b : ℕ) → table_ok t ≡ true → body_of t code ≡ Some b → (x : Bool) → whole_movements s ≡ x → Accepts t code s
      whole b ok e true w = record { valid = ok; body = b; named = e; whole = w; same = (to_told b ok e).accepted.0 (sym (to_code b ok e w) ∙ z) }
      whole b ok e false w = absurd (omega (arith, to_29 b ok e w))

      found : table_ok t ≡ true → (f : Option ℕ) → body_of t code ≡ f → Accepts t code s
      found ok (Some b) e = whole b ok e (whole_movements s) refl
      found ok None e = absurd (omega (arith, to_7 ok e))

      valid : (x : Bool) → table_ok t ≡ x → Accepts t code s
      valid true ok = found ok (body_of t code) refl
      valid false e = absurd (omega (arith, to_1 e))

pub journal_answers : JournalAnswers
journal_answers = record {
  accepted = λ t code s c p. (
    accepts t code s c p,
    λ a. to_code t code s c p a.body a.valid a.named a.whole ∙ (to_told t code s c p a.body a.valid a.named).accepted.1 a.same,
  );
  refused = λ t code s c p. (
    (from_1 t code s c p (the_case t code s c p), to_1 t code s c p),
    (from_7 t code s c p (the_case t code s c p), λ w. to_7 t code s c p w.0 w.1),
    (from_29 t code s c p (the_case t code s c p), λ w. to_29 t code s c p w.body w.valid w.named w.broken),
  );
  told = λ t code s c p b ok e w. (to_code t code s c p b ok e w, to_told t code s c p b ok e);
}
