-- A line that was replaced is replaced for good: it is 25 in every later order, and in a later line of the same one.
use Prim.Native.Nat.{ℕ}
use mathlib.Core.Bool.{Bool, true, false, cond}
use mathlib.Core.List.Memᴰ
use mathlib.Core.List.{List, [], ◌∷◌, Memᴰ}
use mathlib.Core.Logic.{◌⊎◌, inl, inr}
use mathlib.Core.Path.{◌≡◌, refl, sym, ap, ◌∙◌}
use native.Mathlib.Omega.{arith}
use lib.Dec.{eqb}
use Rattle.order.specs.declared.Line.{Line}
use Rattle.record.specs.declared.Record.{Record}
use Rattle.replacing.specs.Replacing.{naming_of, namings_of, named_code, with_replaced, replace_code, replaced_by}
use Rattle.replacing.specs.Inner.{same_named, code_again}
use Rattle.replacing.proofs.Marks.{mark_step, taken_twice, again_taken, or_zero}

module _ (kind : ℕ) where
  -- what is 25 stays so, whatever an accepted order marks
  pub stays : (rs : List Record) (ls : List Line) → replace_code rs (namings_of kind ls) ≡ 0 → (l : Line) → named_code rs (naming_of kind l) ≡ 25
      → named_code (replaced_by rs (namings_of kind ls)) (naming_of kind l) ≡ 25
  unfolding replace_code replaced_by namings_of
  stays rs [] e l h = h
  stays rs (x ∷ ls) e l h =
      let z = or_zero (named_code rs (naming_of kind x)) _ e in
      stays (with_replaced rs (naming_of kind x)) ls z.1 l
      (mark_step rs (naming_of kind x) (naming_of kind l) z.0 refl ∙ ap (code_again (same_named (naming_of kind x) (naming_of kind l))) h
      ∙ again_taken (same_named (naming_of kind x) (naming_of kind l)))

  -- to name a line again that an accepted order named is 25
  pub never_twice : (rs : List Record) (ls : List Line) → replace_code rs (namings_of kind ls) ≡ 0 → (l : Line) → Memᴰ l ls
      → named_code (replaced_by rs (namings_of kind ls)) (naming_of kind l) ≡ 25
  unfolding replace_code replaced_by namings_of
  never_twice rs [] e l m = absurd (Memᴰ.not-nil m)
  never_twice rs (x ∷ ls) e l m = go (Memᴰ.cases_cons m) (never_twice (with_replaced rs (naming_of kind x)) ls z.1 l)
    where
      z : (named_code rs (naming_of kind x) ≡ 0) × (replace_code (with_replaced rs (naming_of kind x)) (namings_of kind ls) ≡ 0)
      z = or_zero (named_code rs (naming_of kind x)) _ e

      go : (l ≡ x) ⊎ Memᴰ l ls → (Memᴰ l ls → named_code (replaced_by (with_replaced rs (naming_of kind x)) (namings_of kind ls)) (naming_of kind l) ≡ 25)
          → named_code (replaced_by (with_replaced rs (naming_of kind x)) (namings_of kind ls)) (naming_of kind l) ≡ 25
      go (inl q) next = rw q (stays (with_replaced rs (naming_of kind x)) ls z.1 x (taken_twice rs (naming_of kind x) z.0))
      go (inr w) next = next w

  -- a line that cannot be replaced now cannot be after a mark either
  again_zero : (b : Bool) (c : ℕ) → code_again b c ≡ 0 → (b ≡ false) × (c ≡ 0)
  unfolding code_again
  again_zero false c e = (refl, e)
  again_zero true c e = absurd (late (eqb c 24) e)
    where
      late : (x : Bool) → ◌≡◌ {A = ℕ} (cond x 24 25) 0 → ⊥
      late true e = omega arith
      late false e = omega arith

  blocked : (rs : List Record) (ls : List Line) → (l : Line) → Memᴰ l ls → (named_code rs (naming_of kind l) ≡ 0 → ⊥) → replace_code rs (namings_of kind ls) ≡ 0 → ⊥
  unfolding replace_code namings_of
  blocked rs [] l m h e = Memᴰ.not-nil m
  blocked rs (x ∷ ls) l m h e = go (Memᴰ.cases_cons m) (blocked (with_replaced rs (naming_of kind x)) ls l)
    where
      z : (named_code rs (naming_of kind x) ≡ 0) × (replace_code (with_replaced rs (naming_of kind x)) (namings_of kind ls) ≡ 0)
      z = or_zero (named_code rs (naming_of kind x)) _ e

      go : (l ≡ x) ⊎ Memᴰ l ls → (Memᴰ l ls → (named_code (with_replaced rs (naming_of kind x)) (naming_of kind l) ≡ 0 → ⊥)
          → replace_code (with_replaced rs (naming_of kind x)) (namings_of kind ls) ≡ 0 → ⊥) → ⊥
      go (inl q) next = h (ap (λ (y : Line). named_code rs (naming_of kind y)) q ∙ z.0)
      go (inr w) next =
          next w (λ q. h (again_zero (same_named (naming_of kind x) (naming_of kind l)) (named_code rs (naming_of kind l)) (sym (mark_step rs (naming_of kind x) (naming_of kind l) z.0 refl) ∙ q)).1) z.1

  -- an order two of whose lines name the same line is refused
  pub twice_refused : (rs : List Record) (l : Line) (ls : List Line) (x : Line) → Memᴰ x ls → same_named (naming_of kind l) (naming_of kind x) ≡ true
      → replace_code rs (namings_of kind (l ∷ ls)) ≡ 0 → ⊥
  unfolding replace_code namings_of
  twice_refused rs l ls x m s e =
      let z = or_zero (named_code rs (naming_of kind l)) _ e in
      blocked (with_replaced rs (naming_of kind l)) ls x m
      (λ q.
      let y = (again_zero (same_named (naming_of kind l) (naming_of kind x)) (named_code rs (naming_of kind x)) (sym (mark_step rs (naming_of kind l) (naming_of kind x) z.0 refl) ∙ q)).0 in
      let w : ◌≡◌ {A = Bool} true false = sym s ∙ y in
      let v : ◌≡◌ {A = ℕ} 0 1 = cc in
      absurd (omega arith)) z.1
