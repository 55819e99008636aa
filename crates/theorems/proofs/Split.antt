-- WHAT RECORDS ARE WORTH, IN PARTS: the held lines are the executed and the replaced ones, and the cents of a kind are those of some years and of the others.
use Prim.Native.Nat.{ℕ, suc, ◌+◌}
use mathlib.Core.Path.{◌≡◌, refl, sym, ◌∙◌}
use mathlib.Core.Bool.{Bool, true, false, cond, ◌||◌, ◌&&◌, not}
use mathlib.Core.List.{List, [], ◌∷◌}
use native.Mathlib.Omega.{arith}
use lib.Dec.{eqb}
use borrow.Author.Tests.{eqb-true}
use Rattle.record.specs.declared.Record.{Record}
use Rattle.record.specs.Slot.{key_of}
use Rattle.rules.specs.Worth.{Which, Value, Years, worth_in, worth_of, worth, are_executed, are_held, of_kind, its_cents}
use Rattle.service.proofs.Worth.{cents_worth}
use Rattle.theorems.specs.History.{are_replaced, cents_in, AllYears, OtherYears}

-- no state is both executed and replaced
either : (s x : ℕ) (a b : Bool) → eqb s 2 ≡ a → eqb s 3 ≡ b → cond (a || b) x 0 ≡ cond a x 0 + cond b x 0
either s x true true p q = absurd (omega (arith, eqb-true s 2 p, eqb-true s 3 q))
either s x true false p q = omega arith
either s x false true p q = omega arith
either s x false false p q = refl

module _ (v : Value) where
  held_in : (n : ℕ) (states amounts : List ℕ) → worth_in are_held v n states amounts ≡ worth_in are_executed v n states amounts + worth_in are_replaced v n states amounts
  unfolding worth_in
  held_in n [] amounts = refl
  held_in n (s ∷ states) [] = refl
  held_in n (s ∷ states) (a ∷ amounts) = omega (arith, either s (v n a) (eqb s 2) (eqb s 3) refl refl, held_in (suc n) states amounts)

  pub held_parts : (p : Which) (rs : List Record) → worth_of are_held p v rs ≡ worth p v rs + worth_of are_replaced p v rs
  unfolding worth_of
  held_parts p [] = refl
  held_parts p (r ∷ rs) = go (p (key_of r)) _ _ _ (held_in 1 r.states r.amounts) _ _ _ (held_parts p rs)
    where
      go : (u : Bool) (h e d : ℕ) → h ≡ e + d → (x y z : ℕ) → x ≡ y + z → cond u h 0 + x ≡ (cond u e 0 + y) + (cond u d 0 + z)
      go true h e d f x y z g = omega arith
      go false h e d f x y z g = omega arith

-- YEARS
pub all_years : AllYears
all_years kind rs = (λ i. worth (λ k. any (eqb k.kind kind) i) its_cents rs) ∙ sym (cents_worth kind rs)
  where
    any : (b : Bool) → b && true ≡ b
    any true = refl
    any false = refl

parted : (kind : ℕ) (years : Years) (rs : List Record) → cents_in kind years rs + cents_in kind (λ y. not (years y)) rs ≡ worth (of_kind kind) its_cents rs
unfolding worth_of
parted kind years [] = refl
parted kind years (r ∷ rs) = go (eqb r.kind kind) (years r.esercizio) (worth_in are_executed its_cents 1 r.states r.amounts) _ _ _ (parted kind years rs)
  where
    go : (a y : Bool) (n x z w : ℕ) → x + z ≡ w → (cond (a && y) n 0 + x) + (cond (a && not y) n 0 + z) ≡ cond a n 0 + w
    go true true n x z w e = omega arith
    go true false n x z w e = omega arith
    go false y n x z w e = omega arith

pub other_years : OtherYears
other_years kind years rs = parted kind years rs ∙ sym (cents_worth kind rs)
