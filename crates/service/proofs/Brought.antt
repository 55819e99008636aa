-- WHAT A REPLACEMENT ORDER BRINGS IN AND GIVES UP, by the order alone: of a kind the same cents; of a kind in some years, what comes from other years and
-- goes to them; of one line at most one.
use Prim.Native.Nat.{ℕ, suc, ◌+◌, ◌≤◌, ◌<◌}
use mathlib.Core.Path.{◌≡◌, refl, ap}
use mathlib.Core.Bool.{Bool, true, false, cond, not, ◌&&◌}
use mathlib.Core.List.{List, [], ◌∷◌}
use native.Mathlib.Omega.{arith}
use lib.Dec.{eqb}
use borrow.Author.Tests.{eqb-true, ne_eqb}
use Rattle.record.specs.declared.Key.{Key}
use Rattle.order.specs.Ordinativo.{Ordinativo}
use Rattle.order.specs.declared.Line.{Line}
use Rattle.codes.specs.declared.Operation.{Operation}
use Rattle.codes.specs.declared.Operation.TheVariants.{Inserimento, Variazione, Annullo, Sostituzione}
use Rattle.replacing.specs.Replacing.{namings, namings_of}
use Rattle.rules.specs.Rules.{key_for}
use Rattle.rules.specs.Worth.{Years, of_kind, of_kind_in, its_cents, with_key, on_line, is_replacement, lines_worth, brought_by, named_worth, given_by, naming_years, come_by, gone_by}

-- a law of replacements is one of all orders: the others bring in and give up nothing
when : (u : Bool) (a b c d : ℕ) → a + b ≡ c + d → cond u a 0 + cond u b 0 ≡ cond u c 0 + cond u d 0
when true a b c d e = e
when false a b c d e = refl

-- CENTS OF A KIND
kind_lines : (kind k n : ℕ) (ls : List Line) → cond (eqb k kind) (lines_worth its_cents n ls) 0 ≡ named_worth (of_kind kind) its_cents (namings_of k ls)
unfolding namings_of
kind_lines kind k n [] = go (eqb k kind)
  where
    go : (u : Bool) → ◌≡◌ {A = ℕ} (cond u 0 0) 0
    go true = refl
    go false = refl
kind_lines kind k n (l ∷ ls) = go (eqb k kind) (kind_lines kind k (suc n) ls)
  where
    go : (u : Bool) → cond u (lines_worth its_cents (suc n) ls) 0 ≡ named_worth (of_kind kind) its_cents (namings_of k ls)
        → cond u (l.amount + lines_worth its_cents (suc n) ls) 0 ≡ cond u l.amount 0 + named_worth (of_kind kind) its_cents (namings_of k ls)
    go true e = omega arith
    go false e = omega arith

pub kind_even : (kind year : ℕ) (o : Ordinativo) → brought_by (of_kind kind) its_cents year o ≡ given_by (of_kind kind) its_cents year o
kind_even kind year o = ap (λ (x : ℕ). cond (is_replacement o.operation) x 0) (kind_lines kind o.kind 1 o.lines)

-- OF A KIND IN SOME YEARS
module _ (kind : ℕ) (years : Years) where
  -- the named lines of those years
  in_years : (k : ℕ) (ls : List Line) → named_worth (of_kind_in kind years) its_cents (namings_of k ls) ≡ cond (eqb k kind) (naming_years years ls) 0
  unfolding namings_of
  in_years k [] = go (eqb k kind)
    where
      go : (u : Bool) → ◌≡◌ {A = ℕ} 0 (cond u 0 0)
      go true = refl
      go false = refl
  in_years k (l ∷ ls) = go (eqb k kind) (years l.named.esercizio) (in_years k ls)
    where
      go : (u w : Bool) → named_worth (of_kind_in kind years) its_cents (namings_of k ls) ≡ cond u (naming_years years ls) 0
          → cond (u && w) l.amount 0 + named_worth (of_kind_in kind years) its_cents (namings_of k ls) ≡ cond u (cond w l.amount 0 + naming_years years ls) 0
      go true w e = omega arith
      go false w e = omega arith

  -- each line names one of those years, or of the others
  all_years : (n : ℕ) (ls : List Line) → lines_worth its_cents n ls ≡ naming_years years ls + naming_years (λ y. not (years y)) ls
  all_years n [] = refl
  all_years n (l ∷ ls) = go (years l.named.esercizio) (all_years (suc n) ls)
    where
      go : (w : Bool) → lines_worth its_cents (suc n) ls ≡ naming_years years ls + naming_years (λ y. not (years y)) ls
          → l.amount + lines_worth its_cents (suc n) ls
          ≡ cond w l.amount 0 + naming_years years ls + (cond (not w) l.amount 0 + naming_years (λ y. not (years y)) ls)
      go true e = omega arith
      go false e = omega arith

  pub years_even : (year : ℕ) (o : Ordinativo)
      → brought_by (of_kind_in kind years) its_cents year o + gone_by kind years year o ≡ given_by (of_kind_in kind years) its_cents year o + come_by kind years year o
  years_even year o = when (is_replacement o.operation) _ _ _ _ (go (eqb o.kind kind) (years year) (in_years o.kind o.lines) (all_years 1 o.lines))
    where
      go : (u w : Bool) → named_worth (of_kind_in kind years) its_cents (namings o) ≡ cond u (naming_years years o.lines) 0
          → lines_worth its_cents 1 o.lines ≡ naming_years years o.lines + naming_years (λ y. not (years y)) o.lines
          → cond (u && w) (lines_worth its_cents 1 o.lines) 0 + cond (u && not w) (naming_years years o.lines) 0
          ≡ named_worth (of_kind_in kind years) its_cents (namings o) + cond (u && w) (naming_years (λ y. not (years y)) o.lines) 0
      go true true e f = omega arith
      go true false e f = omega arith
      go false w e f = omega arith

-- A NEW KEY: INSERIMENTO and SOSTITUZIONE carry a new order
abbrev pub opens : Operation → Bool
opens Inserimento = true
opens Sostituzione = true
opens Variazione = false
opens Annullo = false

abbrev pub new_with : Key → ℕ → Ordinativo → ℕ
new_with key year o = cond (opens o.operation) (cond (with_key key (key_for year o)) 1 0) 0

-- ONE LINE: it is brought in at most once by an order, and only by one that is new
module _ (line : ℕ) where
  past_it : (n : ℕ) (ls : List Line) → line < n → lines_worth (on_line line) n ls ≡ 0
  past_it n [] h = refl
  past_it n (l ∷ ls) h =
      let z : (n ≡ line → ⊥) = λ q. omega arith in
      let x : ◌≡◌ {A = ℕ} (cond (eqb n line) 1 0) 0 = ap (λ (u : Bool). cond u 1 0) (ne_eqb n line z) in
      omega (arith, past_it (suc n) ls (omega arith))

  one_in : (n : ℕ) (ls : List Line) → lines_worth (on_line line) n ls ≤ 1
  one_in n [] = omega arith
  one_in n (l ∷ ls) = go (eqb n line) refl (one_in (suc n) ls) (past_it (suc n) ls)
    where
      go : (w : Bool) → eqb n line ≡ w → lines_worth (on_line line) (suc n) ls ≤ 1 → (line < suc n → lines_worth (on_line line) (suc n) ls ≡ 0)
          → cond w 1 0 + lines_worth (on_line line) (suc n) ls ≤ 1
      go true e h f = omega (arith, f (omega (arith, eqb-true n line e)))
      go false e h f = omega arith

  pub brought_new : (key : Key) (year : ℕ) (o : Ordinativo) → brought_by (with_key key) (on_line line) year o ≤ new_with key year o
  brought_new key year o = go o.operation (with_key key (key_for year o)) (one_in 1 o.lines)
    where
      go : (op : Operation) (u : Bool) → lines_worth (on_line line) 1 o.lines ≤ 1
          → cond (is_replacement op) (cond u (lines_worth (on_line line) 1 o.lines) 0) 0 ≤ cond (opens op) (cond u 1 0) 0
      go Sostituzione true h = h
      go Sostituzione false h = omega arith
      go Inserimento u h = omega arith
      go Variazione u h = omega arith
      go Annullo u h = omega arith
