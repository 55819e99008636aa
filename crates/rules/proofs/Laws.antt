-- Laws of the rules, one way out of the code at a time: what the proofs of this crate cite.
use Prim.Native.Nat.{ℕ, zero, suc, ◌+◌, ◌≤◌, ◌<◌}
use mathlib.Core.Bool.{Bool, true, false, cond, or-true}
use mathlib.Core.List.{List, [], ◌∷◌, ◌++◌}
use mathlib.Core.Path.{◌≡◌, refl, sym, ap, subst, ◌∙◌}
use native.Mathlib.Omega.{arith}
use lib.ListN.{length, take, get_or, replicate, length-append, length-take, length-replicate, get_or-replicate, get_or-eq_default}
use lib.Seq.{ext_get_or, get_or-take, length-take-le}
use lib.Dec.{eqb, ltb}
use borrow.Author.Tests.{eq-eqb, ne_eqb, ltb-true, ltb-false}
use Rattle.std.specs.List.{list_any}
use Rattle.std.specs.Array.{IsFromFnResultFrom, IsFromFnResult}
use Rattle.std.specs.Fn.{Called}
use denote.Param.Members.{Mut}
use Rattle.std.proofs.Common.{nat_eq}
use lib.Pointwise.{pointwise}
use mathlib.Core.Bool.{◌&&◌, ◌||◌}
use Rattle.order.specs.declared.Line.{Line}
use Rattle.order.specs.Ordinativo.{no_line}
use Rattle.record.specs.declared.Record.{Record}
use Rattle.rules.specs.declared.Situation.TheVariants.{Annulled, Executed}
use Rattle.rules.specs.Rules.{was_executed, any_executed, situation_in, eight_places, amounts_of, same_list, line_moves}

-- EIGHT PLACES

padded : (ns : List ℕ) (m k : ℕ) → get_or (ns ++ replicate m 0) k 0 ≡ get_or ns k 0
padded [] zero k = refl
padded [] (suc m) zero = refl
padded [] (suc m) (suc k) = padded [] m k
padded (n ∷ ns) m zero = refl
padded (n ∷ ns) m (suc k) = padded ns m k

module _ (ns : List ℕ) where
  pub eight_at_lem : (k : ℕ) → k < 8 → get_or (eight_places ns) k 0 ≡ get_or ns k 0
  eight_at_lem k h = get_or-take 8 (ns ++ replicate 8 0) k 0 h ∙ padded ns 8 k

  pub length_eight : length (eight_places ns) ≡ 8
  length_eight = length-take-le 8 (ns ++ replicate 8 0) (omega (arith, length-append ns (replicate 8 0), length-replicate {A = ℕ} 8 0))

-- calls of a pure function of the place, one for each from i on
module _ {F : Type 0} {g : Mut F (ℕ × Unit {0}) ℕ} {f : F} (h : ℕ → ℕ) (pure : (i y : ℕ) (q : F) → Called g f (i, tt) y q → (q ≡ f) × (y ≡ h i)) where
  each_called : (ys : List ℕ) (i n : ℕ) (p : F) → p ≡ f → IsFromFnResultFrom g p ys i n → (k j : ℕ) → k < n → j ≡ i + k → get_or ys j 0 ≡ h j
  each_called ys i zero p e w k j l q = absurd (omega arith)
  each_called ys i (suc n) p e (r, y, here, call, rest) zero j l q =
      let z : j ≡ i = omega arith in
      rw z (here.1 0 ∙ (pure i y r (subst (λ (x : F). Called g x (i, tt) y r) e call)).1)
  each_called ys i (suc n) p e (r, y, here, call, rest) (suc k) j l q =
      each_called ys (i + 1) n r (pure i y r (subst (λ (x : F). Called g x (i, tt) y r) e call)).0 rest k j (omega arith) (omega arith)

-- an array that such calls made has the eight places of a list
pub made_eight : {F : Type 0} {g : Mut F (ℕ × Unit {0}) ℕ} {f : F} (ns : List ℕ) {ys : List ℕ} (h : ℕ → ℕ) → IsFromFnResult g f ys 8
    → ((i y : ℕ) (q : F) → Called g f (i, tt) y q → (q ≡ f) × (y ≡ h i)) → ((k : ℕ) → h k ≡ get_or ns k 0) → ys ≡ eight_places ns
made_eight {F} {g} {f} ns {ys} h w pure e =
    ext_get_or 0 ys (eight_places ns) (w.long ∙ sym (length_eight ns))
    (λ k l.
    let m : k < 8 = omega (arith, w.long) in
    each_called h pure ys 0 8 f refl w.each k k m (omega arith) ∙ e k ∙ sym (eight_at_lem ns k m))

-- a test whether there is a line k, by what holds where there is one and where there is none
module _ (n k : ℕ) {v x : ℕ} (there : k < n → x ≡ v) (past : n ≤ k → x ≡ 0) where
  tested : cond (ltb k n) v 0 ≡ x
  tested = go (ltb k n) refl
    where
      go : (b : Bool) → ltb k n ≡ b → cond b v 0 ≡ x
      go true e = sym (there (ltb-true k n e))
      go false e = sym (past (ltb-false k n e))

pub amount_at : (e : List Line) (k : ℕ) → get_or (amounts_of e) k 0 ≡ (get_or e k no_line).amount
unfolding amounts_of
amount_at [] k = refl
amount_at (l ∷ e) zero = refl
amount_at (l ∷ e) (suc k) = amount_at e k

pub amount_there : (n : ℕ) (e : List Line) (k : ℕ) → cond (ltb k n) (get_or e k no_line).amount 0 ≡ get_or (amounts_of (take n e)) k 0
amount_there n e k =
    tested n k (λ h. amount_at (take n e) k ∙ ap (λ (l : Line). l.amount) (get_or-take n e k no_line h))
    (λ h. amount_at (take n e) k ∙ ap (λ (l : Line). l.amount) (get_or-eq_default (take n e) no_line (omega (arith, length-take n e))))

pub state_there : (s n k : ℕ) → cond (ltb k n) s 0 ≡ get_or (replicate n s) k 0
state_there s n k = tested n k (get_or-replicate n k s 0) (λ h. get_or-eq_default (replicate n s) 0 (omega (arith, length-replicate {A = ℕ} n s)))

-- LISTS, as the library's functions go over them

pub same_is : (a b : List ℕ) → pointwise nat_eq a b ≡ same_list a b
unfolding same_list
same_is [] [] = refl
same_is [] (y ∷ b) = refl
same_is (x ∷ a) [] = refl
same_is (x ∷ a) (y ∷ b) = ap (λ (z : Bool). eqb x y && z) (same_is a b)

pub any_is : (s : List ℕ) → list_any was_executed s ≡ any_executed s
unfolding any_executed
any_is [] = refl
any_is (x ∷ s) = ap (λ (z : Bool). was_executed x || z) (any_is s)

-- A SITUATION

module _ (r : Record) where
  pub in_annulled : r.state ≡ 2 → situation_in r ≡ Annulled
  unfolding situation_in
  in_annulled e = rw (eq-eqb _ _ e)

  pub in_executed : (r.state ≡ 2 → ⊥) → any_executed r.states ≡ true → situation_in r ≡ Executed
  unfolding situation_in
  in_executed s e = rw (ne_eqb _ _ s, e)

-- A NOTICE

-- a line that is executed or replaced
pub was_2 : (s : ℕ) → s ≡ 2 → was_executed s ≡ true
was_2 s e = rw (eq-eqb s 2 e)

pub was_3 : (s : ℕ) → s ≡ 3 → was_executed s ≡ true
was_3 s e = rw (eq-eqb s 3 e, or-true)

pub execution_stops : (s : ℕ) {b : Bool} → b ≡ was_executed s → b ≡ true → line_moves true s ≡ 21
unfolding line_moves
execution_stops s q e = rw (sym q ∙ e)

pub reversal_stops : (s : ℕ) → (s ≡ 2 → ⊥) → line_moves false s ≡ 22
unfolding line_moves
reversal_stops s e = rw (ne_eqb _ _ e)
