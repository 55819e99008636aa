-- WHAT A CLOSE LEAVES of what records are worth: all of it that is of later years. And when the records are all of such years.
use Prim.Native.Nat.{ℕ, ◌+◌, ◌≤◌, ◌<◌}
use mathlib.Core.Path.{◌≡◌, refl, ap, ◌∙◌}
use mathlib.Core.Bool.{Bool, true, false, ◌&&◌, not, cond}
use mathlib.Core.List.{List, [], ◌∷◌, ◌++◌}
use native.Mathlib.Omega.{arith}
use lib.Dec.{eqb, ltb}
use borrow.Author.Tests.{eqb-true, eqb-false, ltb-true, lt-ltb}
use Rattle.scan.specs.Bytes.{all}
use Rattle.scan.proofs.Laws.{both}
use Rattle.record.specs.declared.Key.{Key}
use Rattle.record.specs.declared.Record.{Record}
use Rattle.record.specs.Slot.{key_of}
use Rattle.body.specs.Body.{cents_of, all_later}
use Rattle.rules.specs.Worth.{Which, States, Value, Years, worth_in, worth_of, are_executed, worth, of_kind, of_kind_in, its_cents, with_key}
use Rattle.service.proofs.Worth.{cents_worth}
use Rattle.service.proofs.There.{there}
use Rattle.closing.specs.Closing.{keep, staying}
use Rattle.isolation.proofs.History.{EachLine}
use Rattle.theorems.specs.Engine.{Call, flow, execute, reverse, totals, journal, close, Answer, answer_code}
use Rattle.theorems.specs.History.{of_closing, closed_in, open_in, OpenKeys, cents_in}
use Rattle.theorems.proofs.Weighing.{Beyond}

-- OF LATER YEARS ALONE
module _ (p : Which) (year : ℕ) (beyond : Beyond p year) where
  -- a record of the year is none of these
  out : {A : Type 0} (r : Record) → eqb r.esercizio year ≡ true → p (key_of r) ≡ true → A
  out r e q = let a = eqb-true r.esercizio year e in let b = beyond (key_of r) q in absurd (omega arith)

  pub worth_staying : (c : States) (v : Value) (rs : List Record) → worth_of c p v (staying year rs) ≡ worth_of c p v rs
  unfolding worth_of keep
  worth_staying c v [] = refl
  worth_staying c v (r ∷ rs) = go (eqb r.esercizio year) refl (p (key_of r)) refl (worth_staying c v rs)
    where
      go : (x : Bool) → eqb r.esercizio year ≡ x → (u : Bool) → p (key_of r) ≡ u → worth_of c p v (staying year rs) ≡ worth_of c p v rs
          → worth_of c p v (cond (not x) (r ∷ staying year rs) (staying year rs)) ≡ cond u (worth_in c v 1 r.states r.amounts) 0 + worth_of c p v rs
      go true e true q ih = out r e q
      go true e false q ih = omega arith
      go false e u q ih = λ i. cond (q i) (worth_in c v 1 r.states r.amounts) 0 + ih i

pub there_staying : (key : Key) (year : ℕ) → Beyond (with_key key) year → (rs : List Record) → there key (staying year rs) ≡ there key rs
unfolding there keep
there_staying key year beyond [] = refl
there_staying key year beyond (r ∷ rs) = go (eqb r.esercizio year) refl (with_key key (key_of r)) refl (there_staying key year beyond rs)
  where
    go : (x : Bool) → eqb r.esercizio year ≡ x → (u : Bool) → with_key key (key_of r) ≡ u → there key (staying year rs) ≡ there key rs
        → there key (cond (not x) (r ∷ staying year rs) (staying year rs)) ≡ cond u 1 0 + there key rs
    go true e true q ih = out (with_key key) year beyond r e q
    go true e false q ih = omega arith
    go false e u q ih = λ i. cond (q i) 1 0 + ih i

-- ALL RECORDS of years that pass
worth_years : (kind : ℕ) (years : Years) (c : ℕ) → ((y : ℕ) → c < y → years y ≡ true) → (rs : List Record) → all_later c rs ≡ true
    → worth (of_kind_in kind years) its_cents rs ≡ worth (of_kind kind) its_cents rs
unfolding worth_of all_later
worth_years kind years c f [] e = refl
worth_years kind years c f (r ∷ rs) e =
    let w = both (ltb c r.esercizio) (all_later c rs) e in
    let y = f r.esercizio (ltb-true c r.esercizio w.0) in
    let ih = worth_years kind years c f rs w.1 in
    go (eqb r.kind kind) y ih
  where
    X : ℕ
    X = worth_in are_executed its_cents 1 r.states r.amounts

    go : (u : Bool) → years r.esercizio ≡ true → worth (of_kind_in kind years) its_cents rs ≡ worth (of_kind kind) its_cents rs
        → cond (u && years r.esercizio) X 0 + worth (of_kind_in kind years) its_cents rs ≡ cond u X 0 + worth (of_kind kind) its_cents rs
    go true y ih = λ i. cond (y i) X 0 + ih i
    go false y ih = ap (λ (n : ℕ). 0 + n) ih

pub cents_years : (kind : ℕ) (years : Years) (c : ℕ) → ((y : ℕ) → c < y → years y ≡ true) → (rs : List Record) → all_later c rs ≡ true → cents_in kind years rs ≡ cents_of kind rs
cents_years kind years c f rs e = let x = cents_worth kind rs in worth_years kind years c f rs e ∙ omega arith

-- CLOSES IN A LOG: a close that is accepted is of an earlier year than the orders of which p tells
abbrev pub Fair : Which → Call → Answer → Type 0
Fair p (close code year) a = answer_code a ≡ 0 → Beyond p year
Fair p (flow ed f out) a = Unit
Fair p (execute code k n d) a = Unit
Fair p (reverse code k n d) a = Unit
Fair p (totals code) a = Unit
Fair p (journal code s) a = Unit

-- it leaves at least its year closed
abbrev pub Shuts : ℕ → Call → Answer → Type 0
Shuts n (close code year) a = answer_code a ≡ 0 → year ≤ n
Shuts n (flow ed f out) a = Unit
Shuts n (execute code k m d) a = Unit
Shuts n (reverse code k m d) a = Unit
Shuts n (totals code) a = Unit
Shuts n (journal code s) a = Unit

module _ (p : Which) where
  fair_line : (c : Call) (a : Answer) (ys : List ℕ) → ((k : Key) → p k ≡ true → all (λ y. ltb y k.esercizio) (of_closing c a ++ ys) ≡ true)
      → Fair p c a × ((k : Key) → p k ≡ true → all (λ y. ltb y k.esercizio) ys ≡ true)
  unfolding all
  fair_line (close code year) a ys h = go (eqb (answer_code a) 0) refl h
    where
      go : (u : Bool) → eqb (answer_code a) 0 ≡ u → ((k : Key) → p k ≡ true → all (λ y. ltb y k.esercizio) (cond u (year ∷ []) [] ++ ys) ≡ true)
          → (answer_code a ≡ 0 → Beyond p year) × ((k : Key) → p k ≡ true → all (λ y. ltb y k.esercizio) ys ≡ true)
      go true e h = (
        λ z k q. ltb-true year k.esercizio (both (ltb year k.esercizio) (all (λ y. ltb y k.esercizio) ys) (h k q)).0,
        λ k q. (both (ltb year k.esercizio) (all (λ y. ltb y k.esercizio) ys) (h k q)).1,
      )
      go false e h = (λ z. absurd (eqb-false (answer_code a) 0 e z), h)
  fair_line (flow ed f out) a ys h = (tt, h)
  fair_line (execute code k n d) a ys h = (tt, h)
  fair_line (reverse code k n d) a ys h = (tt, h)
  fair_line (totals code) a ys h = (tt, h)
  fair_line (journal code s) a ys h = (tt, h)

  pub fair_log : (ls : List (Call × Answer)) → OpenKeys p ls → EachLine (Fair p) ls
  fair_log [] h = tt
  fair_log (l ∷ ls) h = let w = fair_line l.0 l.1 (closed_in ls) h in (w.0, fair_log ls w.1)

-- a year later than what is closed in the end is open
shut_line : (n y : ℕ) → n < y → (c : Call) (a : Answer) (ys : List ℕ) → Shuts n c a → all (λ x. ltb x y) ys ≡ true → all (λ x. ltb x y) (of_closing c a ++ ys) ≡ true
unfolding all
shut_line n y h (close code year) a ys s e = go (eqb (answer_code a) 0) refl
  where
    go : (u : Bool) → eqb (answer_code a) 0 ≡ u → all (λ x. ltb x y) (cond u (year ∷ []) [] ++ ys) ≡ true
    go true q =
        let l = s (eqb-true (answer_code a) 0 q) in
        let z : ltb year y ≡ true = lt-ltb year y (omega arith) in
        λ i. z i && e i
    go false q = e
shut_line n y h (flow ed f out) a ys s e = e
shut_line n y h (execute code k m d) a ys s e = e
shut_line n y h (reverse code k m d) a ys s e = e
shut_line n y h (totals code) a ys s e = e
shut_line n y h (journal code m) a ys s e = e

pub shut_open : (n y : ℕ) → n < y → (ls : List (Call × Answer)) → EachLine (Shuts n) ls → open_in ls y ≡ true
unfolding all
shut_open n y h [] s = refl
shut_open n y h (l ∷ ls) s = shut_line n y h l.0 l.1 (closed_in ls) s.0 (shut_open n y h ls s.1)

-- where nothing was closed every year is open
pub none_closed : (ls : List (Call × Answer)) → closed_in ls ≡ [] → (y : ℕ) → open_in ls y ≡ true
unfolding all
none_closed ls e y = ap (all (λ c. ltb c y)) e

pub shuts_more : (m n : ℕ) (c : Call) (a : Answer) → m ≤ n → Shuts m c a → Shuts n c a
shuts_more m n (close code year) a h s = λ z. let l = s z in omega arith
shuts_more m n (flow ed f out) a h s = tt
shuts_more m n (execute code k j d) a h s = tt
shuts_more m n (reverse code k j d) a h s = tt
shuts_more m n (totals code) a h s = tt
shuts_more m n (journal code q) a h s = tt
