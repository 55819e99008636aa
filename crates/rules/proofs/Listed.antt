-- The refusals that the rules give are those that are listed, and an accepted order or a moved line has none.
use Rattle.std.specs.Prelude.{Option, Result, Some, None, Ok, Err}
use Prim.Native.Nat.{ℕ, zero, suc, ◌+◌, ◌-◌, ◌*◌, ◌≤◌, ◌<◌}
use mathlib.Core.Bool.{Bool, true, false, ◌&&◌, ◌||◌, cond, and-false, or-true}
use mathlib.Core.List.Memᴰ
use mathlib.Core.List.{List, [], ◌∷◌, map, Memᴰ}
use mathlib.Core.Logic.{◌⊎◌, inl, inr}
use mathlib.Core.Path.{◌≡◌, refl, sym, ap, subst, ◌∙◌}
use native.Mathlib.Omega.{arith}
use lib.ListN.{length, get_or}
use lib.Dec.{eqb, leb, ltb}
use borrow.Author.Tests.{eq-eqb, ne_eqb, eqb-true, eqb-false, ltb-true, ltb-false, leb-false, lt-leb}
use Rattle.scan.proofs.Laws.{both}
use Rattle.ranges.specs.Ranges.{is_nothing}
use Rattle.codes.specs.declared.Operation.{Operation}
use Rattle.codes.specs.declared.Operation.TheVariants.{Inserimento, Variazione, Annullo, Sostituzione}
use Rattle.order.specs.declared.Line.{Line}
use Rattle.order.specs.declared.NamedLine.{NamedLine}
use Rattle.order.specs.Ordinativo.{Ordinativo}
use Rattle.record.specs.declared.Record.{Record}
use Rattle.record.specs.declared.Key.{Key}
use Rattle.record.specs.Slot.{key_of, key_is}
use Rattle.slots.specs.Slots.{find_in, distinct, nth, no_record}
use Rattle.slots.proofs.Search.{nothing_is, found_below, found_key}
use Rattle.lines.specs.Lines.{numbered_from, sum_of, line_code}
use Rattle.replacing.specs.declared.Naming.{Naming}
use Rattle.replacing.specs.Replacing.{line_named_in, named_at, named_code}
use Rattle.replacing.specs.Inner.{naming_at, same_named, named_earlier, code_again, read_code}
use Rattle.replacing.proofs.Marks.{Comes, stops, stands, comes}
use Rattle.rules.specs.declared.Situation.{Situation}
use Rattle.rules.specs.declared.Situation.TheVariants.{Annulled, Waiting, Executed}
use Rattle.rules.specs.declared.Change.{Change}
use Rattle.rules.specs.declared.Change.TheVariants.{Insert, Vary, Annul, Replace}
use Rattle.rules.specs.Rules.{change_of, was_executed, any_executed, situation_in, situation_of, row, step_code, key_for, eight_places, amounts_of, same_list, same_order, first_empty, placed, unless, stepped, judge_order, line_moves, notice_in, notice_at, judge_notice}
use Rattle.rules.specs.Listed.{Has, HasNone, IsAnnulled, IsExecuted, IsReplaced, Numbered, Differs, total, count, amounts, OnRecord, variazione, annullo, WithNew, inserimento, sostituzione, line_at, named_key, named_number, name_turn, last_turn, Applies, misnumbered, missummed, present, absent, annulled, executed, no_order, line_zero, line_past, not_executed, named_before, other_amount, full, differs, NoticeApplies, unknown, closed, zeroth, past, already, not_yet, notice_turn}
use Rattle.rules.proofs.Laws.{in_annulled, in_executed, was_2, was_3, execution_stops, reversal_stops}
use Rattle.rules.proofs.Kept.{none_executed}

-- two constructors are never equal
abbrev clash : Type 0
clash = ◌≡◌ {A = ℕ} 0 1

no : {A : Type 0} → clash → A
no z = absurd (omega arith)

false_true : {A : Type 0} → ◌≡◌ {A = Bool} false true → A
false_true e = let z : clash = cc in no z

-- THE RECORD WITH A KEY

at_in : (rs : List Record) (i : ℕ) → i < length rs → Memᴰ (nth rs i) rs
at_in [] i h = absurd (omega arith)
at_in (r ∷ rs) zero h = Memᴰ.head refl
at_in (r ∷ rs) (suc i) h = Memᴰ.tail (at_in rs i (omega arith))

pub found_has : (rs : List Record) (k : Key) (i : ℕ) → find_in rs 0 k ≡ Some i → Has rs k (nth rs i)
found_has rs k i e = record { among = at_in rs i (found_below rs k i no_record e); key = found_key rs k i no_record e }

is_key : (r : Record) (k : Key) → key_of r ≡ k → key_is r k ≡ true
unfolding key_is
is_key r k e =
    rw (eq-eqb r.kind k.kind (ap (λ (x : Key). x.kind) e), eq-eqb r.esercizio k.esercizio (ap (λ (x : Key). x.esercizio) e), eq-eqb r.number k.number (ap (λ (x : Key). x.number) e))

none_found : (rs : List Record) (j : ℕ) (k : Key) → find_in rs j k ≡ None → (r : Record) → Memᴰ r rs → key_of r ≡ k → ⊥
unfolding find_in
none_found [] j k e r m q = Memᴰ.not-nil m
none_found (x ∷ rs) j k e r m q = go (key_is x k) refl e (Memᴰ.cases_cons m) (none_found rs (j + 1) k)
  where
    go : (b : Bool) → key_is x k ≡ b → cond b (Some j) (find_in rs (j + 1) k) ≡ None → (r ≡ x) ⊎ Memᴰ r rs
        → (find_in rs (j + 1) k ≡ None → (y : Record) → Memᴰ y rs → key_of y ≡ k → ⊥) → ⊥
    go true p f w ih = let z : clash = cc in no z
    go false p f (inl s) ih = false_true (sym p ∙ is_key x k (ap key_of (sym s) ∙ q))
    go false p f (inr w) ih = ih f r w q

pub nothing_none : (rs : List Record) (k : Key) → find_in rs 0 k ≡ None → HasNone rs k
nothing_none rs k e r h = none_found rs 0 k e r h.among h.key

one_of : (rs : List Record) → distinct rs ≡ true → (r s : Record) → Memᴰ r rs → Memᴰ s rs → key_of r ≡ key_of s → r ≡ s
unfolding distinct
one_of [] d r s m n e = absurd (Memᴰ.not-nil m)
one_of (x ∷ rs) d r s m n e = go (Memᴰ.cases_cons m) (Memᴰ.cases_cons n) (one_of rs)
  where
    parts : (is_nothing (find_in rs 0 (key_of x)) ≡ true) × (distinct rs ≡ true)
    parts = both (is_nothing (find_in rs 0 (key_of x))) (distinct rs) d

    alone : (y : Record) → Memᴰ y rs → key_of y ≡ key_of x → ⊥
    alone = none_found rs 0 (key_of x) (nothing_is (find_in rs 0 (key_of x)) parts.0)

    go : (r ≡ x) ⊎ Memᴰ r rs → (s ≡ x) ⊎ Memᴰ s rs
        → (distinct rs ≡ true → (y z : Record) → Memᴰ y rs → Memᴰ z rs → key_of y ≡ key_of z → y ≡ z) → r ≡ s
    go (inl p) (inl q) ih = p ∙ sym q
    go (inl p) (inr q) ih = absurd (alone s q (sym e ∙ ap key_of p))
    go (inr p) (inl q) ih = absurd (alone r p (e ∙ ap key_of q))
    go (inr p) (inr q) ih = ih parts.1 r s p q e

-- where keys are distinct, the record with the key is the one that is found
pub has_found : (rs : List Record) (k : Key) (i : ℕ) (r : Record) → distinct rs ≡ true → find_in rs 0 k ≡ Some i → Has rs k r → nth rs i ≡ r
has_found rs k i r d e h = let x = found_has rs k i e in one_of rs d (nth rs i) r x.among h.among (x.key ∙ sym h.key)

pub record HasAt (rs : List Record) (k : Key) (r : Record) : Type 0 where
  pub at : ℕ
  pub found : find_in rs 0 k ≡ Some at
  pub same : nth rs at ≡ r

has_at : (rs : List Record) (k : Key) (r : Record) → distinct rs ≡ true → Has rs k r → HasAt rs k r
has_at rs k r d h = go (find_in rs 0 k) refl
  where
    go : (f : Option ℕ) → find_in rs 0 k ≡ f → HasAt rs k r
    go None e = absurd (nothing_none rs k e r h)
    go (Some i) e = record { at = i; found = e; same = has_found rs k i r d e h }

none_nothing : (rs : List Record) (k : Key) → HasNone rs k → find_in rs 0 k ≡ None
none_nothing rs k h = go (find_in rs 0 k) refl
  where
    go : (f : Option ℕ) → find_in rs 0 k ≡ f → f ≡ None
    go None e = refl
    go (Some i) e = absurd (h (nth rs i) (found_has rs k i e))

is_not : (b : Bool) → (b ≡ true → ⊥) → b ≡ false
is_not true h = absurd (h refl)
is_not false h = refl

-- LINES

-- a line that was executed is so still, or has been replaced
was_is : (s : ℕ) → was_executed s ≡ true → (s ≡ 2) ⊎ (s ≡ 3)
was_is s e = go (eqb s 2) (eqb s 3) refl refl e
  where
    go : (a b : Bool) → eqb s 2 ≡ a → eqb s 3 ≡ b → (a || b) ≡ true → (s ≡ 2) ⊎ (s ≡ 3)
    go true b p q e = inl (eqb-true s 2 p)
    go false true p q e = inr (eqb-true s 3 q)
    go false false p q e = false_true e

is_was : (s : ℕ) → (s ≡ 2) ⊎ (s ≡ 3) → was_executed s ≡ true
is_was s (inl e) = was_2 s e
is_was s (inr e) = was_3 s e

some_executed : (s : List ℕ) → any_executed s ≡ true → (k : ℕ) × (was_executed (get_or s k 0) ≡ true)
unfolding any_executed
some_executed [] e = false_true e
some_executed (x ∷ s) e = go (was_executed x) refl e (some_executed s)
  where
    go : (b : Bool) → was_executed x ≡ b → (b || any_executed s) ≡ true → (any_executed s ≡ true → (k : ℕ) × (was_executed (get_or s k 0) ≡ true)) → (k : ℕ) × (was_executed (get_or (x ∷ s) k 0) ≡ true)
    go true p f ih = (0, p)
    go false p f ih = let y = ih f in (suc y.0, y.1)

is_executed : (s : List ℕ) (k : ℕ) → was_executed (get_or s k 0) ≡ true → any_executed s ≡ true
is_executed s k e = go (any_executed s) refl
  where
    go : (b : Bool) → any_executed s ≡ b → b ≡ true
    go true p = refl
    go false p = absurd (none_executed s k p e)

abbrev numbers : List Line → List ℕ
numbers ls = map (λ (l : Line). l.progressivo) ls

numbered_from_lem : (n : ℕ) (ls : List Line) → ((k : ℕ) → k < length ls → get_or (numbers ls) k 0 ≡ n + k) → numbered_from n ls ≡ true
unfolding numbered_from
numbered_from_lem n [] h = refl
numbered_from_lem n (l ∷ ls) h =
    let e : l.progressivo ≡ n = omega (arith, h 0 (omega arith)) in
    let r = numbered_from_lem (n + 1) ls (λ k p. omega (arith, h (suc k) (omega arith))) in
    rw (eq-eqb l.progressivo n e, r)

from_numbered : (n : ℕ) (ls : List Line) → numbered_from n ls ≡ true → (k : ℕ) → k < length ls → get_or (numbers ls) k 0 ≡ n + k
unfolding numbered_from
from_numbered n [] e k h = absurd (omega arith)
from_numbered n (l ∷ ls) e zero h = omega (arith, eqb-true l.progressivo n (both (eqb l.progressivo n) (numbered_from (n + 1) ls) e).0)
from_numbered n (l ∷ ls) e (suc k) h = omega (arith, from_numbered (n + 1) ls (both (eqb l.progressivo n) (numbered_from (n + 1) ls) e).1 k (omega arith))

pub numbered_true : (ls : List Line) → Numbered ls → numbered_from 1 ls ≡ true
numbered_true ls h = numbered_from_lem 1 ls (λ k p. omega (arith, h k p))

pub true_numbered : (ls : List Line) → numbered_from 1 ls ≡ true → Numbered ls
true_numbered ls e k p = omega (arith, from_numbered 1 ls e k p)

-- THE SAME ORDER

same_self : (a : List ℕ) → same_list a a ≡ true
unfolding same_list
same_self [] = refl
same_self (x ∷ a) = rw (eq-eqb x x refl, same_self a)

same_true : (a b : List ℕ) → same_list a b ≡ true → a ≡ b
unfolding same_list
same_true [] [] e = refl
same_true [] (y ∷ b) e = false_true e
same_true (x ∷ a) [] e = false_true e
same_true (x ∷ a) (y ∷ b) e =
    let w = both (eqb x y) (same_list a b) e in
    let p = eqb-true x y w.0 in
    let q = same_true a b w.1 in
    λ i. p i ∷ q i

module _ (o : Ordinativo) (r : Record) where
  abbrev mine : List ℕ
  mine = eight_places (amounts_of o.lines)

  other_differs : same_order o r ≡ false → Differs o r
  unfolding same_order
  other_differs e = go (eqb o.total r.total) (eqb (length o.lines) r.lines) (same_list mine r.amounts) refl refl refl e
    where
      go : (a b c : Bool) → eqb o.total r.total ≡ a → eqb (length o.lines) r.lines ≡ b → same_list mine r.amounts ≡ c → (a && (b && c)) ≡ false → Differs o r
      go false b c p q s e = total (eqb-false _ _ p)
      go true false c p q s e = count (eqb-false _ _ q)
      go true true false p q s e = amounts (λ z. false_true (sym s ∙ sym (ap (same_list mine) z) ∙ same_self mine))
      go true true true p q s e = false_true (sym e)

  same_differs : same_order o r ≡ true → Differs o r → ⊥
  unfolding same_order
  same_differs e (total h) = h (eqb-true _ _ (both (eqb o.total r.total) _ e).0)
  same_differs e (count h) = h (eqb-true _ _ (both (eqb (length o.lines) r.lines) (same_list mine r.amounts) (both (eqb o.total r.total) _ e).1).0)
  same_differs e (amounts h) = h (same_true mine r.amounts (both (eqb (length o.lines) r.lines) (same_list mine r.amounts) (both (eqb o.total r.total) _ e).1).1)

-- THE LINE THAT A LINE NAMES, by reading only

-- what `named_code` tells
data Tells (rs : List Record) (m : Naming) : ℕ → Type 0 where
  none_such : HasNone rs m.key → Tells rs m 24
  not_first : m.line ≡ 0 → Tells rs m 24
  too_far : (r : Record) → Has rs m.key r → r.lines < m.line → Tells rs m 24
  unexecuted : (r : Record) → Has rs m.key r → (get_or r.states (m.line - 1) 0 ≡ 2 → ⊥) → Tells rs m 25
  unequal : (r : Record) → Has rs m.key r → (get_or r.amounts (m.line - 1) 0 ≡ m.amount → ⊥) → Tells rs m 26
  fine : Tells rs m 0

tells_in : (rs : List Record) (m : Naming) (r : Record) → Has rs m.key r → Tells rs m (line_named_in r m.line m.amount)
unfolding line_named_in
tells_in rs m r h = go (leb 1 m.line) (leb m.line r.lines) (eqb (get_or r.states (m.line - 1) 0) 2) (eqb (get_or r.amounts (m.line - 1) 0) m.amount) refl refl refl refl
  where
    go : (a b c d : Bool) → leb 1 m.line ≡ a → leb m.line r.lines ≡ b → eqb (get_or r.states (m.line - 1) 0) 2 ≡ c → eqb (get_or r.amounts (m.line - 1) 0) m.amount ≡ d
        → Tells rs m (cond (a && b) (cond c (cond d 0 26) 25) 24)
    go false b c d p q s u = not_first (omega (arith, leb-false 1 m.line p))
    go true false c d p q s u = too_far r h (leb-false m.line r.lines q)
    go true true false d p q s u = unexecuted r h (eqb-false _ _ s)
    go true true true false p q s u = unequal r h (eqb-false _ _ u)
    go true true true true p q s u = fine

tells : (rs : List Record) (m : Naming) → Tells rs m (named_code rs m)
unfolding named_code named_at
tells rs m = go (find_in rs 0 m.key) refl
  where
    go : (f : Option ℕ) → find_in rs 0 m.key ≡ f → Tells rs m (named_at rs m f)
    go None e = none_such (nothing_none rs m.key e)
    go (Some i) e = tells_in rs m (nth rs i) (found_has rs m.key i e)

-- and the other way round: a code from 24 to x
abbrev To : ℕ → ℕ → Type 0
To x c = (24 ≤ c) × (c ≤ x)

in_to : (r : Record) (line amount : ℕ) (x : ℕ) → (x ≡ 24 → (leb 1 line && leb line r.lines) ≡ false) → (x ≡ 25 → eqb (get_or r.states (line - 1) 0) 2 ≡ false)
    → (x ≡ 26 → eqb (get_or r.amounts (line - 1) 0) amount ≡ false) → To 26 x → To x (line_named_in r line amount)
unfolding line_named_in
in_to r line amount x f g h t = go (leb 1 line && leb line r.lines) (eqb (get_or r.states (line - 1) 0) 2) (eqb (get_or r.amounts (line - 1) 0) amount) f g h
  where
    no_such : {a : Bool} {A : Type 0} → a ≡ true → a ≡ false → A
    no_such p q = false_true (sym q ∙ p)

    go : (a b c : Bool) → (x ≡ 24 → a ≡ false) → (x ≡ 25 → b ≡ false) → (x ≡ 26 → c ≡ false) → To x (cond a (cond b (cond c 0 26) 25) 24)
    go false b c f g h = (omega arith, t.0)
    go true false c f g h = (omega arith, ge 25 (λ (q : x ≡ 24). no_such refl (f q)))
      where
        ge : (y : ℕ) → (x ≡ 24 → ⊥) → 25 ≤ x
        ge y n = omega (arith, t)
    go true true false f g h = (omega arith, ge (λ (q : x ≡ 24). no_such refl (f q)) (λ (q : x ≡ 25). no_such refl (g q)))
      where
        ge : (x ≡ 24 → ⊥) → (x ≡ 25 → ⊥) → 26 ≤ x
        ge n m = omega (arith, t)
    go true true true f g h = absurd (none (λ (q : x ≡ 24). no_such refl (f q)) (λ (q : x ≡ 25). no_such refl (g q)) (λ (q : x ≡ 26). no_such refl (h q)))
      where
        none : (x ≡ 24 → ⊥) → (x ≡ 25 → ⊥) → (x ≡ 26 → ⊥) → ⊥
        none n m k = omega (arith, t)

-- a line that was named before, too
again_to : (b : Bool) (x c : ℕ) → To x c → To x (code_again b c)
unfolding code_again
again_to false x c t = t
again_to true x c t = go (eqb c 24) refl
  where
    go : (a : Bool) → eqb c 24 ≡ a → To x (cond a 24 25)
    go true e = (omega arith, omega (arith, t))
    go false e = (omega arith, omega (arith, t, eqb-false c 24 e))

-- WHETHER A LINE IS NAMED BEFORE
module _ (o : Ordinativo) where
  abbrev at : ℕ → Naming
  at j = naming_at o.kind o.lines j

  same_named_lem : (i j : ℕ) → same_named (at i) (at j) ≡ true → (line_at o i).named ≡ (line_at o j).named
  unfolding same_named naming_at
  same_named_lem i j e =
      let a = both (eqb (at i).line (at j).line) _ e in
      let b = both (eqb (at i).key.number (at j).key.number) (eqb (at i).key.esercizio (at j).key.esercizio) a.1 in
      let x = eqb-true _ _ a.0 in
      let y = eqb-true _ _ b.0 in
      let z = eqb-true _ _ b.1 in
      λ k. record { number = y k; line = x k; esercizio = z k }

  named_same : (i j : ℕ) → (line_at o i).named ≡ (line_at o j).named → same_named (at i) (at j) ≡ true
  unfolding same_named naming_at
  named_same i j e =
      rw (
        eq-eqb (line_at o i).named.line (line_at o j).named.line (ap (λ (n : NamedLine). n.line) e),
        eq-eqb (line_at o i).named.number (line_at o j).named.number (ap (λ (n : NamedLine). n.number) e),
        eq-eqb (line_at o i).named.esercizio (line_at o j).named.esercizio (ap (λ (n : NamedLine). n.esercizio) e),
      )

  before : (n j : ℕ) → named_earlier o.kind o.lines n (at j) ≡ true → (i : ℕ) × (i < n) × ((line_at o i).named ≡ (line_at o j).named)
  unfolding named_earlier
  before zero j e = false_true e
  before (suc n) j e = go (same_named (at n) (at j)) refl e (before n j)
    where
      go : (b : Bool) → same_named (at n) (at j) ≡ b → (b || named_earlier o.kind o.lines n (at j)) ≡ true
          → (named_earlier o.kind o.lines n (at j) ≡ true → (i : ℕ) × (i < n) × ((line_at o i).named ≡ (line_at o j).named)) → (i : ℕ) × (i < suc n) × ((line_at o i).named ≡ (line_at o j).named)
      go true p e next = (n, omega arith, same_named_lem n j p)
      go false p e next = let x = next e in let l = x.1 in (x.0, omega arith, x.2)

  is_before : (n j i : ℕ) → i < n → (line_at o i).named ≡ (line_at o j).named → named_earlier o.kind o.lines n (at j) ≡ true
  unfolding named_earlier
  is_before zero j i h e = absurd (omega arith)
  is_before (suc n) j i h e = go (eqb i n) refl (λ q. is_before n j i q e)
    where
      go : (b : Bool) → eqb i n ≡ b → (i < n → named_earlier o.kind o.lines n (at j) ≡ true) → (same_named (at n) (at j) || named_earlier o.kind o.lines n (at j)) ≡ true
      go true p next = let q = eqb-true i n p in rw (named_same n j (ap (λ (x : ℕ). (line_at o x).named) (sym q) ∙ e))
      go false p next = rw (next (omega (arith, eqb-false i n p)), or-true)

-- no line's code is above 26
at_most : {rs : List Record} {m : Naming} (b : Bool) {n : ℕ} → Tells rs m n → {c : ℕ} → code_again b n ≡ c → c ≤ 26
unfolding code_again
at_most true {n} t {c} e = late (eqb n 24) e
  where
    late : (a : Bool) → cond a 24 25 ≡ c → c ≤ 26
    late true p = omega arith
    late false p = omega arith
at_most false (none_such h) e = omega arith
at_most false (not_first h) e = omega arith
at_most false (too_far r h k) e = omega arith
at_most false (unexecuted r h k) e = omega arith
at_most false (unequal r h k) e = omega arith
at_most false fine e = omega arith

-- which of three a number is
unfoldable third : ℕ → ℕ
third zero = 0
third (suc zero) = 1
third (suc (suc zero)) = 2
third (suc (suc (suc n))) = third n

thirds : (j k : ℕ) → k < 3 → third (3 * j + k) ≡ k
unfolding third
thirds zero zero h = refl
thirds zero (suc zero) h = refl
thirds zero (suc (suc zero)) h = refl
thirds zero (suc (suc (suc k))) h = absurd (omega arith)
thirds (suc j) k h =
    let q : 3 * suc j + k ≡ suc (suc (suc (3 * j + k))) = omega arith in
    ap third q ∙ thirds j k h

-- AN ORDER
module _ (slots year : ℕ) (o : Ordinativo) (rs : List Record) where
  abbrev key : Key
  key = key_for year o

  abbrev answer : Result (Change × ℕ) ℕ
  answer = judge_order slots year o rs

  abbrev change : Change
  change = change_of o.operation

  abbrev found : Option ℕ
  found = find_in rs 0 key

  abbrev step : ℕ
  step = step_code change (situation_of rs found)

  -- what line j comes to
  abbrev code : ℕ → ℕ
  code j = read_code o.kind o.lines rs j

  -- a refused line: what applies to it
  named_applies : o.operation ≡ Sostituzione → (j : ℕ) → j < length o.lines → (c : ℕ) → code j ≡ suc c → Applies slots year o rs (name_turn j + (suc c - 24)) (suc c)
  unfolding code_again naming_at
  named_applies p j l c e = go (named_earlier o.kind o.lines j (at o j)) refl (tells rs (at o j)) e
    where
      absent_again : (b : Bool) → code_again b 24 ≡ 24
      absent_again true = refl
      absent_again false = refl

      kept_as : {t x : ℕ} → Applies slots year o rs t x → x ≡ suc c → t ≡ name_turn j + (x - 24) → Applies slots year o rs (name_turn j + (suc c - 24)) (suc c)
      kept_as {t} {x} a q r = subst (λ (y : ℕ). Applies slots year o rs (name_turn j + (y - 24)) y) q (subst (λ (y : ℕ). Applies slots year o rs y x) r a)

      go : (b : Bool) → named_earlier o.kind o.lines j (at o j) ≡ b → {n : ℕ} → Tells rs (at o j) n → code_again b n ≡ suc c → Applies slots year o rs (name_turn j + (suc c - 24)) (suc c)
      go b q (none_such h) e = kept_as (no_order p j l h) (sym (absent_again b) ∙ e) (omega arith)
      go b q (not_first h) e = kept_as (line_zero p j l h) (sym (absent_again b) ∙ e) (omega arith)
      go b q (too_far r h k) e = kept_as (line_past p j l r h k) (sym (absent_again b) ∙ e) (omega arith)
      go true q (unexecuted r h k) e = kept_as (not_executed p j l r h k) e (omega arith)
      go false q (unexecuted r h k) e = kept_as (not_executed p j l r h k) e (omega arith)
      go true q (unequal r h k) e = let x = before o j j q in kept_as (named_before p j l x.0 x.1 x.2) e (omega arith)
      go false q (unequal r h k) e = kept_as (other_amount p j l r h k) e (omega arith)
      go true q fine e = let x = before o j j q in kept_as (named_before p j l x.0 x.1 x.2) e (omega arith)
      go false q fine e = absurd (omega arith)

  -- THE STEP TABLE, at what is listed
  module _ (d : distinct rs ≡ true) where
    new_row : WithNew o.operation → (s : Situation) → step_code change s ≡ row 0 14 14 14 s
    new_row w s = go o.operation w
      where
        go : (p : Operation) → WithNew p → step_code (change_of p) s ≡ row 0 14 14 14 s
        go p inserimento = refl
        go p sostituzione = refl

    record_row : OnRecord o.operation → (s : Situation) → step_code change s ≡ row 16 17 0 18 s
    record_row w s = go o.operation w
      where
        go : (p : Operation) → OnRecord p → step_code (change_of p) s ≡ row 16 17 0 18 s
        go p variazione = refl
        go p annullo = refl

    there_14 : (i : ℕ) → row 0 14 14 14 (situation_of rs (Some i)) ≡ 14
    unfolding situation_of situation_in
    there_14 i = go (eqb (nth rs i).state 2) (any_executed (nth rs i).states)
      where
        go : (a b : Bool) → row 0 14 14 14 (cond a Annulled (cond b Executed Waiting)) ≡ 14
        go true b = refl
        go false true = refl
        go false false = refl

    step_present : WithNew o.operation → (r : Record) → Has rs key r → step ≡ 14
    step_present w r h =
        let x = has_at rs key r d h in
        new_row w (situation_of rs found) ∙ ap (λ (f : Option ℕ). row 0 14 14 14 (situation_of rs f)) x.found ∙ there_14 x.at

    step_absent : OnRecord o.operation → HasNone rs key → step ≡ 16
    unfolding situation_of
    step_absent w h = record_row w (situation_of rs found) ∙ ap (λ (f : Option ℕ). row 16 17 0 18 (situation_of rs f)) (none_nothing rs key h)

    step_at : OnRecord o.operation → (r : Record) → Has rs key r → {s : Situation} → situation_in r ≡ s → step ≡ row 16 17 0 18 s
    unfolding situation_of
    step_at w r h q =
        let x = has_at rs key r d h in
        record_row w (situation_of rs found) ∙ ap (λ (f : Option ℕ). row 16 17 0 18 (situation_of rs f)) x.found ∙ ap (λ (y : Record). row 16 17 0 18 (situation_in y)) x.same ∙ ap (row 16 17 0 18) q

    step_annulled : OnRecord o.operation → (r : Record) → Has rs key r → IsAnnulled r → step ≡ 17
    step_annulled w r h e = step_at w r h (in_annulled r e)

    step_executed : OnRecord o.operation → (r : Record) → Has rs key r → (IsAnnulled r → ⊥) → (k : ℕ) → IsExecuted r k ⊎ IsReplaced r k → step ≡ 18
    step_executed w r h n k e = step_at w r h (in_executed r n (is_executed r.states k (is_was (get_or r.states k 0) e)))

    -- A NAMED LINE, at what is listed: its code lies from 24 to the listed one
    module _ (j : ℕ) where
      code_from : (x : ℕ) → To x (named_code rs (at o j)) → To x (code j)
      code_from x t = again_to (named_earlier o.kind o.lines j (at o j)) x (named_code rs (at o j)) t

      of_record : (r : Record) → Has rs (named_key o j) r → {x : ℕ} → To x (line_named_in r (named_number o j) (line_at o j).amount) → To x (named_code rs (at o j))
      unfolding named_code named_at naming_at
      of_record r h {x} t =
          let y = has_at rs (named_key o j) r d h in
          subst (To x) (sym (ap (named_at rs (at o j)) y.found ∙ ap (λ (z : Record). line_named_in z (named_number o j) (line_at o j).amount) y.same)) t

      code_none : HasNone rs (named_key o j) → To 24 (code j)
      unfolding named_code named_at naming_at
      code_none h = code_from 24 (subst (To 24) (sym (ap (named_at rs (at o j)) (none_nothing rs (named_key o j) h))) (omega arith, omega arith))

      code_zero : named_number o j ≡ 0 → To 24 (code j)
      unfolding named_code named_at naming_at
      code_zero e = code_from 24 (go (find_in rs 0 (named_key o j)))
        where
          go : (f : Option ℕ) → To 24 (named_at rs (at o j) f)
          go None = (omega arith, omega arith)
          go (Some i) =
              in_to (nth rs i) (named_number o j) (line_at o j).amount 24 (λ q. rw (lt-leb 1 (named_number o j) (omega arith))) (λ q. absurd (omega arith)) (λ q. absurd (omega arith)) (omega arith, omega arith)

      code_past : (r : Record) → Has rs (named_key o j) r → r.lines < named_number o j → To 24 (code j)
      code_past r h l =
          code_from 24 (of_record r h (in_to r (named_number o j) (line_at o j).amount 24 (λ q. rw (lt-leb (named_number o j) r.lines l, and-false)) (λ q. absurd (omega arith)) (λ q. absurd (omega arith)) (omega arith, omega arith)))

      code_unexecuted : (r : Record) → Has rs (named_key o j) r → (IsExecuted r (named_number o j - 1) → ⊥) → To 25 (code j)
      code_unexecuted r h n =
          code_from 25 (of_record r h (in_to r (named_number o j) (line_at o j).amount 25 (λ q. absurd (omega arith)) (λ q. ne_eqb _ _ n) (λ q. absurd (omega arith)) (omega arith, omega arith)))

      code_unequal : (r : Record) → Has rs (named_key o j) r → (get_or r.amounts (named_number o j - 1) 0 ≡ (line_at o j).amount → ⊥) → To 26 (code j)
      code_unequal r h n =
          code_from 26 (of_record r h (in_to r (named_number o j) (line_at o j).amount 26 (λ q. absurd (omega arith)) (λ q. absurd (omega arith)) (λ q. ne_eqb _ _ n) (omega arith, omega arith)))

      code_before : (i : ℕ) → i < j → (line_at o i).named ≡ (line_at o j).named → To 25 (code j)
      unfolding code_again
      code_before i l e = subst (λ (b : Bool). To 25 (code_again b (named_code rs (at o j)))) (sym (is_before o j j i l e)) (go (eqb (named_code rs (at o j)) 24))
        where
          go : (b : Bool) → To 25 (cond b 24 25)
          go true = (omega arith, omega arith)
          go false = (omega arith, omega arith)

    -- WHAT APPLIES once lines and step table let the order pass
    data Late (t c : ℕ) : Type 0 where
      of_line : o.operation ≡ Sostituzione → (j : ℕ) → j < length o.lines → To c (code j) → t ≡ name_turn j + (c - 24) → Late t c
      no_room : WithNew o.operation → slots ≤ length rs → t ≡ last_turn o → Late t c
      not_meant : o.operation ≡ Annullo → (r : Record) → Has rs key r → Differs o r → t ≡ last_turn o → Late t c

    -- THE FIRST TURNS are those of the lines' numbers and of their sum
    data Turn (t : ℕ) : Type 0 where
      of_numbers : (numbered_from 1 o.lines ≡ true → ⊥) → 1 ≤ t → Turn t
      of_sum : (sum_of o.lines ≡ o.total → ⊥) → 2 ≤ t → Turn t
      of_others : 3 ≤ t → Turn t

    turn_of : {t c : ℕ} → Applies slots year o rs t c → Turn t
    turn_of (misnumbered h) = of_numbers (λ n. h (true_numbered o.lines n)) (omega arith)
    turn_of (missummed h) = of_sum h (omega arith)
    turn_of (present w r h) = of_others (omega arith)
    turn_of (absent w h) = of_others (omega arith)
    turn_of (annulled w r h e) = of_others (omega arith)
    turn_of (executed w r h n k e) = of_others (omega arith)
    turn_of (no_order p j l h) = of_others (omega arith)
    turn_of (line_zero p j l h) = of_others (omega arith)
    turn_of (line_past p j l r h k) = of_others (omega arith)
    turn_of (not_executed p j l r h n) = of_others (omega arith)
    turn_of (named_before p j l i k e) = of_others (omega arith)
    turn_of (other_amount p j l r h n) = of_others (omega arith)
    turn_of (full w l) = of_others (omega arith)
    turn_of (differs p r h e) = of_others (omega arith)

    some_turn : {t : ℕ} → Turn t → 1 ≤ t
    some_turn (of_numbers n h) = h
    some_turn (of_sum n h) = omega arith
    some_turn (of_others h) = omega arith

    module _ (numbered : numbered_from 1 o.lines ≡ true) where
      past_numbers : {t : ℕ} → Turn t → 2 ≤ t
      past_numbers (of_numbers n h) = absurd (n numbered)
      past_numbers (of_sum n h) = h
      past_numbers (of_others h) = omega arith

      past_lines : sum_of o.lines ≡ o.total → {t : ℕ} → Turn t → 3 ≤ t
      past_lines summed (of_numbers n h) = absurd (n numbered)
      past_lines summed (of_sum n h) = absurd (n summed)
      past_lines summed (of_others h) = h

    module _ (numbered : numbered_from 1 o.lines ≡ true) (summed : sum_of o.lines ≡ o.total) where
      late : step ≡ 0 → {t c : ℕ} → Applies slots year o rs t c → Late t c
      late z (misnumbered h) = absurd (h (true_numbered o.lines numbered))
      late z (missummed h) = absurd (h summed)
      late z (present w r h) = absurd (omega (arith, step_present w r h))
      late z (absent w h) = absurd (omega (arith, step_absent w h))
      late z (annulled w r h e) = absurd (omega (arith, step_annulled w r h e))
      late z (executed w r h n k e) = absurd (omega (arith, step_executed w r h n k e))
      late z (no_order p j l h) = of_line p j l (code_none j h) (omega arith)
      late z (line_zero p j l h) = of_line p j l (code_zero j h) (omega arith)
      late z (line_past p j l r h k) = of_line p j l (code_past j r h k) (omega arith)
      late z (not_executed p j l r h n) = of_line p j l (code_unexecuted j r h n) (omega arith)
      late z (named_before p j l i k e) = of_line p j l (code_before j i k e) (omega arith)
      late z (other_amount p j l r h n) = of_line p j l (code_unequal j r h n) (omega arith)
      late z (full w l) = no_room w l refl
      late z (differs p r h e) = not_meant p r h e refl

    -- THE ORDER DECIDED: taken, and nothing applies; or refused by what applies first
    pub record Stop : Type 0 where
      pub turn : ℕ
      pub with : ℕ
      pub is : answer ≡ Err with
      pub applies : Applies slots year o rs turn with
      pub first : {t c : ℕ} → Applies slots year o rs t c → turn ≤ t

    pub data Decided : Type 0 where
      taken : (c : Change) (i : ℕ) → answer ≡ Ok (c, i) → ((t x : ℕ) → Applies slots year o rs t x → ⊥) → Decided
      stopped : Stop → Decided

    other : {A : Type 0} {p q : Operation} → o.operation ≡ p → o.operation ≡ q → (p ≡ q → ⊥) → A
    other a b n = absurd (n (sym a ∙ b))

    -- the operations are four
    differ : {A : Type 0} → clash → A
    differ z = no z

    module _ (numbered : numbered_from 1 o.lines ≡ true) (summed : sum_of o.lines ≡ o.total) (z : step ≡ 0) where
      -- the answer is what comes after the step table
      placed_is : answer ≡ placed slots o rs change found
      unfolding judge_order stepped line_code
      placed_is = rw (numbered, eq-eqb (sum_of o.lines) o.total summed, z)

      -- a new order whose named lines all stand, or that names none
      at_end : WithNew o.operation → (c : Change) → answer ≡ first_empty c slots rs → (o.operation ≡ Sostituzione → (i : ℕ) → i < length o.lines → code i ≡ 0) → Decided
      at_end w c e names = go (ltb (length rs) slots) refl
        where
          no_name : {A : Type 0} → o.operation ≡ Sostituzione → (j : ℕ) → j < length o.lines → {x : ℕ} → To x (code j) → A
          no_name p j l t = absurd (omega (arith, t.0, names p j l))

          not_annul : {A : Type 0} → o.operation ≡ Annullo → A
          not_annul q = absurd (go o.operation w q)
            where
              go : (p : Operation) → WithNew p → p ≡ Annullo → ⊥
              go p inserimento q = let y : clash = cc in no y
              go p sostituzione q = let y : clash = cc in no y

          go : (b : Bool) → ltb (length rs) slots ≡ b → Decided
          go true q = taken c (length rs) (e ∙ rw q) none
            where
              none : (t x : ℕ) → Applies slots year o rs t x → ⊥
              none t x a = by (late numbered summed z a)
                where
                  by : {t x : ℕ} → Late t x → ⊥
                  by (of_line p j l t h) = no_name p j l t
                  by (no_room w l h) = omega (arith, ltb-true (length rs) slots q)
                  by (not_meant p r h m u) = not_annul p
          go false q = stopped (record { turn = last_turn o; with = 15; is = e ∙ rw q; applies = full w (ltb-false (length rs) slots q); first = λ a. by (late numbered summed z a) })
            where
              by : {t x : ℕ} → Late t x → last_turn o ≤ t
              by (of_line p j l t h) = no_name p j l t
              by (no_room w l h) = omega arith
              by (not_meant p r h m u) = omega arith

      inserts : o.operation ≡ Inserimento → Decided
      unfolding placed
      inserts p = at_end (subst WithNew (sym p) inserimento) Insert (placed_is ∙ ap (λ (x : Operation). placed slots o rs (change_of x) found) p) (λ q. other p q (λ (y : Inserimento ≡ Sostituzione). let u : clash = cc in no u))

      -- a replacement
      replaces : o.operation ≡ Sostituzione → Decided
      unfolding placed
      replaces p = go (comes rs o.kind o.lines) (placed_is ∙ ap (λ (x : Operation). placed slots o rs (change_of x) found) p)
        where
          go : {n : ℕ} → Comes rs o.kind o.lines n → answer ≡ unless Err n (first_empty Replace slots rs) → Decided
          go (stands h) e = at_end (subst WithNew (sym p) sostituzione) Replace e (λ q. h)
          go (stops j n l q h) e = stopped (record { turn = name_turn j + (suc n - 24); with = suc n; is = e; applies = named_applies p j l n q; first = λ a. by (late numbered summed z a) })
            where
              upper : suc n ≤ 26
              upper = at_most (named_earlier o.kind o.lines j (at o j)) (tells rs (at o j)) q

              by : {t x : ℕ} → Late t x → name_turn j + (suc n - 24) ≤ t
              by {t = v} (of_line p i k t u) = split (ltb i j) (ltb j i) refl refl
                where
                  split : (a b : Bool) → ltb i j ≡ a → ltb j i ≡ b → name_turn j + (suc n - 24) ≤ v
                  split true b f g = absurd (omega (arith, t.0, h i (ltb-true i j f)))
                  split false true f g = omega (arith, u, ltb-true j i g, upper)
                  split false false f g = let e : i ≡ j = omega (arith, ltb-false i j f, ltb-false j i g) in omega (arith, u, t.1, ap code e, q)
              by (no_room w k u) = omega (arith, upper)
              by (not_meant q r h m u) = omega (arith, upper)

      varies : o.operation ≡ Variazione → Decided
      unfolding placed
      varies p = go found refl (placed_is ∙ ap (λ (x : Operation). placed slots o rs (change_of x) found) p)
        where
          none : {t x : ℕ} → Late t x → ⊥
          none (of_line q j l t u) = other p q (λ (y : Variazione ≡ Sostituzione). let u : clash = cc in no u)
          none (no_room w l u) = wrong o.operation w p
            where
              wrong : (x : Operation) → WithNew x → x ≡ Variazione → ⊥
              wrong x inserimento q = let y : clash = cc in no y
              wrong x sostituzione q = let y : clash = cc in no y
          none (not_meant q r h m u) = other p q (λ (y : Variazione ≡ Annullo). let u : clash = cc in no u)

          go : (f : Option ℕ) → found ≡ f → answer ≡ placed slots o rs Vary f → Decided
          go None f e = absurd (omega (arith, step_absent (subst OnRecord (sym p) variazione) (nothing_none rs key f)))
          go (Some i) f e = taken Vary i e (λ t x a. none (late numbered summed z a))

      annuls : o.operation ≡ Annullo → Decided
      unfolding placed
      annuls p = go found refl (placed_is ∙ ap (λ (x : Operation). placed slots o rs (change_of x) found) p)
        where
          not_new : {A : Type 0} → WithNew o.operation → A
          not_new w = absurd (wrong o.operation w p)
            where
              wrong : (x : Operation) → WithNew x → x ≡ Annullo → ⊥
              wrong x inserimento q = let y : clash = cc in no y
              wrong x sostituzione q = let y : clash = cc in no y

          not_replaced : {A : Type 0} → o.operation ≡ Sostituzione → A
          not_replaced q = other p q (λ (y : Annullo ≡ Sostituzione). let u : clash = cc in no u)

          go : (f : Option ℕ) → found ≡ f → answer ≡ placed slots o rs Annul f → Decided
          go None f e = absurd (omega (arith, step_absent (subst OnRecord (sym p) annullo) (nothing_none rs key f)))
          go (Some i) f e = same (same_order o (nth rs i)) refl
            where
              same : (b : Bool) → same_order o (nth rs i) ≡ b → Decided
              same true q = taken Annul i (e ∙ rw q) (λ t x a. none (late numbered summed z a))
                where
                  none : {t x : ℕ} → Late t x → ⊥
                  none (of_line q j l t u) = not_replaced q
                  none (no_room w l u) = not_new w
                  none (not_meant s r h m u) = same_differs o (nth rs i) q (subst (Differs o) (sym (has_found rs key i r d f h)) m)
              same false q = stopped (record { turn = last_turn o; with = 19; is = e ∙ rw q; applies = differs p (nth rs i) (found_has rs key i f) (other_differs o (nth rs i) q); first = λ a. by (late numbered summed z a) })
                where
                  by : {t x : ℕ} → Late t x → last_turn o ≤ t
                  by (of_line q j l t u) = not_replaced q
                  by (no_room w l u) = omega arith
                  by (not_meant s r h m u) = omega arith

    -- the step table refuses
    steps : (numbered : numbered_from 1 o.lines ≡ true) → sum_of o.lines ≡ o.total → (n : ℕ) → step ≡ suc n → Decided
    unfolding judge_order stepped line_code situation_of situation_in
    steps numbered summed n e =
        stopped (record { turn = 3; with = suc n; is = rw (numbered, eq-eqb (sum_of o.lines) o.total summed, e); applies = go o.operation refl found refl e; first = λ a. past_lines numbered summed (turn_of a) })
      where
        kept_as : {x : ℕ} → Applies slots year o rs 3 x → x ≡ suc n → Applies slots year o rs 3 (suc n)
        kept_as a q = subst (Applies slots year o rs 3) q a

        new : WithNew o.operation → (f : Option ℕ) → found ≡ f → row 0 14 14 14 (situation_of rs f) ≡ suc n → Applies slots year o rs 3 (suc n)
        new w None f q = absurd (omega arith)
        new w (Some i) f q = kept_as (present w (nth rs i) (found_has rs key i f)) (sym (there_14 i) ∙ q)

        on : OnRecord o.operation → (f : Option ℕ) → found ≡ f → row 16 17 0 18 (situation_of rs f) ≡ suc n → Applies slots year o rs 3 (suc n)
        on w None f q = kept_as (absent w (nothing_none rs key f)) q
        on w (Some i) f q = by (eqb (nth rs i).state 2) (any_executed (nth rs i).states) refl refl q
          where
            by : (a b : Bool) → eqb (nth rs i).state 2 ≡ a → any_executed (nth rs i).states ≡ b → row 16 17 0 18 (cond a Annulled (cond b Executed Waiting)) ≡ suc n → Applies slots year o rs 3 (suc n)
            by true b u v q = kept_as (annulled w (nth rs i) (found_has rs key i f) (eqb-true _ _ u)) q
            by false true u v q =
                let x = some_executed (nth rs i).states v in
                kept_as (executed w (nth rs i) (found_has rs key i f) (eqb-false _ _ u) x.0 (was_is (get_or (nth rs i).states x.0 0) x.1)) q
            by false false u v q = absurd (omega arith)

        go : (p : Operation) → o.operation ≡ p → (f : Option ℕ) → found ≡ f → step_code (change_of p) (situation_of rs f) ≡ suc n → Applies slots year o rs 3 (suc n)
        go Inserimento p f q e = new (subst WithNew (sym p) inserimento) f q e
        go Sostituzione p f q e = new (subst WithNew (sym p) sostituzione) f q e
        go Variazione p f q e = on (subst OnRecord (sym p) variazione) f q e
        go Annullo p f q e = on (subst OnRecord (sym p) annullo) f q e

    pub decide : Decided
    unfolding judge_order line_code
    decide = go (numbered_from 1 o.lines) (eqb (sum_of o.lines) o.total) refl refl
      where
        go : (a b : Bool) → numbered_from 1 o.lines ≡ a → eqb (sum_of o.lines) o.total ≡ b → Decided
        go false b p q = stopped (record { turn = 1; with = 12; is = rw p; applies = misnumbered (λ n. false_true (sym p ∙ numbered_true o.lines n)); first = λ a. some_turn (turn_of a) })
        go true false p q = stopped (record { turn = 2; with = 13; is = rw (p, q); applies = missummed (eqb-false _ _ q); first = λ a. past_numbers p (turn_of a) })
        go true true p q = stepping step refl
          where
            stepping : (n : ℕ) → step ≡ n → Decided
            stepping (suc n) e = steps p (eqb-true _ _ q) n e
            stepping zero e = by o.operation refl
              where
                by : (x : Operation) → o.operation ≡ x → Decided
                by Inserimento u = inserts p (eqb-true _ _ q) e u
                by Variazione u = varies p (eqb-true _ _ q) e u
                by Annullo u = annuls p (eqb-true _ _ q) e u
                by Sostituzione u = replaces p (eqb-true _ _ q) e u

    -- ONE REFUSAL AT MOST of each turn
    abbrev last_code : Change → ℕ
    last_code Insert = 15
    last_code Vary = 0
    last_code Annul = 19
    last_code Replace = 15

    abbrev code_at : ℕ → ℕ
    code_at t = cond (eqb t 1) 12 (cond (eqb t 2) 13 (cond (eqb t 3) step (cond (eqb t (last_turn o)) (last_code change) (24 + third (t - 4)))))

    new_last : WithNew o.operation → 15 ≡ last_code change
    new_last w = go o.operation w
      where
        go : (p : Operation) → WithNew p → 15 ≡ last_code (change_of p)
        go p inserimento = refl
        go p sostituzione = refl

    named_turn : (j k : ℕ) → j < length o.lines → k < 3 → 24 + k ≡ code_at (name_turn j + k)
    named_turn j k l h =
        let a : name_turn j + k ≡ 1 → ⊥ = λ q. omega arith in
        let b : name_turn j + k ≡ 2 → ⊥ = λ q. omega arith in
        let c : name_turn j + k ≡ 3 → ⊥ = λ q. omega arith in
        let e : name_turn j + k ≡ last_turn o → ⊥ = λ q. omega arith in
        let f : name_turn j + k - 4 ≡ 3 * j + k = omega arith in
        sym (rw (ne_eqb _ _ a, ne_eqb _ _ b, ne_eqb _ _ c, ne_eqb _ _ e) (ap (λ (n : ℕ). 24 + n) (ap third f ∙ thirds j k h)))

    last_turn_lem : last_code change ≡ code_at (last_turn o)
    last_turn_lem =
        let a : last_turn o ≡ 1 → ⊥ = λ q. omega arith in
        let b : last_turn o ≡ 2 → ⊥ = λ q. omega arith in
        let c : last_turn o ≡ 3 → ⊥ = λ q. omega arith in
        sym (rw (ne_eqb _ _ a, ne_eqb _ _ b, ne_eqb _ _ c, eq-eqb (last_turn o) (last_turn o) refl))

    -- a name's turn, as it is listed
    turned : {t c : ℕ} (j k : ℕ) → j < length o.lines → k < 3 → t ≡ name_turn j + k → c ≡ 24 + k → c ≡ code_at t
    turned j k l h p q = q ∙ named_turn j k l h ∙ ap code_at (sym p)

    turn_code : {t c : ℕ} → Applies slots year o rs t c → c ≡ code_at t
    turn_code (misnumbered h) = refl
    turn_code (missummed h) = refl
    turn_code (present w r h) = sym (step_present w r h)
    turn_code (absent w h) = sym (step_absent w h)
    turn_code (annulled w r h e) = sym (step_annulled w r h e)
    turn_code (executed w r h n k e) = sym (step_executed w r h n k e)
    turn_code (no_order p j l h) = turned {t = name_turn j} j 0 l (omega arith) (omega arith) refl
    turn_code (line_zero p j l h) = turned {t = name_turn j} j 0 l (omega arith) (omega arith) refl
    turn_code (line_past p j l r h k) = turned {t = name_turn j} j 0 l (omega arith) (omega arith) refl
    turn_code (not_executed p j l r h n) = turned {t = name_turn j + 1} j 1 l (omega arith) refl refl
    turn_code (named_before p j l i k e) = turned {t = name_turn j + 1} j 1 l (omega arith) refl refl
    turn_code (other_amount p j l r h n) = turned {t = name_turn j + 2} j 2 l (omega arith) refl refl
    turn_code (full w l) = new_last w ∙ last_turn_lem
    turn_code (differs p r h e) = sym (ap (λ (x : Operation). last_code (change_of x)) p) ∙ last_turn_lem

    pub one_in_turn : {t a b : ℕ} → Applies slots year o rs t a → Applies slots year o rs t b → a ≡ b
    one_in_turn x y = turn_code x ∙ sym (turn_code y)

-- A NOTICE
module _ (executing : Bool) (k : Key) (line : ℕ) (rs : List Record) where
  module _ (code : ℕ) where
    give_notice : {c : ℕ} → NoticeApplies executing k line rs c → ◌≡◌ {A = Result (ℕ × ℕ) ℕ} (Err c) (Err code) → NoticeApplies executing k line rs code
    give_notice {c} h e = let q : c ≡ code = cc in subst (NoticeApplies executing k line rs) q h

    moves_apply : (r : Record) → Has rs k r → (i cents : ℕ) → unless {A = Result (ℕ × ℕ) ℕ} Err (line_moves executing (get_or r.states (line - 1) 0)) (Ok (i, cents)) ≡ Err code → NoticeApplies executing k line rs code
    unfolding line_moves
    moves_apply r h i cents e = go executing refl e
      where
        executes : executing ≡ true → (b : Bool) → was_executed (get_or r.states (line - 1) 0) ≡ b → unless {A = Result (ℕ × ℕ) ℕ} Err (cond b 21 0) (Ok (i, cents)) ≡ Err code → NoticeApplies executing k line rs code
        executes p true q e = give_notice (already p r h (was_is (get_or r.states (line - 1) 0) q)) e
        executes p false q e = let z : ◌≡◌ {A = Result (ℕ × ℕ) ℕ} (Ok (i, cents)) (Err code) = e in let y : clash = cc in no y

        reverses : executing ≡ false → (b : Bool) → eqb (get_or r.states (line - 1) 0) 2 ≡ b → unless {A = Result (ℕ × ℕ) ℕ} Err (cond b 0 22) (Ok (i, cents)) ≡ Err code → NoticeApplies executing k line rs code
        reverses p true q e = let z : ◌≡◌ {A = Result (ℕ × ℕ) ℕ} (Ok (i, cents)) (Err code) = e in let y : clash = cc in no y
        reverses p false q e = give_notice (not_yet p r h (eqb-false (get_or r.states (line - 1) 0) 2 q)) e

        go : (x : Bool) → executing ≡ x → unless {A = Result (ℕ × ℕ) ℕ} Err (line_moves x (get_or r.states (line - 1) 0)) (Ok (i, cents)) ≡ Err code → NoticeApplies executing k line rs code
        go true p e = executes p (was_executed (get_or r.states (line - 1) 0)) refl e
        go false p e = reverses p (eqb (get_or r.states (line - 1) 0) 2) refl e

    notice_apply : (r : Record) → Has rs k r → (i : ℕ) → notice_in executing line i r ≡ Err code → NoticeApplies executing k line rs code
    unfolding notice_in
    notice_apply r h i e = go (eqb r.state 2) (leb 1 line) (leb line r.lines) refl refl refl e
      where
        go : (a b c : Bool) → eqb r.state 2 ≡ a → leb 1 line ≡ b → leb line r.lines ≡ c
            → cond {A = Result (ℕ × ℕ) ℕ} a (Err 17) (cond (b && c) (unless Err (line_moves executing (get_or r.states (line - 1) 0)) (Ok (i, (get_or r.amounts (line - 1) 0)))) (Err 20)) ≡ Err code
            → NoticeApplies executing k line rs code
        go true b c p q s e = give_notice (closed r h (eqb-true _ _ p)) e
        go false false c p q s e = give_notice (zeroth (omega (arith, leb-false 1 line q))) e
        go false true false p q s e = give_notice (past r h (leb-false line r.lines s)) e
        go false true true p q s e = moves_apply r h i (get_or r.amounts (line - 1) 0) e

    pub unmoved_applies : judge_notice executing k line rs ≡ Err code → NoticeApplies executing k line rs code
    unfolding judge_notice notice_at
    unmoved_applies e = go (find_in rs 0 k) refl e
      where
        go : (f : Option ℕ) → find_in rs 0 k ≡ f → notice_at executing line rs f ≡ Err code → NoticeApplies executing k line rs code
        go None p e = give_notice (unknown (nothing_none rs k p)) e
        go (Some i) p e = notice_apply (nth rs i) (found_has rs k i p) i e

  -- refused by turn t
  pub record NoticeBy (m : Result (ℕ × ℕ) ℕ) (t : ℕ) : Type 0 where
    pub code : ℕ
    pub is : m ≡ Err code
    pub soon : notice_turn code ≤ t

  found_by : {f : Option ℕ} {t : ℕ} → find_in rs 0 k ≡ f → NoticeBy (notice_at executing line rs f) t → NoticeBy (judge_notice executing k line rs) t
  unfolding judge_notice
  found_by e b = record { code = b.code; is = ap (notice_at executing line rs) e ∙ b.is; soon = b.soon }

  module _ (i : ℕ) where
    abbrev it : Record
    it = nth rs i

    abbrev state : ℕ
    state = get_or it.states (line - 1) 0

    in_range : (t : ℕ) → 3 ≤ t → NoticeBy (unless Err (line_moves executing state) (Ok (i, (get_or it.amounts (line - 1) 0)))) t → NoticeBy (notice_at executing line rs (Some i)) t
    unfolding notice_at notice_in
    in_range t l b = go (eqb it.state 2) (leb 1 line && leb line it.lines)
      where
        go : (x y : Bool) → NoticeBy (cond x (Err 17) (cond y (unless Err (line_moves executing state) (Ok (i, (get_or it.amounts (line - 1) 0)))) (Err 20))) t
        go true y = record { code = 17; is = refl; soon = omega arith }
        go false true = b
        go false false = record { code = 20; is = refl; soon = l }

    out_of_range : (leb 1 line && leb line it.lines) ≡ false → NoticeBy (notice_at executing line rs (Some i)) 3
    unfolding notice_at notice_in
    out_of_range e = rw e (go (eqb it.state 2))
      where
        go : (x : Bool) → NoticeBy (cond x (Err 17) (Err 20)) 3
        go true = record { code = 17; is = refl; soon = omega arith }
        go false = record { code = 20; is = refl; soon = omega arith }

    closed_by : IsAnnulled it → NoticeBy (notice_at executing line rs (Some i)) 2
    unfolding notice_at notice_in
    closed_by e = record { code = 17; is = rw (eq-eqb it.state 2 e); soon = omega arith }

    moves_by : (c : ℕ) → line_moves executing state ≡ suc c → notice_turn (suc c) ≤ 4 → NoticeBy (notice_at executing line rs (Some i)) 4
    moves_by c e l = in_range 4 (omega arith) (rw e (record { code = suc c; is = refl; soon = l }))

  zeroth_by : line ≡ 0 → (f : Option ℕ) → NoticeBy (notice_at executing line rs f) 3
  unfolding notice_at
  zeroth_by e None = record { code = 16; is = refl; soon = omega arith }
  zeroth_by e (Some i) = out_of_range i (rw (lt-leb 1 line (omega arith)))

  module _ (d : distinct rs ≡ true) where
    pub notice_by_lem : {c : ℕ} → NoticeApplies executing k line rs c → NoticeBy (judge_notice executing k line rs) (notice_turn c)
    unfolding notice_at
    notice_by_lem (unknown h) = found_by (none_nothing rs k h) (record { code = 16; is = refl; soon = omega arith })
    notice_by_lem (closed r h e) = let x = has_at rs k r d h in found_by x.found (closed_by x.at (ap (λ (y : Record). y.state) x.same ∙ e))
    notice_by_lem (zeroth e) = found_by refl (zeroth_by e (find_in rs 0 k))
    notice_by_lem (past r h l) =
        let x = has_at rs k r d h in
        found_by x.found (out_of_range x.at (rw (lt-leb line (nth rs x.at).lines (omega (arith, ap (λ (y : Record). y.lines) x.same)), and-false)))
    notice_by_lem (already p r h e) =
        let x = has_at rs k r d h in
        found_by x.found
        (moves_by x.at 20 (ap (λ (b : Bool). line_moves b (state x.at)) p ∙ execution_stops (state x.at) refl (ap (λ (y : Record). was_executed (get_or y.states (line - 1) 0)) x.same ∙ is_was _ e)) (omega arith))
    notice_by_lem (not_yet p r h n) =
        let x = has_at rs k r d h in
        found_by x.found
        (moves_by x.at 21 (ap (λ (b : Bool). line_moves b (state x.at)) p ∙ reversal_stops _ (λ z. n (sym (ap (λ (y : Record). get_or y.states (line - 1) 0) x.same) ∙ z))) (omega arith))

    pub moved_none : {i cents c : ℕ} → judge_notice executing k line rs ≡ Ok (i, cents) → NoticeApplies executing k line rs c → ⊥
    moved_none e a = let b = notice_by_lem a in let z : clash = cc b.is in no z

  -- one refusal at most of each turn
  abbrev notice_code_at : ℕ → ℕ
  notice_code_at t = cond (eqb t 1) 16 (cond (eqb t 2) 17 (cond (eqb t 3) 20 (cond executing 21 22)))

  notice_turn_code : {c : ℕ} → NoticeApplies executing k line rs c → c ≡ notice_code_at (notice_turn c)
  notice_turn_code (unknown h) = refl
  notice_turn_code (closed r h e) = refl
  notice_turn_code (zeroth e) = refl
  notice_turn_code (past r h l) = refl
  notice_turn_code (already p r h e) = sym (ap (λ (b : Bool). cond b 21 22) p)
  notice_turn_code (not_yet p r h n) = sym (ap (λ (b : Bool). cond b 21 22) p)

  pub one_notice_in_turn : {a b : ℕ} → NoticeApplies executing k line rs a → NoticeApplies executing k line rs b → notice_turn a ≡ notice_turn b → a ≡ b
  one_notice_in_turn x y e = notice_turn_code x ∙ ap notice_code_at e ∙ sym (notice_turn_code y)
