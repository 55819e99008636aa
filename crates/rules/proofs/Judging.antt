-- What an accepted order and a moved line passed: the tests of `judge_order` and `judge_notice`, read backwards.
use Rattle.std.specs.Prelude.{Option, Result, Some, None, Ok, Err}
use Prim.Native.Nat.{ℕ, zero, suc, ◌-◌, ◌≤◌, ◌<◌}
use mathlib.Core.Bool.{Bool, true, false, ◌&&◌, cond}
use mathlib.Core.List.{List}
use mathlib.Core.Path.{◌≡◌, refl, sym, ap, ◌∙◌}
use native.Mathlib.Omega.{arith}
use lib.ListN.{length, get_or}
use lib.Dec.{eqb, leb, ltb}
use borrow.Author.Tests.{ltb-true, eqb-false, leb-true}
use Rattle.order.specs.Ordinativo.{Ordinativo}
use Rattle.record.specs.declared.Record.{Record}
use Rattle.record.specs.declared.Key.{Key}
use Rattle.slots.specs.Slots.{find_in, nth, no_record}
use Rattle.slots.proofs.Search.{found_below}
use Rattle.rules.specs.declared.Situation.{Situation}
use Rattle.rules.specs.declared.Situation.TheVariants.{Absent, Annulled, Waiting, Executed}
use Rattle.rules.specs.declared.Change.{Change}
use Rattle.rules.specs.declared.Change.TheVariants.{Insert, Vary, Annul, Replace}
use Rattle.lines.specs.Lines.{line_code}
use Rattle.replacing.specs.Replacing.{namings, first_code, replace_code}
use Rattle.rules.specs.Inner.{record_code, names_code}
use Rattle.rules.specs.Rules.{change_of, any_executed, situation_in, situation_of, step_code, key_for, same_order, first_empty, placed, unless, stepped, judge_order, line_moves, notice_in, notice_at, judge_notice}

-- two constructors are never equal
abbrev clash : Type 0
clash = ◌≡◌ {A = ℕ} 0 1

no : clash → ⊥
no z = omega arith

refused : {A : Type 0} {code i : ℕ} {c : Change} → ◌≡◌ {A = Result (Change × ℕ) ℕ} (Err code) (Ok (c, i)) → A
refused e = let z : clash = cc in absurd (no z)

unmoved : {A : Type 0} {c i m : ℕ} → ◌≡◌ {A = Result (ℕ × ℕ) ℕ} (Err c) (Ok (i, m)) → A
unmoved e = let z : clash = cc in absurd (no z)

-- what an `Ok` holds is its own
ok_pair : {A B E : Type 0} (a x : A) (b y : B) → ◌≡◌ {A = Result (A × B) E} (Ok (a, b)) (Ok (x, y)) → (a ≡ x) × (b ≡ y)
ok_pair {A} {B} a x b y e =
    let p : ◌≡◌ {A = A × B} (a, b) (x, y) = cc in
    (ap (λ (t : A × B). t.0) p, ap (λ (t : A × B). t.1) p)

-- AN ORDER'S RECORD

there_is : (r : Record) → situation_in r ≡ Absent → ⊥
unfolding situation_in
there_is r e = go (eqb r.state 2) (any_executed r.states) e
  where
    go : (a b : Bool) → cond a Annulled (cond b Executed Waiting) ≡ Absent → ⊥
    go true b e = let z : clash = cc in no z
    go false true e = let z : clash = cc in no z
    go false false e = let z : clash = cc in no z

-- so a replacement whose key is there is refused
pub not_replaced : (o : Ordinativo) (r : Record) → record_code Replace o r ≡ 0 → ⊥
not_replaced o r e = go (situation_in r) (there_is r) e
  where
    go : (s : Situation) → (s ≡ Absent → ⊥) → first_code (step_code Replace s) 0 ≡ 0 → ⊥
    go Absent h e = h refl
    go Annulled h e = omega arith
    go Waiting h e = omega arith
    go Executed h e = omega arith

-- acquired, all lines waiting
pub record Waits (r : Record) : Type 0 where
  pub acquired : r.state ≡ 2 → ⊥
  pub waits : any_executed r.states ≡ false

waiting_in : (r : Record) → situation_in r ≡ Waiting → Waits r
unfolding situation_in
waiting_in r e = go (eqb r.state 2) (any_executed r.states) refl refl e
  where
    go : (a b : Bool) → eqb r.state 2 ≡ a → any_executed r.states ≡ b → cond a Annulled (cond b Executed Waiting) ≡ Waiting → Waits r
    go true b p q e = let z : clash = cc in absurd (no z)
    go false true p q e = let z : clash = cc in absurd (no z)
    go false false p q e = record { acquired = eqb-false r.state 2 p; waits = q }

-- THE STEP TABLE: a step of 0

inserts : (s : Situation) → step_code Insert s ≡ 0 → s ≡ Absent
inserts Absent e = refl
inserts Annulled e = absurd (omega arith)
inserts Waiting e = absurd (omega arith)
inserts Executed e = absurd (omega arith)

varies : (s : Situation) → step_code Vary s ≡ 0 → s ≡ Waiting
varies Absent e = absurd (omega arith)
varies Annulled e = absurd (omega arith)
varies Waiting e = refl
varies Executed e = absurd (omega arith)

annuls : (s : Situation) → step_code Annul s ≡ 0 → s ≡ Waiting
annuls s e = varies s e

replaces : (s : Situation) → step_code Replace s ≡ 0 → s ≡ Absent
replaces s e = inserts s e

-- AN ACCEPTED ORDER, of a body with so many slots and these records: it stands at i
pub data Stands (slots year : ℕ) (o : Ordinativo) (rs : List Record) (c : Change) (i : ℕ) : Type 0 where
  inserting : c ≡ Insert → find_in rs 0 (key_for year o) ≡ None → i ≡ length rs → length rs < slots → Stands slots year o rs c i
  replacing : c ≡ Replace → find_in rs 0 (key_for year o) ≡ None → i ≡ length rs → length rs < slots → replace_code rs (namings o) ≡ 0 → Stands slots year o rs c i
  varying : c ≡ Vary → find_in rs 0 (key_for year o) ≡ Some i → Waits (nth rs i) → Stands slots year o rs c i
  annulling : c ≡ Annul → find_in rs 0 (key_for year o) ≡ Some i → Waits (nth rs i) → same_order o (nth rs i) ≡ true → Stands slots year o rs c i

unless_zero : (code : ℕ) (next : Result (Change × ℕ) ℕ) {c : Change} {i : ℕ} → unless Err code next ≡ Ok (c, i) → (code ≡ 0) × (next ≡ Ok (c, i))
unless_zero zero next e = (refl, e)
unless_zero (suc code) next e = refused e

module _ (slots year : ℕ) (o : Ordinativo) (rs : List Record) (c : Change) (i : ℕ) where
  -- the first empty slot
  empty : (d : Change) → first_empty d slots rs ≡ Ok (c, i) → (c ≡ d) × (i ≡ length rs) × (length rs < slots)
  empty d e = go (ltb (length rs) slots) refl e
    where
      go : (b : Bool) → ltb (length rs) slots ≡ b → cond {A = Result (Change × ℕ) ℕ} b (Ok (d, (length rs))) (Err 15) ≡ Ok (c, i) → (c ≡ d) × (i ≡ length rs) × (length rs < slots)
      go true h e =
          let p = ok_pair d c (length rs) i e in
          (sym p.0, sym p.1, ltb-true (length rs) slots h)
      go false h e = refused e

  stand : (d : Change) (f : Option ℕ) → find_in rs 0 (key_for year o) ≡ f
      → step_code d (situation_of rs f) ≡ 0 → placed slots o rs d f ≡ Ok (c, i) → Stands slots year o rs c i
  unfolding situation_of placed
  stand Insert None f s e = let w = empty Insert e in inserting w.0 f w.1 w.2
  stand Replace None f s e =
      let r = unless_zero (replace_code rs (namings o)) _ e in
      let w = empty Replace r.1 in
      replacing w.0 f w.1 w.2 r.0
  stand Replace (Some j) f s e = absurd (there_is (nth rs j) (replaces (situation_in (nth rs j)) s))
  stand Insert (Some j) f s e = absurd (there_is (nth rs j) (inserts (situation_in (nth rs j)) s))
  stand Vary None f s e = absurd (omega arith)
  stand Vary (Some j) f s e =
      let r = ok_pair Vary c j i e in
      let q = r.1 in
      varying (sym r.0) (f ∙ ap Some q) (waiting_in (nth rs i) (ap (λ (m : ℕ). situation_in (nth rs m)) (sym q) ∙ varies (situation_in (nth rs j)) s))
  stand Annul None f s e = absurd (omega arith)
  stand Annul (Some j) f s e = go (same_order o (nth rs j)) refl e
    where
      go : (b : Bool) → same_order o (nth rs j) ≡ b → cond {A = Result (Change × ℕ) ℕ} b (Ok (Annul, j)) (Err 19) ≡ Ok (c, i) → Stands slots year o rs c i
      go true h e =
          let r = ok_pair Annul c j i e in
          let q = r.1 in
          annulling (sym r.0) (f ∙ ap Some q) (waiting_in (nth rs i) (ap (λ (m : ℕ). situation_in (nth rs m)) (sym q) ∙ annuls (situation_in (nth rs j)) s))
          (ap (λ (m : ℕ). same_order o (nth rs m)) (sym q) ∙ h)
      go false h e = refused e

  placed_change : (d : Change) (f : Option ℕ) → placed slots o rs d f ≡ Ok (c, i) → c ≡ d
  unfolding placed
  placed_change Insert f e = (empty Insert e).0
  placed_change Replace f e = (empty Replace (unless_zero (replace_code rs (namings o)) _ e).1).0
  placed_change Vary None e = refused e
  placed_change Vary (Some j) e = sym (ok_pair Vary c j i e).0
  placed_change Annul None e = refused e
  placed_change Annul (Some j) e = go (same_order o (nth rs j)) e
    where
      go : (b : Bool) → cond {A = Result (Change × ℕ) ℕ} b (Ok (Annul, j)) (Err 19) ≡ Ok (c, i) → c ≡ Annul
      go true e = sym (ok_pair Annul c j i e).0
      go false e = refused e

  module _ (e : judge_order slots year o rs ≡ Ok (c, i)) where
    -- the change is that of the order's operation
    pub accepted_change : c ≡ change_of o.operation
    unfolding judge_order stepped
    accepted_change =
        let d = change_of o.operation in
        let l = unless_zero (line_code o.lines o.total) _ e in
        let s = unless_zero (step_code d (situation_of rs (find_in rs 0 (key_for year o)))) _ l.1 in
        placed_change d (find_in rs 0 (key_for year o)) s.1

    -- the tests that it passed
    record Passed : Type 0 where
      change : Change
      lines : line_code o.lines o.total ≡ 0
      step : step_code change (situation_of rs (find_in rs 0 (key_for year o))) ≡ 0
      place : placed slots o rs change (find_in rs 0 (key_for year o)) ≡ Ok (c, i)

    passed : Passed
    unfolding judge_order stepped
    passed =
        let d = change_of o.operation in
        let l = unless_zero (line_code o.lines o.total) _ e in
        let s = unless_zero (step_code d (situation_of rs (find_in rs 0 (key_for year o)))) _ l.1 in
        record { change = d; lines = l.0; step = s.0; place = s.1 }

    pub accepted_lines : line_code o.lines o.total ≡ 0
    accepted_lines = passed.lines

    pub accepted : Stands slots year o rs c i
    accepted = stand passed.change (find_in rs 0 (key_for year o)) refl passed.step passed.place

    -- the lines that it names stand
    pub names_zero : names_code c o rs ≡ 0
    names_zero = go accepted
      where
        go : Stands slots year o rs c i → names_code c o rs ≡ 0
        go (inserting p f q l) = ap (λ (x : Change). names_code x o rs) p
        go (replacing p f q l n) = ap (λ (x : Change). names_code x o rs) p ∙ n
        go (varying p f w) = ap (λ (x : Change). names_code x o rs) p
        go (annulling p f w s) = ap (λ (x : Change). names_code x o rs) p

    -- its slot is used already, or is the first empty one
    pub accepted_within : i ≤ length rs
    accepted_within = go accepted
      where
        go : Stands slots year o rs c i → i ≤ length rs
        go (inserting p f q l) = omega arith
        go (replacing p f q l n) = omega arith
        go (varying p f w) = omega (arith, found_below rs (key_for year o) i no_record f)
        go (annulling p f w s) = omega (arith, found_below rs (key_for year o) i no_record f)

    pub accepted_slot : length rs ≤ slots → i < slots
    accepted_slot h = go accepted
      where
        go : Stands slots year o rs c i → i < slots
        go (inserting p f q l) = omega arith
        go (replacing p f q l n) = omega arith
        go (varying p f w) = omega (arith, found_below rs (key_for year o) i no_record f)
        go (annulling p f w s) = omega (arith, found_below rs (key_for year o) i no_record f)

-- A MOVED LINE
pub record Moves (executing : Bool) (line : ℕ) (r : Record) (cents : ℕ) : Type 0 where
  pub acquired : r.state ≡ 2 → ⊥
  pub first : 1 ≤ line
  pub last : line ≤ r.lines
  pub moves : line_moves executing (get_or r.states (line - 1) 0) ≡ 0
  pub amount : cents ≡ get_or r.amounts (line - 1) 0

move_zero : (c i m j n : ℕ) → unless {A = Result (ℕ × ℕ) ℕ} Err c (Ok (i, m)) ≡ Ok (j, n) → (c ≡ 0) × (i ≡ j) × (m ≡ n)
move_zero zero i m j n e = let p = ok_pair i j m n e in (refl, p.0, p.1)
move_zero (suc c) i m j n e = unmoved e

module _ (executing : Bool) (line i : ℕ) (r : Record) {j cents : ℕ} where
  notice_moved : notice_in executing line i r ≡ Ok (j, cents) → (i ≡ j) × Moves executing line r cents
  unfolding notice_in
  notice_moved e = go (eqb r.state 2) (leb 1 line) (leb line r.lines) refl refl refl e
    where
      go : (a b c : Bool) → eqb r.state 2 ≡ a → leb 1 line ≡ b → leb line r.lines ≡ c
          → cond {A = Result (ℕ × ℕ) ℕ} a (Err 17) (cond (b && c) (unless Err (line_moves executing (get_or r.states (line - 1) 0)) (Ok (i, (get_or r.amounts (line - 1) 0)))) (Err 20)) ≡ Ok (j, cents)
          → (i ≡ j) × Moves executing line r cents
      go true b c p q s e = unmoved e
      go false false c p q s e = unmoved e
      go false true false p q s e = unmoved e
      go false true true p q s e =
          let m = move_zero (line_moves executing (get_or r.states (line - 1) 0)) i (get_or r.amounts (line - 1) 0) j cents e in
          (m.1, record { acquired = eqb-false r.state 2 p; first = leb-true 1 line q; last = leb-true line r.lines s; moves = m.0; amount = sym m.2 })

module _ (executing : Bool) (k : Key) (line : ℕ) (rs : List Record) (i cents : ℕ) where
  at_found : (f : Option ℕ) → find_in rs 0 k ≡ f → notice_at executing line rs f ≡ Ok (i, cents) → (find_in rs 0 k ≡ Some i) × Moves executing line (nth rs i) cents
  unfolding notice_at
  at_found None f e = unmoved e
  at_found (Some j) f e =
      let m = notice_moved executing line j (nth rs j) e in
      (f ∙ ap Some m.0, rw m.0 at m.1)

  pub moved : judge_notice executing k line rs ≡ Ok (i, cents) → (find_in rs 0 k ≡ Some i) × Moves executing line (nth rs i) cents
  unfolding judge_notice
  moved e = at_found (find_in rs 0 k) refl e
