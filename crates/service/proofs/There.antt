-- HOW MANY RECORDS HAVE A KEY: at most one, and none goes; so of one line at most one is held. An order with a new key adds one; another order and a notice leave the keys as they are.
use Rattle.std.specs.Prelude.{Option, Result, Some, None, Ok, Err}
use Prim.Native.Nat.{ℕ, zero, suc, ◌+◌, ◌-◌, ◌≤◌}
use mathlib.Core.Path.{◌≡◌, refl, sym, ap, ◌∙◌}
use mathlib.Core.Bool.{Bool, true, false, cond}
use mathlib.Core.List.{List, [], ◌∷◌, ◌++◌}
use native.Mathlib.Omega.{arith}
use lib.ListN.{set}
use lib.Dec.{eqb}
use borrow.Author.Tests.{eqb-true}
use Rattle.scan.proofs.Laws.{both}
use Rattle.ranges.specs.Ranges.{is_nothing}
use Rattle.record.specs.declared.Key.{Key}
use Rattle.record.specs.declared.Record.{Record}
use Rattle.record.specs.Slot.{key_of, key_is, with_state}
use Rattle.slots.specs.Slots.{find_in, distinct, nth, no_record}
use Rattle.slots.proofs.Search.{found_below}
use Rattle.order.specs.Ordinativo.{Ordinativo}
use Rattle.codes.specs.declared.Operation.{Operation}
use Rattle.codes.specs.declared.Operation.TheVariants.{Inserimento, Variazione, Annullo, Sostituzione}
use Rattle.replacing.specs.declared.Naming.{Naming}
use Rattle.replacing.specs.Replacing.{namings, with_replaced, with_replaced_at, replaced_by}
use Rattle.replacing.proofs.Marks.{replaced_length}
use Rattle.rules.specs.declared.Change.{Change}
use Rattle.rules.specs.declared.Change.TheVariants.{Insert, Vary, Annul, Replace}
use Rattle.rules.specs.Rules.{change_of, key_for, judge_order, written, moved_to}
use Rattle.rules.specs.Effects.{records_by, records_moved}
use Rattle.rules.proofs.Judging.{Stands, inserting, replacing, varying, annulling, accepted, accepted_change}
use Rattle.rules.specs.Worth.{States, worth_in, worth_of, with_key, on_line}
use Rattle.service.proofs.Brought.{opens, new_with}
use Rattle.service.proofs.Worth.{stored_set, stored_end, weighs, one_in}

same_key : (a b : Key) → with_key b a ≡ true → a ≡ b
same_key a b e =
    let x = both (eqb a.kind b.kind) _ e in
    let y = both (eqb a.esercizio b.esercizio) (eqb a.number b.number) x.1 in
    let k = eqb-true _ _ x.0 in
    let s = eqb-true _ _ y.0 in
    let n = eqb-true _ _ y.1 in
    λ i. record { kind = k i; esercizio = s i; number = n i }

abbrev opening_change : Change → Bool
opening_change Insert = true
opening_change Replace = true
opening_change Vary = false
opening_change Annul = false

opens_is : (op : Operation) → opens op ≡ opening_change (change_of op)
opens_is Inserimento = refl
opens_is Variazione = refl
opens_is Annullo = refl
opens_is Sostituzione = refl

module _ (key : Key) where
  -- one, where a record has the key
  abbrev one : Record → ℕ
  one r = cond (with_key key (key_of r)) 1 0

  unfoldable pub there : List Record → ℕ
  there [] = 0
  there (r ∷ rs) = one r + there rs

  set_there : (rs : List Record) (i : ℕ) (r : Record) → key_of r ≡ key_of (nth rs i) → there (set rs i r) ≡ there rs
  unfolding there
  set_there [] i r e = refl
  set_there (x ∷ rs) zero r e = ap (λ (k : Key). cond (with_key key k) 1 0 + there rs) e
  set_there (x ∷ rs) (suc i) r e = ap (λ (n : ℕ). one x + n) (set_there rs i r e)

  add_there : (rs : List Record) (r : Record) → there (rs ++ r ∷ []) ≡ there rs + one r
  unfolding there
  add_there [] r = omega arith
  add_there (x ∷ rs) r = omega (arith, add_there rs r)

  mark_there : (rs : List Record) (m : Naming) → there (with_replaced rs m) ≡ there rs
  unfolding with_replaced with_replaced_at
  mark_there rs m = go (find_in rs 0 m.key)
    where
      go : (f : Option ℕ) → there (with_replaced_at rs m f) ≡ there rs
      go None = refl
      go (Some i) = set_there rs i (with_state (nth rs i) (m.line - 1) 3) refl

  marks_there : (rs : List Record) (ms : List Naming) → there (replaced_by rs ms) ≡ there rs
  unfolding replaced_by
  marks_there rs [] = refl
  marks_there rs (m ∷ ms) = marks_there (with_replaced rs m) ms ∙ mark_there rs m

  -- AN ORDER
  module _ (slots year : ℕ) (o : Ordinativo) (rs : List Record) where
    abbrev its : ℕ
    its = cond (with_key key (key_for year o)) 1 0

    by_stand : (d : Change) (i : ℕ) → Stands slots year o rs d i → there (records_by year o rs (Ok (d, i))) ≡ there rs + cond (opening_change d) its 0
    unfolding written
    by_stand d i (inserting y f q l) =
        let new : Record = written year o (nth rs i) Insert in
        rw y (ap there (stored_end rs i new q) ∙ add_there rs new)
    by_stand d i (replacing y f q l e) =
        let left : List Record = replaced_by rs (namings o) in
        let new : Record = written year o (nth rs i) Replace in
        rw y (ap there (stored_end left i new (q ∙ sym (replaced_length rs (namings o)))) ∙ add_there left new ∙ ap (λ (n : ℕ). n + its) (marks_there rs (namings o)))
    by_stand d i (varying y f w) =
        let new : Record = written year o (nth rs i) Vary in
        rw y (ap there (stored_set rs i new (found_below rs (key_for year o) i no_record f)) ∙ omega (arith, set_there rs i new refl))
    by_stand d i (annulling y f w s) =
        let new : Record = written year o (nth rs i) Annul in
        rw y (ap there (stored_set rs i new (found_below rs (key_for year o) i no_record f)) ∙ omega (arith, set_there rs i new refl))

    pub order_there : (j : Result (Change × ℕ) ℕ) → judge_order slots year o rs ≡ j → there (records_by year o rs j) ≡ there rs + weighs j (new_with key year o)
    order_there (Ok (d, i)) e =
        let x : opens o.operation ≡ opening_change d = opens_is o.operation ∙ ap opening_change (sym (accepted_change slots year o rs d i e)) in
        rw x (by_stand d i (accepted slots year o rs d i e))
    order_there (Err code) e = omega arith

  -- A NOTICE
  pub notice_there : (executing : Bool) (line : ℕ) (rs : List Record) (m : Result (ℕ × ℕ) ℕ) → there (records_moved executing line rs m) ≡ there rs
  notice_there executing line rs (Ok (i, cents)) = set_there rs i (with_state (nth rs i) (line - 1) (moved_to executing)) refl
  notice_there executing line rs (Err c) = refl

  -- AT MOST ONE
  none_there : (rs : List Record) (j : ℕ) → is_nothing (find_in rs j key) ≡ true → there rs ≡ 0
  unfolding there find_in key_is
  none_there [] j e = refl
  none_there (r ∷ rs) j e = go (with_key key (key_of r)) e (none_there rs (j + 1))
    where
      go : (u : Bool) → is_nothing (cond u (Some j) (find_in rs (j + 1) key)) ≡ true → (is_nothing (find_in rs (j + 1) key) ≡ true → there rs ≡ 0) → cond u 1 0 + there rs ≡ 0
      go true f next = absurd (let z : ◌≡◌ {A = ℕ} 0 1 = cc in omega arith)
      go false f next = omega (arith, next f)

  pub there_once : (rs : List Record) → distinct rs ≡ true → there rs ≤ 1
  unfolding there distinct
  there_once [] e = omega arith
  there_once (r ∷ rs) e = go (with_key key (key_of r)) refl (there_once rs)
    where
      d : (is_nothing (find_in rs 0 (key_of r)) ≡ true) × (distinct rs ≡ true)
      d = both (is_nothing (find_in rs 0 (key_of r))) (distinct rs) e

      go : (u : Bool) → with_key key (key_of r) ≡ u → (distinct rs ≡ true → there rs ≤ 1) → cond u 1 0 + there rs ≤ 1
      go true q next =
          let z = none_there rs 0 (ap (λ (k : Key). is_nothing (find_in rs 0 k)) (sym (same_key (key_of r) key q)) ∙ d.0) in
          omega arith
      go false q next = omega (arith, next d.1)

  -- ONE LINE of it, of whatever states count
  module _ (c : States) (line : ℕ) where
    line_there_lem : (rs : List Record) → worth_of c (with_key key) (on_line line) rs ≤ there rs
    unfolding worth_of there
    line_there_lem [] = omega arith
    line_there_lem (r ∷ rs) = go (with_key key (key_of r)) (one_in c line 1 r.states r.amounts) (line_there_lem rs)
      where
        go : (u : Bool) → worth_in c (on_line line) 1 r.states r.amounts ≤ 1 → worth_of c (with_key key) (on_line line) rs ≤ there rs
            → cond u (worth_in c (on_line line) 1 r.states r.amounts) 0 + worth_of c (with_key key) (on_line line) rs ≤ cond u 1 0 + there rs
        go true h l = omega arith
        go false h l = omega arith

    pub one_most : (rs : List Record) → distinct rs ≡ true → worth_of c (with_key key) (on_line line) rs ≤ 1
    one_most rs e = omega (arith, line_there_lem rs, there_once rs e)
