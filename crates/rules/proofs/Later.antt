-- Orders of a later year than one, and notices, leave records of later years: an order's own record is of the flow's year, and no other changes its key.
use Rattle.std.specs.Prelude.{Option, Result, Some, None, Ok, Err}
use Prim.Native.Nat.{ℕ, zero, suc, ◌<◌}
use mathlib.Core.Bool.{Bool, true}
use mathlib.Core.List.{List, [], ◌∷◌}
use mathlib.Core.Path.{◌≡◌, refl, ap}
use native.Mathlib.Omega.{arith}
use lib.ListN.{set}
use lib.Dec.{ltb}
use borrow.Author.Tests.{lt-ltb}
use Rattle.scan.proofs.Laws.{both}
use Rattle.order.specs.Ordinativo.{Ordinativo}
use Rattle.record.specs.declared.Record.{Record}
use Rattle.record.specs.declared.Key.{Key}
use Rattle.record.specs.Slot.{replaced_line, key_of, with_state}
use Rattle.slots.specs.Slots.{nth, find_in}
use Rattle.body.specs.Body.{all_later}
use Rattle.replacing.specs.declared.Naming.{Naming}
use Rattle.replacing.specs.Replacing.{namings, with_replaced_at, with_replaced, replaced_by}
use Rattle.rules.specs.declared.Change.{Change}
use Rattle.rules.specs.declared.Change.TheVariants.{Insert, Vary, Annul, Replace}
use Rattle.rules.specs.Rules.{key_for, judge_order, written, moved_to}
use Rattle.rules.specs.Effects.{stored_at, besides, records_by, all_records, records_moved}
use Rattle.rules.proofs.Kept.{written_key}

module _ (closed : ℕ) where
  -- a line's state leaves its record's year
  state_later : (rs : List Record) (i k s : ℕ) → all_later closed rs ≡ true → all_later closed (set rs i (with_state (nth rs i) k s)) ≡ true
  unfolding all_later
  state_later [] i k s e = refl
  state_later (r ∷ rs) zero k s e = e
  state_later (r ∷ rs) (suc i) k s e =
      let w = both (ltb closed r.esercizio) (all_later closed rs) e in
      rw w.0 (state_later rs i k s w.1)

  stored_later : (rs : List Record) (i : ℕ) (r : Record) → closed < r.esercizio → all_later closed rs ≡ true → all_later closed (stored_at rs i r) ≡ true
  unfolding all_later
  stored_later [] zero r l e = rw (lt-ltb closed r.esercizio l)
  stored_later [] (suc i) r l e = rw (lt-ltb closed r.esercizio l)
  stored_later (x ∷ rs) zero r l e = rw (lt-ltb closed r.esercizio l) (both (ltb closed x.esercizio) (all_later closed rs) e).1
  stored_later (x ∷ rs) (suc i) r l e =
      let w = both (ltb closed x.esercizio) (all_later closed rs) e in
      rw w.0 (stored_later rs i r l w.1)

  -- named lines that are replaced
  marked_at : (rs : List Record) (m : Naming) (f : Option ℕ) → all_later closed rs ≡ true → all_later closed (with_replaced_at rs m f) ≡ true
  unfolding with_replaced_at
  marked_at rs m None e = e
  marked_at rs m (Some i) e = state_later rs i _ replaced_line e

  marked_later : (rs : List Record) (m : Naming) → all_later closed rs ≡ true → all_later closed (with_replaced rs m) ≡ true
  unfolding with_replaced
  marked_later rs m e = marked_at rs m (find_in rs 0 m.key) e

  replaced_later : (rs : List Record) (ms : List Naming) → all_later closed rs ≡ true → all_later closed (replaced_by rs ms) ≡ true
  unfolding replaced_by
  replaced_later rs [] e = e
  replaced_later rs (m ∷ ms) e = replaced_later (with_replaced rs m) ms (marked_later rs m e)

  besides_later : (c : Change) (o : Ordinativo) (rs : List Record) → all_later closed rs ≡ true → all_later closed (besides c o rs) ≡ true
  besides_later Insert o rs e = e
  besides_later Vary o rs e = e
  besides_later Annul o rs e = e
  besides_later Replace o rs e = replaced_later rs (namings o) e

  -- AN ORDER, in a year that is later
  module _ (n year : ℕ) (l : closed < year) where
    pub order_later : (o : Ordinativo) (rs : List Record) → all_later closed rs ≡ true → (j : Result (Change × ℕ) ℕ) → judge_order n year o rs ≡ j → all_later closed (records_by year o rs j) ≡ true
    order_later o rs e (Ok (c, i)) q =
        let k : key_of (written year o (nth rs i) c) ≡ key_for year o = written_key n year o rs c i (nth rs i) q (λ h. refl) in
        let y = ap (λ (x : Key). x.esercizio) k in
        stored_later (besides c o rs) i (written year o (nth rs i) c) (omega arith) (besides_later c o rs e)
    order_later o rs e (Err code) q = e

    pub orders_later : (os : List Ordinativo) (rs : List Record) → all_later closed rs ≡ true → all_later closed (all_records n year os rs) ≡ true
    unfolding all_records
    orders_later [] rs e = e
    orders_later (o ∷ os) rs e = orders_later os (records_by year o rs (judge_order n year o rs)) (order_later o rs e (judge_order n year o rs) refl)

  -- A NOTICE
  pub notice_later : (executing : Bool) (line : ℕ) (rs : List Record) (m : Result (ℕ × ℕ) ℕ) → all_later closed rs ≡ true → all_later closed (records_moved executing line rs m) ≡ true
  notice_later executing line rs (Ok (i, cents)) e = state_later rs i _ (moved_to executing) e
  notice_later executing line rs (Err c) e = e
