-- A list is in order of arrival: a new record comes after the last one, and every other change keeps its record's key.
use Rattle.std.specs.Prelude.{Option, Result, Some, None, Ok, Err}
use Prim.Native.Nat.{ℕ, zero, suc, ◌+◌, ◌-◌, ◌≤◌, ◌<◌}
use mathlib.Core.Path.{◌≡◌, refl, sym, ap, ◌∙◌}
use mathlib.Core.Bool.{Bool}
use mathlib.Core.List.{List, [], ◌∷◌, ◌++◌, append-nil, append_assoc}
use native.Mathlib.Omega.{arith}
use lib.ListN.{length, set, length-map, length-set, length-append}
use lib.Seq.{set_split}
use Rattle.order.specs.Ordinativo.{Ordinativo}
use Rattle.record.specs.declared.Record.{Record}
use Rattle.record.specs.declared.Key.{Key}
use Rattle.record.specs.Slot.{key_of, with_state}
use Rattle.slots.specs.Slots.{nth, find_in, no_record}
use Rattle.slots.proofs.Search.{found_below}
use Rattle.replacing.specs.declared.Naming.{Naming}
use Rattle.replacing.specs.Replacing.{namings, with_replaced_at, with_replaced, replaced_by}
use Rattle.replacing.proofs.Marks.{replaced_length}
use Rattle.rules.specs.declared.Change.{Change}
use Rattle.rules.specs.Rules.{key_for, judge_order, judge_notice, written}
use Rattle.rules.specs.Effects.{stored_at, records_by, all_records, records_moved}
use Rattle.rules.proofs.Judging.{Stands, inserting, replacing, varying, annulling, accepted}
use Rattle.arrival.specs.Arrival.{keys_of, arrived, arrivals, Arrival}

-- KEYS

-- of a record replaced by one of the same key; past the end nothing is
keys_set : (rs : List Record) (i : ℕ) (r : Record) → key_of r ≡ key_of (nth rs i) → keys_of (set rs i r) ≡ keys_of rs
keys_set [] i r e = refl
keys_set (x ∷ rs) zero r e = ap (λ (k : Key). k ∷ keys_of rs) e
keys_set (x ∷ rs) (suc i) r e = ap (λ (l : List Key). key_of x ∷ l) (keys_set rs i r e)

keys_stored : (rs : List Record) (i : ℕ) (r : Record) → i < length rs → key_of r ≡ key_of (nth rs i) → keys_of (stored_at rs i r) ≡ keys_of rs
keys_stored rs i r l e = ap keys_of (sym (set_split rs i r l)) ∙ keys_set rs i r e

-- of a record after the last one
keys_end : (rs : List Record) (r : Record) → keys_of (stored_at rs (length rs) r) ≡ keys_of rs ++ key_of r ∷ []
keys_end [] r = refl
keys_end (x ∷ rs) r = ap (λ (l : List Key). key_of x ∷ l) (keys_end rs r)

-- of records with named lines replaced
keys_marked : (rs : List Record) (m : Naming) (f : Option ℕ) → keys_of (with_replaced_at rs m f) ≡ keys_of rs
unfolding with_replaced_at
keys_marked rs m None = refl
keys_marked rs m (Some i) = keys_set rs i (with_state (nth rs i) (m.line - 1) 3) refl

keys_replaced : (rs : List Record) (ms : List Naming) → keys_of (replaced_by rs ms) ≡ keys_of rs
unfolding replaced_by with_replaced
keys_replaced rs [] = refl
keys_replaced rs (m ∷ ms) = keys_replaced (with_replaced rs m) ms ∙ keys_marked rs m (find_in rs 0 m.key)

-- AN ORDER
module _ (slots year : ℕ) (o : Ordinativo) (rs : List Record) where
  by_stand : (c : Change) (i : ℕ) → Stands slots year o rs c i → keys_of (records_by year o rs (Ok (c, i))) ≡ keys_of rs ++ arrived year o (Ok (c, i))
  unfolding written
  by_stand c i (inserting p f q l) = rw (p, q) (keys_end rs _)
  by_stand c i (replacing p f q l z) =
      rw (p, q ∙ sym (replaced_length rs (namings o))) (keys_end (replaced_by rs (namings o)) _ ∙ ap (λ (l : List Key). l ++ key_for year o ∷ []) (keys_replaced rs (namings o)))
  by_stand c i (varying p f w) = rw p (keys_stored rs i _ (found_below rs (key_for year o) i no_record f) refl ∙ sym (append-nil (keys_of rs)))
  by_stand c i (annulling p f w s) = rw p (keys_stored rs i _ (found_below rs (key_for year o) i no_record f) refl ∙ sym (append-nil (keys_of rs)))

  by_ruling : (j : Result (Change × ℕ) ℕ) → judge_order slots year o rs ≡ j → keys_of (records_by year o rs j) ≡ keys_of rs ++ arrived year o j
  by_ruling (Ok (c, i)) e = by_stand c i (accepted slots year o rs c i e)
  by_ruling (Err code) e = sym (append-nil (keys_of rs))

  order : keys_of (records_by year o rs (judge_order slots year o rs)) ≡ keys_of rs ++ arrived year o (judge_order slots year o rs)
  order = by_ruling (judge_order slots year o rs) refl

  -- one arrives only where there is an empty slot
  few : length rs ≤ slots → (j : Result (Change × ℕ) ℕ) → judge_order slots year o rs ≡ j → length rs + length (arrived year o j) ≤ slots
  few h (Ok (c, i)) e = go (accepted slots year o rs c i e)
    where
      go : Stands slots year o rs c i → length rs + length (arrived year o (Ok (c, i))) ≤ slots
      go (inserting p f q l) = rw p (omega arith)
      go (replacing p f q l z) = rw p (omega arith)
      go (varying p f w) = rw p (omega arith)
      go (annulling p f w s) = rw p (omega arith)
  few h (Err code) e = omega arith

  order_room : length rs ≤ slots → length (records_by year o rs (judge_order slots year o rs)) ≤ slots
  order_room h =
      let a = ap length order in
      let b = few h (judge_order slots year o rs) refl in
      omega (arith, simp (length-append, length-map) at a)

-- A FLOW
module _ (slots year : ℕ) where
  flow : (os : List Ordinativo) (rs : List Record) → keys_of (all_records slots year os rs) ≡ keys_of rs ++ arrivals slots year os rs
  unfolding all_records arrivals
  flow [] rs = sym (append-nil (keys_of rs))
  flow (o ∷ os) rs =
      flow os (records_by year o rs (judge_order slots year o rs))
      ∙ ap (λ (l : List Key). l ++ arrivals slots year os (records_by year o rs (judge_order slots year o rs))) (order slots year o rs)
      ∙ append_assoc (keys_of rs) _ _

  room : (os : List Ordinativo) (rs : List Record) → length rs ≤ slots → length (all_records slots year os rs) ≤ slots
  unfolding all_records
  room [] rs h = h
  room (o ∷ os) rs h = room os (records_by year o rs (judge_order slots year o rs)) (order_room slots year o rs h)

-- A NOTICE
notice : (executing : Bool) (line : ℕ) (rs : List Record) (m : Result (ℕ × ℕ) ℕ) → keys_of (records_moved executing line rs m) ≡ keys_of rs
notice executing line rs (Ok (i, cents)) = keys_set rs i _ refl
notice executing line rs (Err c) = refl

same_room : (executing : Bool) (line : ℕ) (rs : List Record) (m : Result (ℕ × ℕ) ℕ) → length (records_moved executing line rs m) ≡ length rs
same_room executing line rs (Ok (i, cents)) = length-set rs i _
same_room executing line rs (Err c) = refl

-- THE THEOREM
pub arrival : Arrival
arrival = record {
  order = order;
  flow = flow;
  notice = λ executing k line rs. notice executing line rs (judge_notice executing k line rs);
  room = room;
  same_room = λ executing k line rs. same_room executing line rs (judge_notice executing k line rs);
}
