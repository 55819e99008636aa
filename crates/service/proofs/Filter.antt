-- THE FILTER OF A BODY'S KEYS AFTER AN ORDER: its own key is marked, and no other comes in.
use Rattle.std.specs.Prelude.{Result, Some, Ok, Err}
use Prim.Native.Nat.{ℕ, ◌+◌, ◌*◌, ◌<◌, ◌≤◌}
use mathlib.Core.Bool.{Bool, true, false, cond}
use mathlib.Core.List.{List, [], ◌∷◌, ◌++◌}
use mathlib.Core.Path.{◌≡◌, refl, sym, ap, subst⁻¹, ◌∙◌}
use native.Mathlib.Omega.{arith}
use lib.ListN.{length, set, length-set, length-append}
use lib.Dec.{eqb}
use borrow.Author.Tests.{eq-eqb, ne_eqb, eqb-true}
use Rattle.ranges.specs.Ranges.{is_nothing}
use Rattle.record.specs.declared.Key.{Key}
use Rattle.record.specs.declared.Record.{Record}
use Rattle.record.specs.Slot.{slot_size, key_of}
use Rattle.slots.specs.Slots.{records_at, find_in, nth, no_record}
use Rattle.slots.specs.Inner.{mark_of, Filters}
use Rattle.slots.proofs.Search.{found_below, find_set, none_add}
use Rattle.slots.proofs.Filter.{other_key, filters_by}
use Rattle.body.specs.Body.{body_ok}
use Rattle.order.specs.Ordinativo.{Ordinativo}
use Rattle.replacing.specs.Replacing.{namings, replaced_by}
use Rattle.replacing.proofs.Marks.{replaced_find, replaced_length}
use Rattle.rules.specs.declared.Change.{Change}
use Rattle.rules.specs.declared.Change.TheVariants.{Insert, Vary, Annul, Replace}
use Rattle.rules.specs.Rules.{key_for, judge_order, written}
use Rattle.rules.specs.Effects.{stored_at, records_by}
use Rattle.rules.specs.Inner.{Writable}
use Rattle.rules.proofs.Judging.{Stands, inserting, replacing, varying, annulling, accepted}
use Rattle.service.specs.Service.{order_comes, order_leaves}
use Rattle.service.specs.Inner.{used_after}
use Rattle.service.proofs.Worth.{stored_set, stored_end}
use Rattle.service.proofs.Kept.{order_records}

module _ (slots year : ℕ) (o : Ordinativo) (rs : List Record) {marks : List ℕ} {used : ℕ} (f : Filters marks used rs) where
  -- the records of before and one more, among which no other key is
  abbrev After : ℕ → List Record → Type 0
  After n more = Filters (set marks (mark_of (key_for year o)) 1) n more

  -- a new record after the last, where the others keep their keys
  added : (left : List Record) (i : ℕ) (new : Record) → ((k : Key) → find_in left 0 k ≡ find_in rs 0 k) → length left ≡ length rs → i ≡ length rs → key_of new ≡ key_for year o
      → After (cond (eqb i used) (used + 1) used) (stored_at left i new)
  added left i new same long q e =
      subst⁻¹ (After (cond (eqb i used) (used + 1) used)) (stored_end left i new (q ∙ sym long))
      (filters_by rs (left ++ new ∷ []) (key_for year o) f (λ k n z. none_add left new k (other_key new k (λ p. n (p ∙ ap mark_of e))) (ap is_nothing (same k) ∙ z))
      (λ u. ap (λ (b : Bool). cond b (used + 1) used) (eq-eqb i used (q ∙ sym u)) ∙ simp length-append (omega arith)))

  -- a record in place of one with its key
  replaced : (i : ℕ) (new : Record) → find_in rs 0 (key_for year o) ≡ Some i → key_of new ≡ key_of (nth rs i) → After (cond (eqb i used) (used + 1) used) (stored_at rs i new)
  replaced i new g e =
      let l = found_below rs (key_for year o) i no_record g in
      subst⁻¹ (After (cond (eqb i used) (used + 1) used)) (stored_set rs i new l)
      (filters_by rs (set rs i new) (key_for year o) f (λ k n z. ap is_nothing (find_set rs i new no_record e 0 k) ∙ z)
      (λ u. ap (λ (b : Bool). cond b (used + 1) used) (ne_eqb i used (λ w. omega arith)) ∙ u ∙ sym (length-set rs i new)))

  by_stand : (c : Change) (i : ℕ) → Stands slots year o rs c i → After (used_after (Ok (c, i)) used) (records_by year o rs (Ok (c, i)))
  unfolding written
  by_stand c i (inserting y g q l) = rw y (added rs i (written year o (nth rs i) Insert) (λ k. refl) refl q refl)
  by_stand c i (replacing y g q l z) =
      rw y (added (replaced_by rs (namings o)) i (written year o (nth rs i) Replace) (λ k. replaced_find rs (namings o) 0 k) (replaced_length rs (namings o)) q refl)
  by_stand c i (varying y g w) = rw y (replaced i (written year o (nth rs i) Vary) g refl)
  by_stand c i (annulling y g w s) = rw y (replaced i (written year o (nth rs i) Annul) g refl)

  pub order_filters : (j : Result (Change × ℕ) ℕ) → judge_order slots year o rs ≡ j → After (used_after j used) (records_by year o rs j)
  order_filters (Ok (c, i)) e = by_stand c i (accepted slots year o rs c i e)
  order_filters (Err code) e = filters_by rs rs (key_for year o) f (λ k n z. z) (λ u. u)

-- and on the table that it leaves
pub order_filtered : (t : List ℕ) (base n year : ℕ) (o : Ordinativo) {marks : List ℕ} {used : ℕ} → base + slot_size * n ≤ length t → body_ok t base n ≡ true → Writable o
    → (2000 ≤ year) × (year ≤ 2099) → Filters marks used (records_at t base n)
    → Filters (set marks (mark_of (key_for year o)) 1) (used_after (order_comes t base n year o) used) (records_at (order_leaves t base n year o) base n)
unfolding order_comes
order_filtered t base n year o {marks} {used} fits ok w y f =
    subst⁻¹ (Filters (set marks (mark_of (key_for year o)) 1) (used_after (judge_order n year o (records_at t base n)) used)) (order_records t base n year o fits ok w y)
    (order_filters n year o (records_at t base n) f (judge_order n year o (records_at t base n)) refl)

-- no more records than there are slots
pub used_low : (j : Result (Change × ℕ) ℕ) {used n : ℕ} → used ≤ n → ((c : Change) (i : ℕ) → j ≡ Ok (c, i) → i < n) → used_after j used ≤ n
used_low (Err code) l h = l
used_low (Ok (c, i)) {used} {n} l h = go (eqb i used) refl (h c i refl)
  where
    go : (b : Bool) → eqb i used ≡ b → i < n → cond b (used + 1) used ≤ n
    go true e h = omega (arith, eqb-true i used e)
    go false e h = l
