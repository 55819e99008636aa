-- Whether a line is replaced, in a body's slots from the one at an index on.
use Prim.Native.Nat.{ℕ, ◌+◌, ◌-◌, ◌*◌, ◌≤◌, ◌<◌}
use mathlib.Core.Path.{◌≡◌, refl, sym, ap, ◌∙◌}
use mathlib.Core.Bool.{Bool, true, false}
use mathlib.Core.List.{List, [], ◌∷◌}
use native.Mathlib.Omega.{arith}
use lib.Dec.{eqb}
use Rattle.std.specs.List.{list_any}
use Rattle.record.specs.declared.Record.{Record}
use Rattle.record.specs.Slot.{slot_size, record_at}
use Rattle.slots.specs.Slots.{slots_at}
use Rattle.slots.proofs.Laws.{slots_next, slots_none}
use Rattle.body.specs.Body.{any_replaced, none_replaced}

any_is : (s : List ℕ) → list_any (λ x. eqb x 3) s ≡ any_replaced s
unfolding any_replaced
any_is [] = refl
any_is (x ∷ s) = rw (any_is s)

module _ (t : List ℕ) (base n i : ℕ) {r : Record} (q : r ≡ record_at t (base + slot_size * i)) {b : Bool} (p : b ≡ list_any (λ x. eqb x 3) r.states) (h : i < n) where
  its : {c : Bool} → b ≡ c → any_replaced (record_at t (base + slot_size * i)).states ≡ c
  its e = ap (λ (x : Record). any_replaced x.states) (sym q) ∙ sym (any_is r.states) ∙ sym p ∙ e

  pub some_first : b ≡ true → none_replaced (slots_at t (base + slot_size * i) (n - i)) ≡ false
  unfolding none_replaced
  some_first e = rw (slots_next t base n i h, its e)

  pub none_later : b ≡ false → none_replaced (slots_at t (base + slot_size * i) (n - i)) ≡ none_replaced (slots_at t (base + slot_size * (i + 1)) (n - (i + 1)))
  unfolding none_replaced
  none_later e = rw (slots_next t base n i h, its e)

pub none_end : (t : List ℕ) (at left : ℕ) → left ≤ 0 → none_replaced (slots_at t at left) ≡ true
unfolding none_replaced
none_end t at left h = rw (slots_none t at left (omega arith))
