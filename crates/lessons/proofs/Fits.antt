-- THE LIST OF A VALID BODY FITS: its orders have at most eight lines, and amounts that a field can write.
use Prim.Native.Nat.{ℕ, zero, suc, ◌+◌, ◌≤◌}
use mathlib.Core.Path.{◌≡◌, refl, sym, ◌∙◌}
use mathlib.Core.Bool.{true}
use mathlib.Core.List.{List, [], ◌∷◌}
use lib.ListN.{get_or}
use borrow.Author.Tests.{le-leb}
use Rattle.scan.proofs.Laws.{both}
use Rattle.bounds.specs.Bounds.{max_cents}
use Rattle.record.specs.Slot.{slot_size, record_at, rest_zero}
use Rattle.valid.proofs.Valid.{ok_bounds, ok_amount}
use Rattle.slots.specs.Slots.{used_at, slots_at, records_at}
use Rattle.body.specs.Body.{slot_ok, slots_ok, body_ok}
use Rattle.body.proofs.Laws.{slot_rest, slots_ok_more, ok_slots}
use Rattle.plain.specs.Plain.{amounts_fit, fits}

amounts_fit_lem : (xs : List ℕ) → ((k : ℕ) → get_or xs k 0 ≤ max_cents) → amounts_fit xs ≡ true
unfolding amounts_fit
amounts_fit_lem [] f = refl
amounts_fit_lem (x ∷ xs) f = rw (le-leb x max_cents (f 0)) (amounts_fit_lem xs (λ k. f (suc k)))

slots_fit : (t : List ℕ) (at n : ℕ) → slots_ok t at n ≡ true → fits (slots_at t at n) ≡ true
unfolding fits slots_at
slots_fit t at zero e = refl
slots_fit t at (suc n) e =
    let w = both (slot_ok t at) _ (sym (slots_ok_more t at (suc n) n refl) ∙ e) in
    let ok = (both (rest_zero t at) _ (sym (slot_rest t at) ∙ w.0)).1 in
    rw (le-leb (record_at t at).lines 8 (ok_bounds (record_at t at) ok).lines.1, amounts_fit_lem (record_at t at).amounts (ok_amount (record_at t at) ok))
    (slots_fit t (at + slot_size) n w.1)

pub body_fits : (t : List ℕ) (at n : ℕ) → body_ok t at n ≡ true → fits (records_at t at n) ≡ true
body_fits t at n e = slots_fit t at (used_at t at n) (ok_slots t at n e)
