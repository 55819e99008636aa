-- A record of a body's list, and the slot that holds it.
use Rattle.std.specs.Prelude.{Option, Some}
use Prim.Native.Nat.{ℕ, ◌+◌, ◌*◌, ◌<◌}
use mathlib.Core.List.{List}
use mathlib.Core.Path.{◌≡◌, sym, ◌∙◌}
use native.Mathlib.Omega.{arith}
use lib.ListN.{length}
use Rattle.record.specs.declared.Record.{Record}
use Rattle.record.specs.declared.Key.{Key}
use Rattle.record.specs.Slot.{slot_size, record_at}
use Rattle.slots.specs.Slots.{used_at, records_at, find_in, nth, no_record}
use Rattle.slots.proofs.Laws.{used_le}
use Rattle.slots.proofs.Search.{found_below}
use Rattle.slots.proofs.Index.{length_records, get_record}

-- A RECORD OF A BODY stands in its slot
pub record Held (t : List ℕ) (base n i : ℕ) : Type 0 where
  pub low : i < n
  pub used : i < used_at t base n
  pub same : nth (records_at t base n) i ≡ record_at t (base + slot_size * i)

module _ (t : List ℕ) (base n : ℕ) where
  abbrev records : List Record
  records = records_at t base n

  pub held : (i : ℕ) → i < length records → Held t base n i
  held i h =
      let l = length_records t base n in
      let u : i < used_at t base n = omega arith in
      record { low = omega (arith, used_le t base n); used = u; same = get_record t base n i no_record u }

  pub search_held : {f : Option ℕ} {i : ℕ} (k : Key) → f ≡ find_in records 0 k → f ≡ Some i → Held t base n i
  search_held {f} {i} k e g = held i (found_below records k i no_record (sym e ∙ g))
