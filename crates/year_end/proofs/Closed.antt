-- WHAT A CLOSE LEAVES of its table: the body's slots and its entry's own bytes are written, and nothing else; the body is valid, its entry keeps the totals of what
-- stays and the year, and all that stays is of later years.
use Prim.Native.Nat.{ℕ, ◌+◌, ◌*◌, ◌≤◌, ◌<◌}
use mathlib.Core.Path.{◌≡◌, refl, sym, ap, ◌∙◌}
use mathlib.Core.Bool.{true, false}
use mathlib.Core.List.{List}
use native.Mathlib.Omega.{arith}
use lib.ListN.{length, length-append}
use Rattle.words.specs.Numbers.{put, be2, bytes2, bytes8}
use Rattle.words.proofs.Laws.{Agree, round2, length_put}
use Rattle.record.specs.declared.Record.{Record}
use Rattle.record.specs.Slot.{slot_size}
use Rattle.record.proofs.Back.{agree_before, agree_after}
use Rattle.slots.specs.Slots.{records_at}
use Rattle.body.specs.Body.{body_ok, cents_of, all_later}
use Rattle.body.proofs.Laws.{cents_most}
use Rattle.body.proofs.Same.{records_agree, body_agree}
use Rattle.entries.specs.Entry.{entry_size, entry_fixed, closed_place, entry_rest, kept_bytes, closed_of}
use Rattle.table.specs.Table.{agrees}
use Rattle.service.specs.Service.{settled}
use Rattle.service.proofs.Totals.{is_agrees, kept_same, put_paid, put_collected}
use Rattle.packing.proofs.Packed.{joined, packed_before, packed_after}
use Rattle.closing.specs.Closing.{earlier_remains, staying, stays_at, year_removed}
use Rattle.closing.proofs.Removed.{removed_records, removed_ok, length_open, staying_later}
use Rattle.year_end.specs.YearEnd.{body_closed}
use Rattle.year_end.specs.Inner.{Fits}
use Rattle.year_end.proofs.Laws.{removed_long}

module _ (t : List ℕ) (e base n year : ℕ) (F : Fits t e base n) where
  abbrev mid : List ℕ
  mid = year_removed t base n year

  abbrev rs : List Record
  rs = staying year (records_at t base n)

  abbrev sums : List ℕ
  sums = kept_bytes (cents_of 1 rs) (cents_of 2 rs)

  abbrev set : List ℕ
  set = put mid (e + entry_fixed) sums

  long : length mid ≡ length t
  long = removed_long t e base n year F

  room : base + slot_size * length (stays_at t base n year) ≤ length t
  room = omega (arith, length_open t base n year, F.inside)

  mid_before : (p m : ℕ) → p + m ≤ base → Agree mid p t p m
  mid_before = packed_before t base (stays_at t base n year) room

  mid_after : (p m : ℕ) → base + slot_size * n ≤ p → Agree mid p t p m
  mid_after p m h = packed_after t base (stays_at t base n year) room p m (omega (arith, length_open t base n year))

  sixteen : length sums ≡ 16
  unfolding kept_bytes
  sixteen = length-append (bytes8 (cents_of 1 rs)) (bytes8 (cents_of 2 rs))

  set_long : length set ≡ length t
  set_long = length_put mid (e + entry_fixed) sums (omega (arith, sixteen, long, F.entry, F.inside)) ∙ long

  is : body_closed t e base n year ≡ put set (e + closed_place) (bytes2 year)
  unfolding body_closed settled
  is = refl

  -- where it is written, and where not
  pub closed_long : length (body_closed t e base n year) ≡ length t
  closed_long = ap length is ∙ length_put set (e + closed_place) (bytes2 year) (omega (arith, set_long, F.entry, F.inside)) ∙ set_long

  year_before : (p m : ℕ) → p + m ≤ e + closed_place → Agree (body_closed t e base n year) p set p m
  year_before p m h = rw is (agree_before set (e + closed_place) (bytes2 year) p (omega (arith, set_long, F.entry, F.inside)) m h)

  pub closed_before : (p m : ℕ) → p + m ≤ e + entry_fixed → Agree (body_closed t e base n year) p t p m
  closed_before p m h =
      joined (year_before p m (omega arith))
      (joined (agree_before mid (e + entry_fixed) sums p (omega (arith, long, F.entry, F.inside)) m h) (mid_before p m (omega (arith, F.entry))))

  past_year : (p m : ℕ) → e + entry_rest ≤ p → Agree (body_closed t e base n year) p mid p m
  past_year p m h =
      joined (rw is (agree_after set (e + closed_place) (bytes2 year) p (omega (arith, set_long, F.entry, F.inside)) m (omega arith)))
      (agree_after mid (e + entry_fixed) sums p (omega (arith, long, F.entry, F.inside)) m (omega (arith, sixteen)))

  pub closed_between : (p m : ℕ) → e + entry_rest ≤ p → p + m ≤ base → Agree (body_closed t e base n year) p t p m
  closed_between p m h l = joined (past_year p m h) (mid_before p m l)

  pub closed_after : (p m : ℕ) → base + slot_size * n ≤ p → Agree (body_closed t e base n year) p t p m
  closed_after p m h = joined (past_year p m (omega (arith, F.entry))) (mid_after p m h)

  -- the body
  slots_are : Agree (body_closed t e base n year) base mid base (slot_size * n)
  slots_are = past_year base (slot_size * n) (omega (arith, F.entry))

  pub closed_ok_lem : body_ok (body_closed t e base n year) base n ≡ true
  closed_ok_lem = body_agree n slots_are ∙ removed_ok t base n year F.inside F.valid

  pub closed_records : records_at (body_closed t e base n year) base n ≡ staying year (records_at t base n)
  closed_records = records_agree n slots_are ∙ removed_records t base n year F.inside F.valid

  -- the entry
  small : (kind : ℕ) → cents_of kind rs ≤ 18446744073709551615
  small kind =
      omega (arith, cents_most mid base n kind (removed_ok t base n year F.inside F.valid), ap (cents_of kind) (removed_records t base n year F.inside F.valid), F.few)

  pub closed_agrees : agrees (body_closed t e base n year) e (records_at (body_closed t e base n year) base n) ≡ true
  closed_agrees =
      let l : e + entry_size ≤ length mid = omega (arith, long, F.entry, F.inside) in
      let k = kept_same e (year_before (e + entry_fixed) 16 (omega arith)) in
      is_agrees (body_closed t e base n year) e (records_at (body_closed t e base n year) base n)
      (k.0 ∙ put_paid mid e (cents_of 1 rs) (cents_of 2 rs) l (small 1) ∙ ap (cents_of 1) (sym closed_records))
      (k.1 ∙ put_collected mid e (cents_of 1 rs) (cents_of 2 rs) l (small 2) ∙ ap (cents_of 2) (sym closed_records))

  pub closed_year : year < 65536 → closed_of (body_closed t e base n year) e ≡ year
  unfolding closed_of
  closed_year h = ap (λ (s : List ℕ). be2 s (e + closed_place)) is ∙ round2 set (e + closed_place) year (omega (arith, set_long, F.entry, F.inside)) h

  pub closed_later : year < 65536 → earlier_remains year (records_at t base n) ≡ false
      → all_later (closed_of (body_closed t e base n year) e) (records_at (body_closed t e base n year) base n) ≡ true
  closed_later h f = (λ i. all_later (closed_year h i) (closed_records i)) ∙ staying_later year (records_at t base n) f
