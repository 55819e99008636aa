-- What a moved line leaves: one byte of its record's states, so that record with one state changed, the body valid, and its entry's totals those of
-- its records.
use Rattle.std.specs.Prelude.{Result, Some, Ok, Err}
use Prim.Native.Nat.{ℕ, ◌+◌, ◌-◌, ◌*◌, ◌≤◌, ◌<◌}
use mathlib.Core.Bool.{Bool, true, false}
use mathlib.Core.List.{List, [], ◌∷◌}
use mathlib.Core.Path.{◌≡◌, refl, sym, ap, ◌∙◌}
use native.Mathlib.Omega.{arith}
use lib.ListN.{length}
use Rattle.words.specs.Numbers.{put}
use Rattle.words.proofs.Laws.{Agree, length_put}
use Rattle.record.specs.declared.Record.{Record}
use Rattle.record.specs.declared.Key.{Key}
use Rattle.record.specs.Slot.{slot_size, record_at, with_state}
use Rattle.record.proofs.Back.{agree_before, agree_after}
use Rattle.slots.specs.Slots.{records_at, find_in, nth, state_place}
use Rattle.slots.proofs.Held.{Held, search_held}
use Rattle.entries.specs.Entry.{entry_size, entry_fixed, kept, kept_bytes}
use Rattle.body.specs.Body.{body_ok, cents_of}
use Rattle.body.proofs.Laws.{cents_most}
use Rattle.body.proofs.Same.{records_agree, body_agree}
use Rattle.body.proofs.Slots.{valid_at}
use Rattle.body.proofs.State.{state_records, state_within}
use Rattle.valid.proofs.Valid.{Valid, ok_bounds}
use Rattle.valid.proofs.Moved.{moved_valid}
use Rattle.rules.specs.Rules.{judge_notice, moved_to}
use Rattle.rules.specs.Effects.{records_moved}
use Rattle.rules.proofs.Judging.{Moves, moved}
use Rattle.service.specs.Service.{notice_comes, line_moved, settled, notice_stored, notice_leaves}
use Rattle.service.specs.Inner.{sum_moved, Movable, its, kept_moved, Served}
use Rattle.service.proofs.Kept.{unchanged}
use Rattle.service.proofs.Totals.{agrees_is, is_agrees, kept_same, put_paid, put_collected, cash_moves, Settled, kept_settled}

-- A NOTICE

moved_state : (executing : Bool) → (1 ≤ moved_to executing) × (moved_to executing ≤ 3)
moved_state true = (omega arith, omega arith)
moved_state false = (omega arith, omega arith)

module _ (t : List ℕ) (e base n : ℕ) (executing : Bool) (k : Key) (line : ℕ) (S : Served t e base n) where
  abbrev rs : List Record
  rs = records_at t base n

  fits : base + slot_size * n ≤ length t
  fits = S.inside

  ok : body_ok t base n ≡ true
  ok = S.valid

  module _ (i cents : ℕ) (q : judge_notice executing k line (records_at t base n) ≡ Ok (i, cents)) where
    abbrev s : ℕ
    s = moved_to executing

    abbrev old : Record
    old = record_at t (base + slot_size * i)

    abbrev new : Record
    new = with_state old (line - 1) s

    abbrev left : List ℕ
    left = put t (state_place base i line) (s ∷ [])

    moves : Moves executing line (nth (records_at t base n) i) cents
    moves = (moved executing k line (records_at t base n) i cents q).1

    here : Held t base n i
    here = search_held t base n k refl (moved executing k line (records_at t base n) i cents q).0

    same_lines : (nth (records_at t base n) i).lines ≡ old.lines
    same_lines = ap (λ (x : Record). x.lines) here.same

    old_valid : Valid old
    old_valid = valid_at t base n i ok here.used

    below : line - 1 < 8
    below = omega (arith, moves.first, moves.last, same_lines, (ok_bounds old old_valid.ok).lines)

    new_valid : Valid new
    new_valid =
        moved_valid old (line - 1) s old_valid (λ z. moves.acquired (ap (λ (x : Record). x.state) here.same ∙ z))
        (omega (arith, moves.first, moves.last, same_lines)) (moved_state executing)

    slot_fits : base + slot_size * i + slot_size ≤ length t
    slot_fits = omega (arith, here.low, fits)

    left_ok : body_ok left base n ≡ true
    left_ok = (state_within t base n i (line - 1) s below fits here.used ok new_valid).ok

    left_records : records_at left base n ≡ records_moved executing line (records_at t base n) (Ok (i, cents))
    left_records = state_records t base n i (line - 1) s below fits here.used

    -- THE TOTALS, of the records afterwards
    abbrev new_records : List Record
    new_records = records_moved executing line rs (Ok (i, cents))

    few_cents : (kind : ℕ) → cents_of kind new_records ≤ 18446744073709551615
    few_cents kind = omega (arith, cents_most left base n kind left_ok, ap (cents_of kind) left_records, S.few)

    pub moves_cash : (kind : ℕ) → Movable executing (cents_of kind rs) (its k.kind kind cents)
        × (sum_moved executing (cents_of kind rs) (its k.kind kind cents) ≡ cents_of kind new_records)
    moves_cash kind = cash_moves executing k line rs i cents kind q (found_valid i (moved executing k line rs i cents q).0) (few_cents kind)
      where
        found_valid : (j : ℕ) → find_in rs 0 k ≡ Some j → Valid (nth rs j)
        found_valid j f = let h = search_held t base n k refl f in rw h.same (valid_at t base n j ok h.used)

    long_left : length left ≡ length t
    long_left = length_put t (state_place base i line) (s ∷ []) (omega (arith, below, slot_fits))

    -- what the entry keeps, once the state is put, is still what t's records have
    kept_left : (kept 1 left e ≡ cents_of 1 rs) × (kept 2 left e ≡ cents_of 2 rs)
    kept_left =
        let a = kept_same e (agree_before t (state_place base i line) (s ∷ []) (e + entry_fixed) (omega (arith, below, slot_fits)) 16 (omega (arith, S.entry))) in
        let b = agrees_is t e rs S.agreed in
        (a.0 ∙ b.0, a.1 ∙ b.1)

    pub kept_movable : Movable executing (kept 1 left e) (its k.kind 1 cents) × Movable executing (kept 2 left e) (its k.kind 2 cents)
    kept_movable =
        let a = kept_left in
        (rw a.0 (moves_cash 1).0, rw a.1 (moves_cash 2).0)

    abbrev done : List ℕ
    done = put left (e + entry_fixed) (kept_bytes (cents_of 1 new_records) (cents_of 2 new_records))

    pub settled_is : settled left e (records_at left base n) ≡ done
    unfolding settled
    settled_is = ap (λ (x : List Record). put left (e + entry_fixed) (kept_bytes (cents_of 1 x) (cents_of 2 x))) left_records

    pub moved_is : put left (e + entry_fixed) (kept_moved left e executing k.kind cents) ≡ done
    moved_is =
        let a = kept_left in
        let x = ap (λ (z : ℕ). sum_moved executing z (its k.kind 1 cents)) a.0 ∙ (moves_cash 1).1 in
        let y = ap (λ (z : ℕ). sum_moved executing z (its k.kind 2 cents)) a.1 ∙ (moves_cash 2).1 in
        λ j. put left (e + entry_fixed) (kept_bytes (x j) (y j))

    sixteen : length (kept_bytes (cents_of 1 new_records) (cents_of 2 new_records)) ≡ 16
    unfolding kept_bytes
    sixteen = refl

    in_left : e + entry_size ≤ length left
    in_left = omega (arith, S.entry, long_left, fits)

    slots_done : Agree done base left base (slot_size * n)
    slots_done = agree_after left (e + entry_fixed) (kept_bytes (cents_of 1 new_records) (cents_of 2 new_records)) base (omega (arith, in_left)) (slot_size * n) (omega (arith, sixteen, S.entry))

    done_records : records_at done base n ≡ new_records
    done_records = records_agree n slots_done ∙ left_records

    left_settled : Settled t done e base n
    left_settled = record {
      long = length_put left (e + entry_fixed) (kept_bytes (cents_of 1 new_records) (cents_of 2 new_records)) (omega (arith, sixteen, in_left)) ∙ long_left;
      before = λ p m h. over (agree_before left (e + entry_fixed) (kept_bytes (cents_of 1 new_records) (cents_of 2 new_records)) p (omega (arith, in_left)) m h)
          (agree_before t (state_place base i line) (s ∷ []) p (omega (arith, below, slot_fits)) m (omega (arith, S.entry)));
      between = λ p m g h. over (agree_after left (e + entry_fixed) (kept_bytes (cents_of 1 new_records) (cents_of 2 new_records)) p (omega (arith, in_left)) m (omega (arith, sixteen)))
          (agree_before t (state_place base i line) (s ∷ []) p (omega (arith, below, slot_fits)) m (omega arith));
      after = λ p m h. over (agree_after left (e + entry_fixed) (kept_bytes (cents_of 1 new_records) (cents_of 2 new_records)) p (omega (arith, in_left)) m (omega (arith, sixteen, S.entry)))
          (agree_after t (state_place base i line) (s ∷ []) p (omega (arith, below, slot_fits)) m (omega (arith, below, here.low)));
      ok = body_agree n slots_done ∙ left_ok;
      agreed = is_agrees done e (records_at done base n)
          (put_paid left e (cents_of 1 new_records) (cents_of 2 new_records) in_left (few_cents 1) ∙ ap (cents_of 1) (sym done_records))
          (put_collected left e (cents_of 1 new_records) (cents_of 2 new_records) in_left (few_cents 2) ∙ ap (cents_of 2) (sym done_records));
    }
      where
        over : {x y z : List ℕ} {p m : ℕ} → Agree x p y p m → Agree y p z p m → Agree x p z p m
        over a b = record { same = λ j h. a.same j h ∙ b.same j h }

  settled_by : (m : Result (ℕ × ℕ) ℕ) → notice_comes t base n executing k line ≡ m → Settled t (notice_stored t e base n executing line m) e base n
  unfolding notice_comes notice_stored line_moved
  settled_by (Ok (i, cents)) q = rw (settled_is i cents q) (left_settled i cents q)
  settled_by (Err c) q = kept_settled S.entry S.agreed (unchanged t base n ok)

  pub notice_settled : Settled t (notice_leaves t e base n executing k line) e base n
  notice_settled = settled_by (notice_comes t base n executing k line) refl

  records_by_lem : (m : Result (ℕ × ℕ) ℕ) → notice_comes t base n executing k line ≡ m → records_at (notice_stored t e base n executing line m) base n ≡ records_moved executing line (records_at t base n) m
  unfolding notice_comes notice_stored line_moved
  records_by_lem (Ok (i, cents)) q = ap (λ (x : List ℕ). records_at x base n) (settled_is i cents q) ∙ done_records i cents q
  records_by_lem (Err c) q = refl

  pub notice_records : records_at (notice_leaves t e base n executing k line) base n ≡ records_moved executing line (records_at t base n) (judge_notice executing k line (records_at t base n))
  unfolding notice_comes
  notice_records = records_by_lem (notice_comes t base n executing k line) refl

  -- what the code leaves: the state put, then the kept sums moved
  pub notice_stored_lem : {i cents x : ℕ} {u t' : List ℕ} → notice_comes t base n executing k line ≡ Ok (i, cents) → x ≡ moved_to executing
      → u ≡ put t (state_place base i line) (x ∷ []) → t' ≡ put u (e + entry_fixed) (kept_moved u e executing k.kind cents) → t' ≡ notice_leaves t e base n executing k line
  unfolding notice_comes notice_stored line_moved
  notice_stored_lem {i} {cents} {x} {u} {t'} q m f g =
      let w : u ≡ left i cents q = f ∙ ap (λ (z : ℕ). put t (state_place base i line) (z ∷ [])) m in
      g ∙ ap (λ (z : List ℕ). put z (e + entry_fixed) (kept_moved z e executing k.kind cents)) w ∙ moved_is i cents q ∙ sym (settled_is i cents q)
      ∙ ap (notice_stored t e base n executing line) (sym q)

  pub notice_movable : {i cents x : ℕ} {u : List ℕ} → notice_comes t base n executing k line ≡ Ok (i, cents) → x ≡ moved_to executing → u ≡ put t (state_place base i line) (x ∷ [])
      → Movable executing (kept 1 u e) (its k.kind 1 cents) × Movable executing (kept 2 u e) (its k.kind 2 cents)
  unfolding notice_comes
  notice_movable {i} {cents} {x} {u} q m f =
      let w : u ≡ left i cents q = f ∙ ap (λ (z : ℕ). put t (state_place base i line) (z ∷ [])) m in
      rw w (kept_movable i cents q)
