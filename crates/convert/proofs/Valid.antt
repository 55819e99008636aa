-- The table 2 of a valid table 1: valid, with the same bank, codes, slots and records, and the totals of these.
use mathlib.Core.Path.{◌≡◌, refl, sym, ap, ◌∙◌}
use mathlib.Core.List.{List, ◌++◌}
use mathlib.Core.Bool.{true, ◌&&◌}
use Prim.Native.Nat.{ℕ, zero, suc, ◌+◌, ◌-◌, ◌*◌, ◌≤◌, ◌<◌}
use native.Mathlib.Nat.{not-suc-le-zero}
use native.Mathlib.Omega.{arith}
use lib.ListN.{length, drop, length-append, get_or-append}
use lib.Seq.{get_or-take, get_or-drop}
use Rattle.scan.specs.Bytes.{part}
use Rattle.words.proofs.Laws.{Agree, on}
use Rattle.bounds.specs.Bounds.{max_length}
use Rattle.record.specs.Slot.{slot_size}
use Rattle.slots.specs.Slots.{records_at}
use Rattle.body.specs.Body.{body_ok, cents_of, all_later}
use Rattle.body.proofs.Laws.{cents_most}
use Rattle.body.proofs.Later.{open_later}
use Rattle.body.proofs.Same.{records_agree, body_agree}
use Rattle.entries.specs.Entry.{entry_size, kept, closed_of, slots_of, place_of, codes_from, slots_from}
use Rattle.entries.proofs.Same.{Rows, codes_rows, slots_rows}
use Rattle.table.specs.Table.{table1, table2, head_size, bodies, abi_of, head_ok, layout_ok, agrees, records_of, body_holds, valid_as, table_ok, codes_of, entry_of}
use Rattle.table.proofs.Laws.{known_1, known_2, entry, lay_split, head, table}
use Rattle.table.proofs.Bodies.{Body, body_of_lem, bodies_each}
use Rattle.contents.specs.Contents.{head_bytes, entries_bytes}
use Rattle.contents.proofs.Written.{get_d_second, agree_left, agree_right, head_bodies, head_abi, head_valid, Written, written_place, written_rest, written_rows, written_layout, written_kept, written_open}
use Rattle.convert.specs.Convert.{grown_length, cents_at, converted}
use Rattle.convert.specs.Same.{old_entry, Same}
use Rattle.convert.proofs.Laws.{room, few, five, long_head, long_entries, converted_long, lay_sum}
use borrow.Author.Tests.{eq-eqb}

-- each place moves by as much as the contents grow
moved_place : (o u : List ℕ) (d to at n p q b : ℕ) → Written table1.entry (cents_at o) u o to at n p → layout_ok table1 o at n q ≡ true → p ≡ q + d
    → p + slot_size * slots_from table1.entry o at n < 4294967296 → b < n → place_of u (to + entry_size * b) ≡ place_of o (at + table1.entry * b) + d
unfolding slots_from
moved_place o u d to at zero p q b w l e m h = absurd (not-suc-le-zero h)
moved_place o u d to at (suc n) p q zero w l e m h =
    let x : to + entry_size * 0 ≡ to = omega arith in
    let y : at + table1.entry * 0 ≡ at = omega arith in
    let f = written_place (omega arith) w (omega arith) in
    let g = (entry table1 o at q (lay_split table1 o at (suc n) n q refl l).0).placed in
    rw (x, y) (omega arith)
moved_place o u d to at (suc n) p q (suc b) w l e m h =
    let x : to + entry_size * suc b ≡ to + entry_size + entry_size * b = omega arith in
    let y : at + table1.entry * suc b ≡ at + table1.entry + table1.entry * b = omega arith in
    rw (x, y)
    (moved_place o u d (to + entry_size) (at + table1.entry) n (p + slot_size * slots_of o at) (q + slot_size * slots_of o at) b (written_rest (omega arith) w)
    (lay_split table1 o at (suc n) n q refl l).1 (omega arith) (omega arith) (omega arith))

module _ (o : List ℕ) (ok : valid_as table1 o ≡ true) where
  abbrev n : ℕ
  n = bodies o

  abbrev new : List ℕ
  new = converted o

  abbrev hs : List ℕ
  hs = head_bytes n (grown_length o) (abi_of o)

  abbrev es : List ℕ
  es = entries_bytes table1.entry (cents_at o) o head_size n (head_size + entry_size * n)

  abbrev ss : List ℕ
  ss = part o (head_size + table1.entry * n) (length o)

  length_contents : length (hs ++ es) ≡ head_size + entry_size * n
  length_contents = length-append hs es ∙ omega (arith, long_head o ok, long_entries o ok)

  contents : Agree new 0 (hs ++ es) 0 (head_size + entry_size * n)
  unfolding converted
  contents = record { same = λ i b. get_or-append (hs ++ es) ss 0 (0 + i) (omega (arith, length_contents)) }

  -- the slots' bytes are the old table's
  slots_same : Agree new (head_size + entry_size * n) o (head_size + table1.entry * n) (length o - (head_size + table1.entry * n))
  unfolding converted
  slots_same = record {
    same = λ i b.
        get_d_second (hs ++ es) ss (head_size + entry_size * n) i length_contents
        ∙ get_or-take (length o - (head_size + table1.entry * n)) (drop (head_size + table1.entry * n) o) i 0 b ∙ get_or-drop (head_size + table1.entry * n) o i 0;
  }

  first_16 : Agree new 0 hs 0 head_size
  first_16 = agree_left hs es contents head_size (omega (arith, long_head o ok)) (omega arith)

  written : Written table1.entry (cents_at o) new o head_size head_size n (head_size + entry_size * n)
  written =
      let l = converted_long o ok in
      record {
        bytes = agree_right hs es contents head_size (entry_size * n) (long_head o ok) (omega arith);
        from = room o ok;
        fits = omega (arith, room o ok);
      }

  pub fits : grown_length o ≤ max_length
  fits = omega (arith, (head table1 o (table table1 o ok).head_ok).fits, few o ok)

  number : bodies new ≡ n
  number = head_bodies new n (grown_length o) (abi_of o) (five o ok) first_16 (few o ok)

  bank : abi_of new ≡ abi_of o
  bank = head_abi new n (grown_length o) (abi_of o) (five o ok) first_16 (omega (arith, converted_long o ok, room o ok))

  new_head : head_ok table2 new ≡ true
  new_head =
      let h = head table1 o (table table1 o ok).head_ok in
      head_valid new n (grown_length o) (abi_of o) (five o ok) first_16 h.some h.few (converted_long o ok) fits h.digits (omega (arith, h.room))

  rows : Rows new o entry_size table1.entry head_size head_size n
  rows = written_rows (omega arith) head_size head_size n (head_size + entry_size * n) written

  codes : codes_of new ≡ codes_from table1.entry o head_size n
  codes = ap (codes_from entry_size new head_size) number ∙ codes_rows rows (table table1 o ok).forms

  slots : (b : ℕ) → b < n → slots_of new (entry_of b) ≡ slots_of o (old_entry b)
  slots b h = slots_rows rows b h

  old_sum : head_size + table1.entry * n + slot_size * slots_from table1.entry o head_size n ≡ length o
  old_sum = lay_sum table1 o head_size n (head_size + table1.entry * n) (table table1 o ok).layout

  layout : layout_ok table2 new head_size n (head_size + entry_size * n) ≡ true
  layout =
      written_layout (omega arith) head_size head_size n (head_size + entry_size * n) written (table table1 o ok).forms
      (omega (arith, old_sum, converted_long o ok)) (omega (arith, converted_long o ok, fits))

  module _ (b : ℕ) (h : b < n) where
    old : Body table1 o b
    old = body_of_lem known_1 o ok b h

    place : place_of new (entry_of b) ≡ place_of o (old_entry b) + 16 * n
    place =
        moved_place o new (16 * n) head_size head_size n (head_size + entry_size * n) (head_size + table1.entry * n) b written (table table1 o ok).layout (omega arith)
        (omega (arith, old_sum, fits)) h

    its_slots : Agree new (place_of new (entry_of b)) o (place_of o (old_entry b)) (slot_size * slots_of o (old_entry b))
    its_slots =
        let w = old in
        let p = w.past in
        let i = w.inside in
        let k : ℕ = place_of o (old_entry b) - (head_size + table1.entry * n) in
        let x : head_size + entry_size * n + k ≡ place_of new (entry_of b) = omega (arith, place) in
        let y : head_size + table1.entry * n + k ≡ place_of o (old_entry b) = omega arith in
        rw (x, y) at (on slots_same k (slot_size * slots_of o (old_entry b)) (omega arith))

    records : records_of new (entry_of b) ≡ records_of o (old_entry b)
    records = ap (records_at new (place_of new (entry_of b))) (slots b h) ∙ records_agree (slots_of o (old_entry b)) its_slots

    small : (kind : ℕ) → cents_at o kind (old_entry b) < 18446744073709551616
    small kind = omega (arith, cents_most o (place_of o (old_entry b)) (slots_of o (old_entry b)) kind old.holds.body, old.own_form.most_slots)

    paid : kept 1 new (entry_of b) ≡ cents_of 1 (records_of o (old_entry b))
    paid = (written_kept (omega arith) head_size head_size n (head_size + entry_size * n) b written h).0 (small 1)

    collected : kept 2 new (entry_of b) ≡ cents_of 2 (records_of o (old_entry b))
    collected = (written_kept (omega arith) head_size head_size n (head_size + entry_size * n) b written h).1 (small 2)

    closed : closed_of new (entry_of b) ≡ 0
    closed = written_open (omega arith) head_size head_size n (head_size + entry_size * n) b written h

    holds : body_holds table2 new (entry_of b) ≡ true
    unfolding body_holds agrees
    holds =
        let x = ap (body_ok new (place_of new (entry_of b))) (slots b h) ∙ body_agree (slots_of o (old_entry b)) its_slots ∙ old.holds.body in
        let y = eq-eqb (kept 1 new (entry_of b)) (cents_of 1 (records_of new (entry_of b))) (paid ∙ ap (cents_of 1) (sym records)) in
        let z = eq-eqb (kept 2 new (entry_of b)) (cents_of 2 (records_of new (entry_of b))) (collected ∙ ap (cents_of 2) (sym records)) in
        let w = ap (λ (c : ℕ). all_later c (records_of new (entry_of b))) closed ∙ open_later new (place_of new (entry_of b)) (slots_of new (entry_of b)) 0 (omega arith) x in
        λ i. x i && (w i && (y i && z i))

  pub converted_valid : table_ok new ≡ true
  unfolding valid_as
  converted_valid =
      rw (new_head, codes, (table table1 o ok).distinct, number, layout) (bodies_each known_2 new head_size n holds)

  pub converts : Same o new
  converts = record {
    valid = converted_valid;
    long = converted_long o ok;
    fits = fits;
    bank = bank;
    number = number;
    codes = codes;
    slots = slots;
    records = records;
    paid = paid;
    collected = collected;
    closed = closed;
  }
