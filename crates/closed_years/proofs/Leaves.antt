-- WHAT A CLOSE LEAVES: of its body, of the others and of every byte beside; and that this is all of it.
use Rattle.std.specs.Prelude.{Option, Result, Some, None, Ok, Err}
use Prim.Native.Nat.{ℕ, ◌+◌, ◌-◌, ◌*◌, ◌≤◌, ◌<◌}
use mathlib.Core.Path.{◌≡◌, refl, sym, ap, ◌∙◌}
use mathlib.Core.Bool.{Bool, true, false, ◌||◌}
use mathlib.Core.List.{List}
use mathlib.Core.Logic.{⊎_elim}
use native.Mathlib.Omega.{arith}
use lib.ListN.{length, get_or}
use lib.Dec.{eqb}
use borrow.Author.Tests.{eqb-true, eqb-false}
use Rattle.words.proofs.Laws.{Agree, on, at_it}
use Rattle.record.specs.declared.Record.{Record}
use Rattle.record.specs.Slot.{slot_size}
use Rattle.valid.proofs.Moved.{split}
use Rattle.slots.specs.Slots.{records_at}
use Rattle.slots.proofs.Laws.{used_le}
use Rattle.slots.proofs.Index.{length_records}
use Rattle.ranges.specs.Ranges.{zeros}
use Rattle.body.specs.Body.{cents_of, all_later}
use Rattle.body.proofs.Slots.{parts}
use Rattle.body.proofs.Same.{fewer, records_agree, body_agree}
use Rattle.entries.specs.Entry.{entry_size, entry_fixed, closed_place, entry_rest, kept, closed_of, closed_ok, slots_of, place_of}
use Rattle.entries.proofs.Same.{zeros_agree, closed_agree}
use Rattle.entries.proofs.Codes.{codes_length}
use Rattle.table.specs.Table.{table2, head_size, bodies, records_of, table_ok, body_of, entry_of}
use Rattle.table.proofs.Laws.{valid_split}
use Rattle.table.proofs.Bodies.{body_at_lem, apart, found_body}
use Rattle.table.proofs.Kept.{Contents, Own, rest_agree, codes, same_abi, same_slots, same_place, same_table}
use Rattle.service.proofs.Totals.{agrees_is, is_agrees, kept_same}
use Rattle.address.proofs.Laws.{slots}
use Rattle.closing.specs.Closing.{keep, of_year, staying, removed}
use Rattle.closing.proofs.Removed.{removed_rest}
use Rattle.one_table.proofs.One.{one_table}
use Rattle.year_end.specs.declared.CloseRefusal.{CloseRefusal}
use Rattle.year_end.specs.declared.CloseRefusal.TheVariants.{InvalidTable, UnknownBody, NotAYear, AlreadyClosed, EarlierRemains, LineWaits}
use Rattle.year_end.specs.YearEnd.{close_of, body_closed, close_stored, close_code, close_reply}
use Rattle.year_end.specs.Inner.{Fits}
use Rattle.year_end.proofs.Laws.{slots_fit, May, closed_when}
use Rattle.year_end.proofs.Closed.{closed_long, closed_before, closed_between, closed_after, closed_ok_lem, closed_records, closed_agrees, closed_year, closed_later}
use Rattle.closed_years.specs.Leaves.{Beside, SameBody, Closes, Left, CloseLeaves, OneClose}
use Rattle.closed_years.proofs.Records.{parted, parted_one}
use Rattle.closed_years.proofs.Answers.{addressed_at, on_invalid, on_unknown, on_body}
use Rattle.closed_years.proofs.Told.{year_is}

or_true : (b : Bool) {c : Bool} → c ≡ true → b || c ≡ true
or_true true e = refl
or_true false e = e

-- THE YEAR CLOSED in body b of a valid table, where nothing stands against it
module _ (t code : List ℕ) (ok : table_ok t ≡ true) (b : ℕ) (f : body_of t code ≡ Some b) (year k : ℕ)
    (m : May (closed_of t (entry_of b)) year (records_of t (entry_of b)) k) where
  abbrev e : ℕ
  e = entry_of b

  abbrev p : ℕ
  p = place_of t (entry_of b)

  abbrev n : ℕ
  n = slots_of t (entry_of b)

  abbrev u : List ℕ
  u = body_closed t (entry_of b) (place_of t (entry_of b)) (slots_of t (entry_of b)) year

  low : b < bodies t
  low = found_body t ok code b f

  fits : Fits t e p n
  fits = slots_fit (slots t code (addressed_at t code ok b f))

  small : year < 65536
  small = omega (arith, year_is year m.a_year)

  long : length u ≡ length t
  long = closed_long t e p n year fits

  past : head_size + entry_size * bodies t ≤ p
  past = (body_at_lem t ok b low).past

  in_table : (c : ℕ) → c < bodies t → entry_of c + entry_size ≤ length t
  in_table c l = let w = body_at_lem t ok c l in omega (arith, w.past, w.inside)

  -- the head and the fixed bytes of all entries
  contents : Contents u t
  contents = record {
    long = long;
    top = closed_before t e p n year fits 0 head_size (omega arith);
    entries = λ c l.
        split b c (λ x. closed_between t e p n year fits (entry_of c) entry_fixed (omega arith) (omega (arith, past)))
        (λ x. closed_before t e p n year fits (entry_of c) entry_fixed (omega arith));
  }

  -- another body's own bytes
  module _ (c : ℕ) (l : c < bodies t) (ne : c ≡ b → ⊥) where
    tail_same : Agree u (entry_of c + entry_fixed) t (entry_of c + entry_fixed) (entry_size - entry_fixed)
    tail_same =
        split b c (λ x. closed_between t e p n year fits (entry_of c + entry_fixed) (entry_size - entry_fixed) (omega arith) (omega (arith, past)))
        (λ x. closed_before t e p n year fits (entry_of c + entry_fixed) (entry_size - entry_fixed) (omega (arith, ne)))

    past_kept : Agree u (entry_of c + closed_place) t (entry_of c + closed_place) (entry_size - closed_place)
    past_kept = let q : entry_of c + closed_place ≡ entry_of c + entry_fixed + 16 = omega arith in rw q (on tail_same 16 8 (omega arith))

    slots_same : Agree u (place_of t (entry_of c)) t (place_of t (entry_of c)) (slot_size * slots_of t (entry_of c))
    slots_same =
        ⊎_elim (λ x. closed_after t e p n year fits (place_of t (entry_of c)) (slot_size * slots_of t (entry_of c)) x)
        (λ x. closed_between t e p n year fits (place_of t (entry_of c)) (slot_size * slots_of t (entry_of c)) (omega (arith, low, (body_at_lem t ok c l).past)) x)
        (apart t ok b c (λ z. ne (sym z)) low l)

    records_same : records_at u (place_of t (entry_of c)) (slots_of t (entry_of c)) ≡ records_of t (entry_of c)
    records_same = records_agree (slots_of t (entry_of c)) slots_same

    totals_same : (kept 1 u (entry_of c) ≡ kept 1 t (entry_of c)) × (kept 2 u (entry_of c) ≡ kept 2 t (entry_of c))
    totals_same = kept_same (entry_of c) (fewer tail_same 16 (omega arith))

    year_same : closed_of u (entry_of c) ≡ closed_of t (entry_of c)
    year_same = closed_agree (entry_of c) (entry_of c) (fewer past_kept 2 (omega arith))

    own_other : Own u t (entry_of c)
    own_other =
        let h = body_at_lem t ok c l in
        let w = agrees_is t (entry_of c) (records_of t (entry_of c)) (h.holds.kept refl) in
        record {
          body = body_agree (slots_of t (entry_of c)) slots_same ∙ h.holds.body;
          kept =
              is_agrees u (entry_of c) (records_at u (place_of t (entry_of c)) (slots_of t (entry_of c)))
              (totals_same.0 ∙ w.0 ∙ ap (cents_of 1) (sym records_same)) (totals_same.1 ∙ w.1 ∙ ap (cents_of 2) (sym records_same));
          later = (λ i. all_later (year_same i) (records_same i)) ∙ h.holds.later;
          rest = rest_agree (entry_of c) past_kept (omega (arith, long, in_table c l)) (in_table c l) (record { year = h.own_entry.closed; zero = h.own_entry.padded });
        }

    same_body : SameBody t u c
    same_body = record {
      records = (λ i. records_at u (same_place contents ok c l i) (same_slots contents ok c l i)) ∙ records_same;
      paid = totals_same.0;
      collected = totals_same.1;
      closed = year_same;
    }

  -- its own
  own : Own u t e
  own = record {
    body = closed_ok_lem t e p n year fits;
    kept = closed_agrees t e p n year fits;
    later = closed_later t e p n year fits small m.none_earlier;
    rest = record {
      year = ap (λ (x : ℕ). closed_ok x) (closed_year t e p n year fits small) ∙ or_true (eqb year 0) m.a_year;
      zero =
          zeros_agree (closed_between t e p n year fits (e + entry_rest) 6 (omega arith) (omega (arith, fits.entry))) 0 6 (omega arith)
          (e + entry_rest) (e + entry_size) (e + entry_rest) (e + entry_size) (omega arith) (omega arith) (omega arith) (omega arith)
          (omega (arith, long, in_table b low)) (in_table b low)
          ∙ (body_at_lem t ok b low).own_entry.padded;
    };
  }

  valid : table_ok u ≡ true
  valid = same_table contents ok (λ c l. go c l (eqb c b) refl)
    where
      go : (c : ℕ) → c < bodies t → (x : Bool) → eqb c b ≡ x → Own u t (entry_of c)
      go c l true q = rw (eqb-true c b q) own
      go c l false q = own_other c l (eqb-false c b q)

  place_is : place_of u e ≡ p
  place_is = same_place contents ok b low

  slots_are : slots_of u e ≡ n
  slots_are = same_slots contents ok b low

  records_at_lem : records_of u e ≡ records_at u p n
  records_at_lem i = records_at u (place_is i) (slots_are i)

  records_are : records_of u e ≡ staying year (records_of t e)
  records_are = records_at_lem ∙ closed_records t e p n year fits

  together : k + length (records_of u e) ≡ length (records_of t e)
  together = omega (arith, m.count, ap (λ (rs : List Record). length rs) records_are, removed_rest year (records_of t e))

  totals : (kept 1 u e ≡ cents_of 1 (records_of u e)) × (kept 2 u e ≡ cents_of 2 (records_of u e))
  totals =
      let w = agrees_is u e (records_at u p n) (closed_agrees t e p n year fits) in
      (w.0 ∙ ap (cents_of 1) (sym records_at_lem), w.1 ∙ ap (cents_of 2) (sym records_at_lem))

  empty_after : zeros u (place_of u e + slot_size * length (records_of u e)) (place_of u e + slot_size * slots_of u e) ≡ true
  empty_after =
      let l : length (records_of u e) ≡ _ = ap (λ (rs : List Record). length rs) records_at_lem ∙ length_records u p n in
      (λ i. zeros u (place_is i + slot_size * l i) (place_is i + slot_size * slots_are i)) ∙ (parts u p n (closed_ok_lem t e p n year fits)).empty

  untouched : (i : ℕ) → Beside t b i → get_or u i 0 ≡ get_or t i 0
  untouched i s =
      split i (e + entry_fixed) (λ x. at_it (closed_before t e p n year fits i 1 (omega arith)) (omega arith))
      (λ x. split i (e + entry_rest) (λ y. absurd (s.entry x y))
      (λ y. split i p (λ z. at_it (closed_between t e p n year fits i 1 y (omega arith)) (omega arith))
      (λ z. split i (p + slot_size * n) (λ w. absurd (s.slots z w)) (λ w. at_it (closed_after t e p n year fits i 1 w) (omega arith)))))

  pub closes : Closes t b year k (body_closed t (entry_of b) (place_of t (entry_of b)) (slots_of t (entry_of b)) year)
  closes = record {
    gone = keep (of_year year) (records_of t e);
    records = rw records_are (parted year (records_of t e));
    count = m.count;
    together = together;
    closed = closed_year t e p n year fits small;
    paid = totals.0;
    collected = totals.1;
    freed = omega (arith, together, length_records t p n, used_le t p n, slots_are);
    empty = empty_after;
    valid = valid;
    long = long;
    bank = same_abi contents ok;
    codes = codes contents (valid_split table2 t ok).0;
    slots = same_slots contents ok;
    others = same_body;
    beside = untouched;
  }

-- OF EVERY CLOSE
abbrev stored_by : List ℕ → ℕ → ℕ → Result ℕ CloseRefusal → List ℕ
stored_by t b year a = close_stored t (entry_of b) (place_of t (entry_of b)) (slots_of t (entry_of b)) year a

not_taken : (t : List ℕ) (b year : ℕ) (a : Result ℕ CloseRefusal) → (close_code a ≡ 0 → ⊥) → (stored_by t b year a ≡ t) × ((close_reply a).removed ≡ 0)
not_taken t b year (Ok k) h = absurd (h refl)
not_taken t b year (Err InvalidTable) h = (refl, refl)
not_taken t b year (Err UnknownBody) h = (refl, refl)
not_taken t b year (Err NotAYear) h = (refl, refl)
not_taken t b year (Err AlreadyClosed) h = (refl, refl)
not_taken t b year (Err EarlierRemains) h = (refl, refl)
not_taken t b year (Err LineWaits) h = (refl, refl)

is_taken : (t code : List ℕ) → table_ok t ≡ true → (b : ℕ) → body_of t code ≡ Some b → (year : ℕ) (a : Result ℕ CloseRefusal)
    → close_of (closed_of t (entry_of b)) year (records_of t (entry_of b)) ≡ a → close_code a ≡ 0 → Closes t b year (close_reply a).removed (stored_by t b year a)
is_taken t code ok b f year (Ok k) q z = closes t code ok b f year k (closed_when (closed_of t (entry_of b)) year (records_of t (entry_of b)) k q)
is_taken t code ok b f year (Err InvalidTable) q z = absurd (omega arith)
is_taken t code ok b f year (Err UnknownBody) q z = absurd (omega arith)
is_taken t code ok b f year (Err NotAYear) q z = absurd (omega arith)
is_taken t code ok b f year (Err AlreadyClosed) q z = absurd (omega arith)
is_taken t code ok b f year (Err EarlierRemains) q z = absurd (omega arith)
is_taken t code ok b f year (Err LineWaits) q z = absurd (omega arith)

pub close_leaves : CloseLeaves
close_leaves t code year a t' w = go (table_ok t) refl (body_of t code) refl
  where
    go : (x : Bool) → table_ok t ≡ x → (f : Option ℕ) → body_of t code ≡ f → Left t code year a t'
    go false o f q =
        let y = on_invalid t code year w o in
        record { taken = λ z. absurd (omega (arith, ap close_code y.0)); refused = λ h. (y.1, ap (λ (c : Result ℕ CloseRefusal). (close_reply c).removed) y.0) }
    go true o None q =
        let y = on_unknown t code year w o q in
        record { taken = λ z. absurd (omega (arith, ap close_code y.0)); refused = λ h. (y.1, ap (λ (c : Result ℕ CloseRefusal). (close_reply c).removed) y.0) }
    go true o (Some b) q =
        let y = on_body t code year w o b q in
        let s : t' ≡ stored_by t b year a = y.1 ∙ ap (stored_by t b year) (sym y.0) in
        record {
          taken = λ z. (b, q, rw s (is_taken t code o b q year a (sym y.0) z));
          refused = λ h. let v = not_taken t b year a h in (s ∙ v.0, v.1);
        }

-- THIS IS ALL OF IT
pub one_close : OneClose
one_close t b year k j u v bu bv x y =
    let w = parted_one x.records y.records in (
      x.count ∙ ap length w.0 ∙ sym y.count,
      one_table u v bu bv x.valid y.valid (record {
        bank = x.bank ∙ sym y.bank;
        codes = x.codes ∙ sym y.codes;
        slots = λ c l. x.slots c (omega (arith, number)) ∙ sym (y.slots c (omega (arith, number)));
        records = λ c l. records c (omega (arith, number)) w.1 (eqb c b) refl;
        closed = λ c l. years c (omega (arith, number)) (eqb c b) refl;
      }),
    )
  where
    number : bodies u ≡ bodies t
    number = sym (codes_length entry_size u head_size (bodies u)) ∙ ap length x.codes ∙ codes_length entry_size t head_size (bodies t)

    records : (c : ℕ) → c < bodies t → records_of u (entry_of b) ≡ records_of v (entry_of b) → (z : Bool) → eqb c b ≡ z → records_of u (entry_of c) ≡ records_of v (entry_of c)
    records c l h true q = rw (eqb-true c b q) h
    records c l h false q = let ne = eqb-false c b q in (x.others c l ne).records ∙ sym (y.others c l ne).records

    years : (c : ℕ) → c < bodies t → (z : Bool) → eqb c b ≡ z → closed_of u (entry_of c) ≡ closed_of v (entry_of c)
    years c l true q = rw (eqb-true c b q) (x.closed ∙ sym y.closed)
    years c l false q = let ne = eqb-false c b q in (x.others c l ne).closed ∙ sym (y.others c l ne).closed
