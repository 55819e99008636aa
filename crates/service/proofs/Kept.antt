-- What an order leaves: a table as long as it was, the same bytes outside the body's slots, the body valid, and its cash as it was.
use Rattle.std.specs.Prelude.{Result, Some, None, Ok, Err}
use Prim.Native.Nat.{ℕ, ◌+◌, ◌*◌, ◌≤◌, ◌<◌}
use mathlib.Core.Bool.{true}
use mathlib.Core.List.{List, [], ◌∷◌, ◌++◌}
use mathlib.Core.Path.{◌≡◌, refl, sym, ap, subst, ◌∙◌}
use native.Mathlib.Omega.{arith}
use lib.ListN.{length}
use lib.Seq.{set_split}
use Rattle.words.specs.Numbers.{put}
use Rattle.words.proofs.Laws.{Agree, length_put}
use Rattle.order.specs.Ordinativo.{Ordinativo}
use Rattle.record.specs.declared.Record.{Record}
use Rattle.record.specs.Slot.{slot_size, record_at, record_bytes, key_of}
use Rattle.record.proofs.Back.{agree_before, agree_after, length_record}
use Rattle.slots.specs.Slots.{used_at, records_at, find_in, nth, no_record}
use Rattle.body.specs.Body.{body_ok, cents_of}
use Rattle.body.proofs.Puts.{records_set, keeps_ok, records_add, adds_ok}
use Rattle.slots.proofs.Search.{found_key}
use Rattle.slots.proofs.Index.{length_records}
use Rattle.body.proofs.Slots.{valid_at}
use Rattle.valid.proofs.Valid.{Valid}
use Rattle.body.proofs.State.{Within, within_on}
use Rattle.replacing.specs.Replacing.{namings, replace_code, replaced_by, lines_put}
use Rattle.replacing.proofs.Marks.{replaced_find, replaced_length}
use Rattle.replacing.proofs.Kept.{lines_within, lines_records}
use Rattle.rules.specs.declared.Change.{Change}
use Rattle.rules.specs.declared.Change.TheVariants.{Replace}
use Rattle.rules.specs.Rules.{key_for, judge_order, written}
use Rattle.rules.specs.Effects.{stored_at, besides, records_by, all_records}
use Rattle.rules.proofs.Judging.{Stands, inserting, replacing, varying, annulling, accepted}
use Rattle.rules.proofs.Kept.{Writable, Writables, none, more, written_valid, written_key}
use Rattle.service.specs.Service.{order_comes, besides_put, order_stored, order_leaves, all_leave}
use Rattle.slots.proofs.Held.{Held, held, search_held}
use Rattle.service.proofs.Laws.{order_low}
use Rattle.service.proofs.Worth.{stored_end, full_at, order_cash}

-- a call on a body of n slots from base on left t' of t
pub record Kept (t t' : List ℕ) (base n : ℕ) : Type 0 where
  pub long : length t' ≡ length t
  pub before : (p m : ℕ) → p + m ≤ base → Agree t' p t p m
  pub after : (p m : ℕ) → base + slot_size * n ≤ p → Agree t' p t p m
  pub ok : body_ok t' base n ≡ true
  pub cash : (kind : ℕ) → cents_of kind (records_at t' base n) ≡ cents_of kind (records_at t base n)

pub unchanged : (t : List ℕ) (base n : ℕ) → body_ok t base n ≡ true → Kept t t base n
unchanged t base n e = record { long = refl; before = λ p m h. record { same = λ i b. refl }; after = λ p m h. record { same = λ i b. refl }; ok = e; cash = λ kind. refl }

pub kept_on : {s t u : List ℕ} {base n : ℕ} → Kept s t base n → Kept t u base n → Kept s u base n
kept_on a b = record {
  long = b.long ∙ a.long;
  before = λ p m h. record { same = λ i l. (b.before p m h).same i l ∙ (a.before p m h).same i l };
  after = λ p m h. record { same = λ i l. (b.after p m h).same i l ∙ (a.after p m h).same i l };
  ok = b.ok;
  cash = λ kind. b.cash kind ∙ a.cash kind;
}

-- what is written within its slots, where the cash stays
pub within_kept : {t t' : List ℕ} {base n : ℕ} → Within t t' base n → ((kind : ℕ) → cents_of kind (records_at t' base n) ≡ cents_of kind (records_at t base n)) → Kept t t' base n
within_kept w c = record { long = w.long; before = w.before; after = w.after; ok = w.ok; cash = c }

-- a body's slot is written
pub slot_within : (t : List ℕ) (base n i : ℕ) (v : List ℕ) → length v ≡ slot_size → i < n → base + slot_size * n ≤ length t
    → body_ok (put t (base + slot_size * i) v) base n ≡ true → Within t (put t (base + slot_size * i) v) base n
slot_within t base n i v l h fits e = record {
  long = length_put t (base + slot_size * i) v (omega arith);
  before = λ p m k. agree_before t (base + slot_size * i) v p (omega arith) m (omega arith);
  after = λ p m k. agree_after t (base + slot_size * i) v p (omega arith) m (omega arith);
  ok = e;
}

module _ (t : List ℕ) (base n year : ℕ) (o : Ordinativo) (fits : base + slot_size * n ≤ length t) (ok : body_ok t base n ≡ true) (w : Writable o) (y : (2000 ≤ year) × (year ≤ 2099)) where
  abbrev rs : List Record
  rs = records_at t base n

  module _ (c : Change) (i : ℕ) (e : judge_order n year o rs ≡ Ok (c, i)) (low : i < n) where
    abbrev old : Record
    old = record_at t (base + slot_size * i)

    abbrev new : Record
    new = written year o old c

    -- the table beside its record
    abbrev beside : List ℕ
    beside = besides_put t base n o c

    abbrev after : List ℕ
    after = put beside (base + slot_size * i) (record_bytes new)

    holds : i < length rs → old ≡ nth rs i
    holds h = sym (held t base n i h).same

    valid : Valid new
    valid = written_valid n year o rs c i old e holds w y (λ h. valid_at t base n i ok (held t base n i h).used)

    key : key_of new ≡ key_for year o
    key = written_key n year o rs c i old e holds

    -- WHERE NOTHING IS REPLACED BESIDE IT
    abbrev alone : List ℕ
    alone = put t (base + slot_size * i) (record_bytes new)

    -- in place of its own record
    module _ (f : find_in rs 0 (key_for year o) ≡ Some i) where
      here : Held t base n i
      here = search_held t base n (key_for year o) refl f

      replaced_ok : body_ok alone base n ≡ true
      replaced_ok = keeps_ok t base n i new valid low fits here.used ok (key ∙ sym (ap key_of (sym here.same) ∙ found_key rs (key_for year o) i no_record f))

      replaced : records_at alone base n ≡ stored_at rs i new
      replaced = records_set t base n i new valid low fits here.used ∙ set_split rs i new (omega (arith, length_records t base n, here.used))

      same_old : old ≡ nth rs i
      same_old = sym here.same

    long : length (record_bytes new) ≡ slot_size
    long = length_record new valid.states valid.amounts

    -- WHERE THE NAMED LINES ARE REPLACED: the record follows the last one, of a body that is valid after them
    module _ (p : c ≡ Replace) (f : find_in rs 0 (key_for year o) ≡ None) (q : i ≡ length rs) (z : replace_code rs (namings o) ≡ 0) where
      abbrev marks : List ℕ
      marks = lines_put t base n (namings o)

      marks_within : Within t marks base n
      marks_within = lines_within t base n (namings o) z fits ok

      marks_records : records_at marks base n ≡ replaced_by rs (namings o)
      marks_records = lines_records t base n (namings o) z fits

      marks_fit : base + slot_size * n ≤ length marks
      marks_fit = omega (arith, marks_within.long)

      marks_used : used_at marks base n ≡ i
      marks_used = sym (q ∙ sym (replaced_length rs (namings o)) ∙ sym (ap length marks_records) ∙ length_records marks base n)

      marks_absent : find_in (records_at marks base n) 0 (key_of new) ≡ None
      marks_absent = ap (λ (l : List Record). find_in l 0 (key_of new)) marks_records ∙ replaced_find rs (namings o) 0 (key_of new) ∙ ap (find_in rs 0) key ∙ f

      marked_ok : body_ok (put marks (base + slot_size * i) (record_bytes new)) base n ≡ true
      marked_ok = adds_ok marks base n i new valid low marks_fit marks_used marks_within.ok marks_absent

      marked_records : records_at (put marks (base + slot_size * i) (record_bytes new)) base n ≡ stored_at (replaced_by rs (namings o)) i new
      marked_records =
          records_add marks base n i new valid low marks_fit marks_used marks_within.ok ∙ ap (λ (l : List Record). l ++ new ∷ []) marks_records
          ∙ sym (stored_end (replaced_by rs (namings o)) i new (q ∙ sym (replaced_length rs (namings o))))

      marked_within : Within t (put marks (base + slot_size * i) (record_bytes new)) base n
      marked_within = within_on marks_within (slot_within marks base n i (record_bytes new) long low marks_fit marked_ok)

    -- what it leaves
    record Left : Type 0 where
      within : Within t after base n
      records : records_at after base n ≡ records_by year o rs (Ok (c, i))

    -- a change that replaces nothing
    left_alone : beside ≡ t → besides c o rs ≡ rs → body_ok alone base n ≡ true → records_at alone base n ≡ stored_at rs i (written year o (nth rs i) c) → Left
    left_alone b d x z = record {
      within = rw b (slot_within t base n i (record_bytes new) long low fits x);
      records = ap (λ (s : List ℕ). records_at (put s (base + slot_size * i) (record_bytes new)) base n) b ∙ z ∙ ap (λ (l : List Record). stored_at l i (written year o (nth rs i) c)) (sym d);
    }

    left : Stands n year o rs c i → Left
    unfolding written
    left (inserting p f q l) =
        left_alone (ap (besides_put t base n o) p) (ap (λ (x : Change). besides x o rs) p)
        (adds_ok t base n i new valid low fits (omega (arith, length_records t base n)) ok (ap (find_in rs 0) key ∙ f))
        (records_add t base n i new valid low fits (omega (arith, length_records t base n)) ok ∙ sym (stored_end rs i new q) ∙ ap (stored_at rs i) (rw p))
    left (replacing p f q l z) = record {
      within = subst (λ (x : List ℕ). Within t (put x (base + slot_size * i) (record_bytes new)) base n) (sym (ap (besides_put t base n o) p)) (marked_within p f q z);
      records =
          ap (λ (x : Change). records_at (put (besides_put t base n o x) (base + slot_size * i) (record_bytes new)) base n) p ∙ marked_records p f q z
          ∙ ap (λ (l : List Record). stored_at l i new) (sym (ap (λ (x : Change). besides x o rs) p)) ∙ ap (stored_at (besides c o rs) i) (rw p);
    }
    left (varying p f a) =
        left_alone (ap (besides_put t base n o) p) (ap (λ (x : Change). besides x o rs) p) (replaced_ok f)
        (replaced f ∙ ap (λ (r : Record). stored_at rs i (written year o r c)) (same_old f))
    left (annulling p f a s) =
        left_alone (ap (besides_put t base n o) p) (ap (λ (x : Change). besides x o rs) p) (replaced_ok f)
        (replaced f ∙ ap (λ (r : Record). stored_at rs i (written year o r c)) (same_old f))

  kept_by : (j : Result (Change × ℕ) ℕ) → order_comes t base n year o ≡ j → Kept t (order_stored t base n year o j) base n
  unfolding order_comes order_stored
  kept_by (Ok (c, i)) e =
      let x = left c i e (order_low t base n year o c i e) (accepted n year o rs c i e) in
      within_kept x.within (λ kind. ap (cents_of kind) x.records ∙ order_cash n year o rs (full_at t base n) w.count.1 kind (Ok (c, i)) e)
  kept_by (Err code) e = unchanged t base n ok

  pub order_kept : Kept t (order_leaves t base n year o) base n
  order_kept = kept_by (order_comes t base n year o) refl

  records_by_lem : (j : Result (Change × ℕ) ℕ) → order_comes t base n year o ≡ j → records_at (order_stored t base n year o j) base n ≡ records_by year o rs j
  unfolding order_comes order_stored
  records_by_lem (Ok (c, i)) e = (left c i e (order_low t base n year o c i e) (accepted n year o rs c i e)).records
  records_by_lem (Err code) e = refl

  pub order_records : records_at (order_leaves t base n year o) base n ≡ records_by year o rs (judge_order n year o rs)
  unfolding order_comes
  order_records = records_by_lem (order_comes t base n year o) refl

-- ALL ORDERS OF A FLOW
pub all_kept : (t : List ℕ) (base n year : ℕ) (os : List Ordinativo) → base + slot_size * n ≤ length t → body_ok t base n ≡ true → Writables os → (2000 ≤ year) × (year ≤ 2099)
    → Kept t (all_leave t base n year os) base n
unfolding all_leave
all_kept t base n year [] fits ok none y = unchanged t base n ok
all_kept t base n year (o ∷ os) fits ok (more w ws) y =
    let k = order_kept t base n year o fits ok w y in
    kept_on k (all_kept (order_leaves t base n year o) base n year os (omega (arith, k.long)) k.ok ws y)

pub all_records_lem : (t : List ℕ) (base n year : ℕ) (os : List Ordinativo) → base + slot_size * n ≤ length t → body_ok t base n ≡ true → Writables os → (2000 ≤ year) × (year ≤ 2099)
    → records_at (all_leave t base n year os) base n ≡ all_records n year os (records_at t base n)
unfolding all_leave all_records
all_records_lem t base n year [] fits ok none y = refl
all_records_lem t base n year (o ∷ os) fits ok (more w ws) y =
    let k = order_kept t base n year o fits ok w y in
    all_records_lem (order_leaves t base n year o) base n year os (omega (arith, k.long)) k.ok ws y ∙ ap (all_records n year os) (order_records t base n year o fits ok w y)
