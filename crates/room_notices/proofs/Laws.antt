-- Laws of notices and totals in the training room: what fits, one line and one order at a time, then the ways out of the code over plain rooms.
use Rattle.std.specs.Prelude.{Option, Result, Some, None, Err}
use Prim.Native.Nat.{ℕ, zero, suc, ◌+◌, ◌*◌, ◌≤◌, ◌<◌}
use lib.IntN.{ℤ, pos, ◌-ℤ◌}
use mathlib.Core.Bool.{Bool, true, false, ◌&&◌, cond}
use mathlib.Core.List.{List, [], ◌∷◌}
use mathlib.Core.Path.{◌≡◌, refl, sym, ap, ◌∙◌}
use native.Mathlib.Omega.{arith}
use native.Mathlib.Numerals.{add-one}
use lib.ListN.{length, get_or, drop, drop_of_length-le}
use lib.Seq.{drop-cons}
use lib.Dec.{eqb, leb}
use borrow.Author.Tests.{leb-true, eq-eqb, ne_eqb}
use Rattle.std.specs.List.{list_all}
use Rattle.scan.proofs.Laws.{both}
use Rattle.bounds.specs.Bounds.{max_cents}
use Rattle.calendar.specs.declared.Date.{Date}
use Rattle.target_days.specs.Target.{target_code}
use Rattle.record.specs.declared.Record.{Record}
use Rattle.record.specs.declared.Key.{Key}
use Rattle.record.specs.Slot.{mandato_kind, reversale_kind}
use Rattle.slots.specs.Slots.{nth, no_record}
use Rattle.valid.specs.Valid.{executed_in, executed}
use Rattle.valid.proofs.Laws.{executed_more}
use Rattle.body.specs.Body.{cents_of}
use Rattle.rules.specs.Rules.{judge_notice}
use Rattle.rules.specs.Effects.{records_moved}
use Rattle.training.specs.Training.{Eight}
use Rattle.notices.specs.declared.NoticeRefusal.{NoticeRefusal}
use Rattle.notices.specs.declared.NoticeRefusal.TheVariants.{InvalidTable, WrongDay, UnknownBody}
use Rattle.notices.specs.declared.TotalsAnswer.{TotalsAnswer}
use Rattle.notices.specs.Notices.{noticed, totalled, zero_totals}
use Rattle.plain.specs.Plain.{Listed, Plain, body_in, numbered, with_orders, amounts_fit, fits}
use Rattle.plain.specs.Notices.{notice_on, list_on, notice_for, room_for, day_answer, day_room, NoticeLesson, list_totals, totals_for, TotalsLesson}

-- WHAT FITS

pub all_fit : (a : List ℕ) → list_all (λ x. leb x max_cents) a ≡ amounts_fit a
unfolding amounts_fit
all_fit [] = refl
all_fit (x ∷ a) = ap (λ (b : Bool). leb x max_cents && b) (all_fit a)

pub amount_low : (a : List ℕ) (k : ℕ) → amounts_fit a ≡ true → k < length a → get_or a k 0 ≤ max_cents
unfolding amounts_fit
amount_low [] k e h = absurd (omega arith)
amount_low (x ∷ a) zero e h = leb-true x max_cents (both (leb x max_cents) (amounts_fit a) e).0
amount_low (x ∷ a) (suc k) e h = amount_low a k (both (leb x max_cents) (amounts_fit a) e).1 (omega arith)

-- an order
abbrev pub order_fits : Record → Bool
order_fits r = leb r.lines 8 && amounts_fit r.amounts

-- the orders from i on
module _ (rs : List Record) (i : ℕ) {r : Record} (h : i < length rs) (q : r ≡ nth rs i) where
  front : drop i rs ≡ r ∷ drop (i + 1) rs
  front = drop-cons rs i no_record h ∙ (λ j. sym q j ∷ drop (sym (add-one i) j) rs)

  fits_from : {t x : Bool} → t ≡ order_fits r → t ≡ x → fits (drop i rs) ≡ (x && fits (drop (i + 1) rs))
  unfolding fits
  fits_from e z = ap fits front ∙ ap (λ (x : Bool). x && fits (drop (i + 1) rs)) (sym e ∙ z)

  pub fits_stop : {t : Bool} → t ≡ order_fits r → t ≡ false → fits (drop i rs) ≡ false
  fits_stop e z = fits_from e z

  pub fits_go : {t : Bool} → t ≡ order_fits r → t ≡ true → fits (drop i rs) ≡ fits (drop (i + 1) rs)
  fits_go e z = fits_from e z

  cents_from : (kind : ℕ) → cents_of kind (drop i rs) ≡ cond (eqb r.kind kind) (executed r) 0 + cents_of kind (drop (i + 1) rs)
  unfolding cents_of
  cents_from kind = ap (cents_of kind) front

pub fits_end : (rs : List Record) (i : ℕ) → length rs ≤ i → fits (drop i rs) ≡ true
unfolding fits
fits_end rs i h = ap fits (drop_of_length-le rs {i = i} h)

-- each order of a list that fits does
fits_at : (rs : List Record) (i : ℕ) → fits rs ≡ true → i < length rs → order_fits (nth rs i) ≡ true
unfolding fits
fits_at [] i e h = absurd (omega arith)
fits_at (r ∷ rs) zero e h = (both (order_fits r) (fits rs) e).0
fits_at (r ∷ rs) (suc i) e h = fits_at rs i (both (order_fits r) (fits rs) e).1 (omega arith)

pub eight : (rs : List Record) → fits rs ≡ true → Eight rs
eight rs e i h =
    leb-true (nth rs i).lines 8 (both (leb (nth rs i).lines 8) (amounts_fit (nth rs i).amounts) (fits_at rs i e h)).0

pub amounts_at : (rs : List Record) (i : ℕ) {r : Record} → fits rs ≡ true → i < length rs → r ≡ nth rs i → amounts_fit r.amounts ≡ true
amounts_at rs i e h q =
    ap (λ (x : Record). amounts_fit x.amounts) q ∙ (both (leb (nth rs i).lines 8) (amounts_fit (nth rs i).amounts) (fits_at rs i e h)).1

-- EXECUTED LINES of an order, from k on
module _ (s a : List ℕ) (k : ℕ) where
  pub lines_more : (cents : ℕ) {t : Bool} {c : ℕ} → k < length s → k < length a → executed_in s a ≡ cents + executed_in (drop k s) (drop k a) → t ≡ eqb (get_or s k 0) 2
      → c ≡ cond t (get_or a k 0) 0 → executed_in s a ≡ (cents + c) + executed_in (drop (k + 1) s) (drop (k + 1) a)
  lines_more cents {t} {c} h j e p q =
      let v : c ≡ cond (eqb (get_or s k 0) 2) (get_or a k 0) 0 = q ∙ ap (λ (b : Bool). cond b (get_or a k 0) 0) p in
      omega (arith, executed_more s a k h j)

  pub lines_end : length s ≤ k → executed_in (drop k s) (drop k a) ≡ 0
  unfolding executed_in
  lines_end h = ap (λ (x : List ℕ). executed_in x (drop k a)) (drop_of_length-le s {i = k} h)

-- of a body's orders of a kind: the cents of the first i
pub record Counted (rs : List Record) (kind i cents : ℕ) : Type 0 where
  pub few : cents ≤ 8 * max_cents * i
  pub all : cents_of kind rs ≡ cents + cents_of kind (drop i rs)

pub counted_none : (rs : List Record) (kind : ℕ) → Counted rs kind 0 0
counted_none rs kind = record { few = omega arith; all = omega arith }

module _ (rs : List Record) (kind i cents : ℕ) (g : Counted rs kind i cents) where
  pub counted_same : {r : Record} {c : ℕ} → i < length rs → r ≡ nth rs i → r.kind ≡ kind → (c ≡ executed r) × (c ≤ 8 * max_cents) → {cents' : ℕ} → cents' ≡ cents + c
      → Counted rs kind (i + 1) cents'
  counted_same {r} {c} h q k e z =
      let v : cond (eqb r.kind kind) (executed r) 0 ≡ executed r = ap (λ (b : Bool). cond b (executed r) 0) (eq-eqb r.kind kind k) in
      record { few = omega (arith, g.few, e.1); all = omega (arith, g.all, e.0, cents_from rs i h q kind) }

  pub counted_other : {r : Record} → i < length rs → r ≡ nth rs i → (r.kind ≡ kind → ⊥) → {cents' : ℕ} → cents' ≡ cents → Counted rs kind (i + 1) cents'
  counted_other {r} h q k z =
      let v : cond (eqb r.kind kind) (executed r) 0 ≡ 0 = ap (λ (b : Bool). cond b (executed r) 0) (ne_eqb r.kind kind k) in
      record { few = omega (arith, g.few); all = omega (arith, g.all, cents_from rs i h q kind) }

  pub counted_all : length rs ≤ i → cents ≡ cents_of kind rs
  unfolding cents_of
  counted_all h =
      let v : cents_of kind (drop i rs) ≡ 0 = ap (cents_of kind) (drop_of_length-le rs {i = i} h) in
      omega (arith, g.all)

-- A NOTICE on a body's list
module _ (x : Bool) (k : Key) (line : ℕ) (rs : List Record) {t : Bool} (e : t ≡ fits rs) where
  pub on_unfit : t ≡ false → (Err InvalidTable ≡ notice_on x k line rs) × (rs ≡ list_on x k line rs)
  on_unfit z = rw (sym e ∙ z) (refl, refl)

  pub on_fit : t ≡ true → {m : Result (ℕ × ℕ) ℕ} {a : Result ℕ NoticeRefusal} {rs' : List Record} → m ≡ judge_notice x k line rs → rs' ≡ records_moved x line rs m → a ≡ noticed m
      → (a ≡ notice_on x k line rs) × (rs' ≡ list_on x k line rs)
  on_fit z q s p = rw (sym e ∙ z) (p ∙ ap noticed q, s ∙ ap (records_moved x line rs) q)

-- for the body with a code
module _ (s : Plain) (x : Bool) (k : Key) (line : ℕ) (code : List ℕ) {f : Option ℕ} (e : f ≡ numbered s code) where
  pub for_none : f ≡ None → (Err UnknownBody ≡ notice_for s x k line (numbered s code)) × (s ≡ room_for s x k line (numbered s code))
  for_none g = (sym (ap (notice_for s x k line) (sym e ∙ g)), sym (ap (room_for s x k line) (sym e ∙ g)))

  pub for_at : {b : ℕ} {p : Listed} {a : Result ℕ NoticeRefusal} {rs' : List Record} {s' : Plain} → f ≡ Some b → p ≡ body_in s b
      → (a ≡ notice_on x k line p.orders) × (rs' ≡ list_on x k line p.orders) → s' ≡ with_orders s b rs'
      → (a ≡ notice_for s x k line (numbered s code)) × (s' ≡ room_for s x k line (numbered s code))
  for_at {b} g q n w = (
    n.0 ∙ ap (λ (l : Listed). notice_on x k line l.orders) q ∙ sym (ap (notice_for s x k line) (sym e ∙ g)),
    w ∙ ap (with_orders s b) (n.1 ∙ ap (λ (l : Listed). list_on x k line l.orders) q) ∙ sym (ap (room_for s x k line) (sym e ∙ g)),
  )

-- on a day
module _ (s : Plain) (x : Bool) (code : List ℕ) (k : Key) (line : ℕ) (d : Date) {c : ℕ} (e : c ≡ target_code d) where
  pub on_target : c ≡ 0 → {a : Result ℕ NoticeRefusal} {s' : Plain} → (a ≡ notice_for s x k line (numbered s code)) × (s' ≡ room_for s x k line (numbered s code))
      → NoticeLesson s x code k line d a s'
  on_target z n = rw (sym e ∙ z) n

  off_day : (c : ℕ) (a : Result ℕ NoticeRefusal) (s' : Plain) → (c ≡ 0 → ⊥) → (Err (WrongDay c) ≡ day_answer c a) × (s ≡ day_room c s s')
  off_day zero a s' h = absurd (h refl)
  off_day (suc c) a s' h = (refl, refl)

  pub off_target : (c ≡ 0 → ⊥) → NoticeLesson s x code k line d (Err (WrongDay c)) s
  off_target h = rw (← e) (off_day c _ _ h)

-- TOTALS
module _ (rs : List Record) {t : Bool} (e : t ≡ fits rs) where
  pub totals_unfit : t ≡ false → {a : TotalsAnswer} → a ≡ zero_totals 1 → a ≡ list_totals rs
  totals_unfit z p = rw (sym e ∙ z) p

  pub totals_fit : t ≡ true → {n paid collected : ℕ} {balance : ℤ} → n ≡ length rs → paid ≡ cents_of mandato_kind rs → collected ≡ cents_of reversale_kind rs
      → balance ≡ (pos collected -ℤ pos paid) → totalled 0 n paid collected balance ≡ list_totals rs
  totals_fit z {n} {paid} {collected} l p c b = rw (sym e ∙ z) (λ i. totalled 0 (l i) (p i) (c i) ((b ∙ (λ j. pos (c j) -ℤ pos (p j))) i))

pub totals_at : (s : Plain) (code : List ℕ) {f g : Option ℕ} {a : TotalsAnswer} → f ≡ numbered s code → f ≡ g → a ≡ totals_for s g → TotalsLesson s code a
totals_at s code e z p = p ∙ ap (totals_for s) (sym z ∙ e)
