-- Laws of a close, a way out of the code at a time.
use Rattle.std.proofs.lemmas.Option.{some_pair_parts}
use Rattle.std.specs.Prelude.{Option, Result, Some, None, Ok, Err}
use Prim.Native.Nat.{ℕ, ◌+◌, ◌≤◌, ◌<◌}
use mathlib.Core.Path.{◌≡◌, refl, sym, ap, ◌∙◌}
use mathlib.Core.Bool.{Bool, true, false, cond}
use mathlib.Core.List.{List}
use native.Mathlib.Omega.{arith}
use lib.ListN.{length}
use lib.Dec.{leb}
use borrow.Author.Tests.{le-leb, lt-leb, leb-false}
use Rattle.bounds.specs.Bounds.{is_year}
use Rattle.words.specs.Numbers.{put, bytes2}
use Rattle.record.specs.declared.Record.{Record}
use Rattle.slots.specs.Slots.{records_at}
use Rattle.body.specs.Body.{body_ok, cents_of}
use Rattle.body.specs.Inner.{summed}
use Rattle.entries.specs.Entry.{entry_fixed, closed_place, kept_bytes, closed_of}
use Rattle.service.specs.Service.{settled}
use Rattle.packing.proofs.Packed.{packed_long}
use Rattle.closing.specs.Closing.{earlier_remains, line_waits, removed, stays_at, year_removed}
use Rattle.closing.proofs.Removed.{removed_records, removed_ok, length_open}
use Rattle.address.specs.declared.NoBody.TheVariants.{Invalid, Unknown}
use Rattle.address.specs.Address.{addressed}
use Rattle.address.proofs.Laws.{Slots}
use Rattle.year_end.specs.declared.CloseRefusal.{CloseRefusal}
use Rattle.year_end.specs.declared.CloseRefusal.TheVariants.{InvalidTable, UnknownBody, NotAYear, AlreadyClosed, EarlierRemains, LineWaits}
use Rattle.year_end.specs.YearEnd.{close_of, body_closed, close_stored, close_by, close_table_by, ClosePromise}
use Rattle.year_end.specs.Inner.{Fits}

-- a body that a code names
pub slots_fit : {t : List ℕ} {e base n : ℕ} → Slots t e base n → Fits t e base n
slots_fit s = record { entry = s.entry; inside = s.inside; few = s.few; valid = s.valid }

-- TOTALS SET ANEW, by the judged sums
module _ (t : List ℕ) (base n : ℕ) (ok : body_ok t base n ≡ true) where
  pub sums_broken : summed (body_ok t base n) (records_at t base n) ≡ None → ⊥
  sums_broken e =
      let d : ◌≡◌ {A = Option (ℕ × ℕ)} (Some ((cents_of 1 (records_at t base n)), (cents_of 2 (records_at t base n)))) (None) = sym (ap (λ (b : Bool). summed b (records_at t base n)) ok) ∙ e in
      let z : ◌≡◌ {A = ℕ} 0 1 = cc in
      omega arith

  pub sums_right : {p q : ℕ} → summed (body_ok t base n) (records_at t base n) ≡ Some (p, q) → (p ≡ cents_of 1 (records_at t base n)) × (q ≡ cents_of 2 (records_at t base n))
  sums_right {p} {q} e =
      let a = cents_of 1 (records_at t base n) in
      let b = cents_of 2 (records_at t base n) in
      let d = some_pair_parts a p b q (sym (ap (λ (x : Bool). summed x (records_at t base n)) ok) ∙ e) in
      (sym d.0, sym d.1)

pub settled_with : (t t' : List ℕ) (e : ℕ) (rs : List Record) {p q : ℕ} → (p ≡ cents_of 1 rs) × (q ≡ cents_of 2 rs) → t' ≡ put t (e + entry_fixed) (kept_bytes p q) → t' ≡ settled t e rs
unfolding settled
settled_with t t' e rs w g = g ∙ (λ i. put t (e + entry_fixed) (kept_bytes (w.0 i) (w.1 i)))

-- THE BODY WITHOUT THE YEAR'S RECORDS still fits
module _ (t : List ℕ) (e base n year : ℕ) (F : Fits t e base n) where
  pub removed_long : length (year_removed t base n year) ≡ length t
  removed_long = packed_long t base (stays_at t base n year) (omega (arith, length_open t base n year, F.inside))

  pub removed_fits : Fits (year_removed t base n year) e base n
  removed_fits = record {
    entry = F.entry;
    inside = omega (arith, removed_long, F.inside);
    few = F.few;
    valid = removed_ok t base n year F.inside F.valid;
  }

  pub closed_by : (t₁ t₂ t₃ : List ℕ) → t₁ ≡ year_removed t base n year → t₂ ≡ settled t₁ e (records_at t₁ base n) → t₃ ≡ put t₂ (e + closed_place) (bytes2 year)
      → t₃ ≡ body_closed t e base n year
  unfolding body_closed
  closed_by t₁ t₂ t₃ a b c =
      c ∙ ap (λ (s : List ℕ). put s (e + closed_place) (bytes2 year))
      (b ∙ (λ i. settled (a i) e (records_at (a i) base n)) ∙ ap (settled (year_removed t base n year) e) (removed_records t base n year F.inside F.valid))

-- THE ANSWER, for a body
module _ (last year : ℕ) (rs : List Record) where
  pub too_early : year < 2000 → Err NotAYear ≡ close_of last year rs
  unfolding close_of
  too_early h = rw (lt-leb 2000 year h)

  pub too_late : 2000 ≤ year → 2099 < year → Err NotAYear ≡ close_of last year rs
  unfolding close_of
  too_late l h = rw (le-leb 2000 year l, lt-leb year 2099 h)

  module _ (l : 2000 ≤ year) (h : year ≤ 2099) where
    pub no_later : year ≤ last → Err AlreadyClosed ≡ close_of last year rs
    unfolding close_of
    no_later a = rw (le-leb 2000 year l, le-leb year 2099 h, le-leb year last a)

    module _ (a : last < year) where
      pub earlier_there : earlier_remains year rs ≡ true → Err EarlierRemains ≡ close_of last year rs
      unfolding close_of
      earlier_there e = rw (le-leb 2000 year l, le-leb year 2099 h, lt-leb year last a, e)

      module _ (e : earlier_remains year rs ≡ false) where
        pub line_there_lem : line_waits year rs ≡ true → Err LineWaits ≡ close_of last year rs
        unfolding close_of
        line_there_lem w = rw (le-leb 2000 year l, le-leb year 2099 h, lt-leb year last a, e, w)

        pub may_close : line_waits year rs ≡ false → Ok (removed year rs) ≡ close_of last year rs
        unfolding close_of
        may_close w = rw (le-leb 2000 year l, le-leb year 2099 h, lt-leb year last a, e, w)

-- it is one of these
pub close_one : (P : Result ℕ CloseRefusal → Type 0) (last year : ℕ) (rs : List Record)
    → P (Err NotAYear) → P (Err AlreadyClosed) → P (Err EarlierRemains) → P (Err LineWaits) → P (Ok (removed year rs)) → P (close_of last year rs)
unfolding close_of
close_one P last year rs a b c d e = go (is_year year) (leb year last) (earlier_remains year rs) (line_waits year rs)
  where
    go : (w x y z : Bool) → P (cond w (cond x (Err AlreadyClosed) (cond y (Err EarlierRemains) (cond z (Err LineWaits) (Ok (removed year rs))))) (Err NotAYear))
    go false x y z = a
    go true true y z = b
    go true false true z = c
    go true false false true = d
    go true false false false = e

-- and where it closes the year, nothing stands against it
pub record May (last year : ℕ) (rs : List Record) (k : ℕ) : Type 0 where
  pub a_year : is_year year ≡ true
  pub newer : last < year
  pub none_earlier : earlier_remains year rs ≡ false
  pub none_waits : line_waits year rs ≡ false
  pub count : k ≡ removed year rs

pub closed_when : (last year : ℕ) (rs : List Record) (k : ℕ) → close_of last year rs ≡ Ok k → May last year rs k
unfolding close_of
closed_when last year rs k = go (is_year year) (leb year last) (earlier_remains year rs) (line_waits year rs) refl refl refl refl
  where
    go : (w x y z : Bool) → is_year year ≡ w → leb year last ≡ x → earlier_remains year rs ≡ y → line_waits year rs ≡ z
        → cond w (cond x (Err AlreadyClosed) (cond y (Err EarlierRemains) (cond z (Err LineWaits) (Ok (removed year rs))))) (Err NotAYear) ≡ Ok k → May last year rs k
    go false x y z a b c d e = let q : ◌≡◌ {A = ℕ} 0 1 = cc in absurd (omega arith)
    go true true y z a b c d e = let q : ◌≡◌ {A = ℕ} 0 1 = cc in absurd (omega arith)
    go true false true z a b c d e = let q : ◌≡◌ {A = ℕ} 0 1 = cc in absurd (omega arith)
    go true false false true a b c d e = let q : ◌≡◌ {A = ℕ} 0 1 = cc in absurd (omega arith)
    go true false false false a b c d e =
        record { a_year = a; newer = leb-false year last b; none_earlier = c; none_waits = d; count = let q : removed year rs ≡ k = cc in sym q }

-- and for a table
module _ (t code : List ℕ) (year : ℕ) where
  pub no_table : addressed t code ≡ Err Invalid → ClosePromise t code year (Err InvalidTable) t
  unfolding close_by close_table_by
  no_table e = (sym (ap (close_by t year) e), sym (ap (close_table_by t year) e))

  pub no_body : addressed t code ≡ Err Unknown → ClosePromise t code year (Err UnknownBody) t
  unfolding close_by close_table_by
  no_body e = (sym (ap (close_by t year) e), sym (ap (close_table_by t year) e))

  pub closed_at : {e base n : ℕ} {a : Result ℕ CloseRefusal} {u : List ℕ} → addressed t code ≡ Ok (e, base, n) → a ≡ close_of (closed_of t e) year (records_at t base n)
      → u ≡ close_stored t e base n year a → ClosePromise t code year a u
  unfolding close_by close_table_by
  closed_at {e} {base} {n} q f g = (f ∙ sym (ap (close_by t year) q), g ∙ ap (close_stored t e base n year) f ∙ sym (ap (close_table_by t year) q))
