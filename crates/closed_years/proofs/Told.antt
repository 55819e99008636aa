-- A CLOSE IS REFUSED as document 02 says: exactly when a listed refusal applies, and with the code of the first in turn.
use Rattle.std.specs.Prelude.{Option, Result, Some, None as Nothing, Ok, Err}
use Prim.Native.Nat.{ℕ, ◌≤◌, ◌<◌}
use mathlib.Core.Path.{◌≡◌, refl, sym, ap, ◌∙◌, subst}
use mathlib.Core.Bool.{Bool, true, false, cond}
use mathlib.Core.List.{List}
use mathlib.Core.Logic.{◌⊎◌, inl, inr}
use native.Mathlib.Omega.{arith}
use lib.Dec.{eqb, leb}
use borrow.Author.Tests.{le-leb, leb-true, leb-false, eqb-true, eqb-false}
use Rattle.journal.specs.Told.{Exactly}
use Rattle.scan.proofs.Laws.{both}
use Rattle.bounds.specs.Bounds.{is_year}
use Rattle.record.specs.declared.Record.{Record}
use Rattle.packing.proofs.Packed.{clash}
use Rattle.entries.specs.Entry.{closed_of}
use Rattle.table.specs.Table.{table_ok, records_of, body_of, entry_of}
use Rattle.closing.specs.Closing.{earlier_remains, line_waits, removed}
use Rattle.year_end.specs.declared.CloseRefusal.{CloseRefusal}
use Rattle.year_end.specs.declared.CloseRefusal.TheVariants.{NotAYear, AlreadyClosed, EarlierRemains, LineWaits}
use Rattle.year_end.specs.YearEnd.{close_of, ClosePromise, close_code}
use Rattle.closed_years.specs.Told.{CloseApplies, no_year, not_later, earlier, waiting, close_turn, None, FirstOf, CloseTold, OneCode}
use Rattle.closed_years.proofs.Records.{earlier_is, is_earlier, line_is, is_line}
use Rattle.closed_years.proofs.Answers.{on_invalid, on_unknown, on_body}

pub year_is : (year : ℕ) → is_year year ≡ true → (2000 ≤ year) × (year ≤ 2099)
year_is year e = let w = both (leb 2000 year) (leb year 2099) e in (leb-true 2000 year w.0, leb-true year 2099 w.1)

is_year_lem : (year : ℕ) → (2000 ≤ year) × (year ≤ 2099) → is_year year ≡ true
is_year_lem year h = rw (le-leb 2000 year h.0, le-leb year 2099 h.1)

-- the code that has a turn
abbrev code_in : ℕ → ℕ
code_in n = cond (eqb n 1) 37 (cond (eqb n 2) 36 (cond (eqb n 3) 38 39))

-- A BODY
module _ (last year : ℕ) (rs : List Record) where
  abbrev A : ℕ → Type 0
  A = CloseApplies last year rs

  in_turn : {c : ℕ} → A c → code_in (close_turn c) ≡ c
  in_turn (no_year h) = refl
  in_turn (not_later h) = refl
  in_turn (earlier r m h) = refl
  in_turn (waiting r m p q k h) = refl

  pub over : {c : ℕ} → A c → 36 ≤ c
  over (no_year h) = omega arith
  over (not_later h) = omega arith
  over (earlier r m h) = omega arith
  over (waiting r m p q k h) = omega arith

  abbrev Says : Result ℕ CloseRefusal → Type 0
  Says a = ((close_code a ≡ 0) × None A) ⊎ FirstOf A (close_code a)

  -- what a refusal that applies comes to, where those of earlier turns don't
  module _ (w : is_year year ≡ true) where
    past_year : {c : ℕ} → A c → 2 ≤ close_turn c
    past_year (no_year h) = absurd (h (year_is year w))
    past_year (not_later h) = omega arith
    past_year (earlier r m h) = omega arith
    past_year (waiting r m p q k h) = omega arith

    module _ (x : leb year last ≡ false) where
      past_last : {c : ℕ} → A c → 3 ≤ close_turn c
      past_last (no_year h) = absurd (h (year_is year w))
      past_last (not_later h) = absurd (omega (arith, leb-false year last x))
      past_last (earlier r m h) = omega arith
      past_last (waiting r m p q k h) = omega arith

      module _ (y : earlier_remains year rs ≡ false) where
        past_earlier : {c : ℕ} → A c → 4 ≤ close_turn c
        past_earlier (no_year h) = absurd (h (year_is year w))
        past_earlier (not_later h) = absurd (omega (arith, leb-false year last x))
        past_earlier (earlier r m h) = clash (sym y ∙ is_earlier year rs r m h)
        past_earlier (waiting r m p q k h) = omega arith

        past_all : line_waits year rs ≡ false → {c : ℕ} → A c → ⊥
        past_all z (no_year h) = h (year_is year w)
        past_all z (not_later h) = omega (arith, leb-false year last x)
        past_all z (earlier r m h) = clash (sym y ∙ is_earlier year rs r m h)
        past_all z (waiting r m p q k h) = clash (sym z ∙ is_line year rs r m (record { of_year = p; acquired = q; line = k; waiting = h }))

  past_none : {c : ℕ} → A c → 1 ≤ close_turn c
  past_none (no_year h) = omega arith
  past_none (not_later h) = omega arith
  past_none (earlier r m h) = omega arith
  past_none (waiting r m p q k h) = omega arith

  says : Says (close_of last year rs)
  unfolding close_of
  says = go (is_year year) (leb year last) (earlier_remains year rs) (line_waits year rs) refl refl refl refl
    where
      go : (w x y z : Bool) → is_year year ≡ w → leb year last ≡ x → earlier_remains year rs ≡ y → line_waits year rs ≡ z
          → Says (cond w (cond x (Err AlreadyClosed) (cond y (Err EarlierRemains) (cond z (Err LineWaits) (Ok (removed year rs))))) (Err NotAYear))
      go false x y z e f g h = inr (no_year (λ q. clash (sym e ∙ is_year_lem year q)), λ c a. past_none a)
      go true true y z e f g h = inr (not_later (leb-true year last f), λ c a. past_year e a)
      go true false true z e f g h = let r = earlier_is year rs g in inr (earlier r.0 r.1 r.2, λ c a. past_last e f a)
      go true false false true e f g h =
          let r = line_is year rs h in
          inr (waiting r.0 r.1 r.2.of_year r.2.acquired r.2.line r.2.waiting, λ c a. past_earlier e f g a)
      go true false false false e f g h = inl (refl, λ c a. past_all e f g h a)

  -- of an answer that says so
  module _ (a : Result ℕ CloseRefusal) (s : Says a) where
    pub says_closed : Exactly (close_code a ≡ 0) (None A)
    says_closed = (λ z. to s z, λ n. from s n)
      where
        to : Says a → close_code a ≡ 0 → None A
        to (inl x) z = x.1
        to (inr x) z = absurd (omega (arith, over x.0))

        from : Says a → None A → close_code a ≡ 0
        from (inl x) n = x.0
        from (inr x) n = absurd (n (close_code a) x.0)

    pub says_refused : (c : ℕ) → (c ≡ 0 → ⊥) → Exactly (close_code a ≡ c) (FirstOf A c)
    says_refused c h = (λ e. to s e, λ x. from s x)
      where
        to : Says a → close_code a ≡ c → FirstOf A c
        to (inl x) e = absurd (h (sym e ∙ x.0))
        to (inr x) e = subst (FirstOf A) e x

        from : Says a → FirstOf A c → close_code a ≡ c
        from (inl x) y = absurd (x.1 c y.0)
        from (inr x) y =
            let q : close_turn (close_code a) ≡ close_turn c = omega (arith, x.1 c y.0, y.1 (close_code a) x.0) in
            sym (in_turn x.0) ∙ ap code_in q ∙ in_turn y.0

    pub says_low : close_code a < 36 → close_code a ≡ 0
    says_low l = go s
      where
        go : Says a → close_code a ≡ 0
        go (inl x) = x.0
        go (inr x) = absurd (omega (arith, over x.0))

-- A TABLE
module _ (t code : List ℕ) (year : ℕ) (a : Result ℕ CloseRefusal) (t' : List ℕ) (p : ClosePromise t code year a t') where
  says_at : table_ok t ≡ true → (b : ℕ) → body_of t code ≡ Some b → Says (closed_of t (entry_of b)) year (records_of t (entry_of b)) a
  says_at ok b f =
      subst (Says (closed_of t (entry_of b)) year (records_of t (entry_of b))) (sym (on_body t code year p ok b f).0) (says (closed_of t (entry_of b)) year (records_of t (entry_of b)))

  at_low : table_ok t ≡ true → (b : ℕ) → body_of t code ≡ Some b → close_code a < 36 → close_code a ≡ 0
  at_low ok b f = says_low (closed_of t (entry_of b)) year (records_of t (entry_of b)) a (says_at ok b f)

  to_invalid : close_code a ≡ 1 → table_ok t ≡ false
  to_invalid e = go (table_ok t) refl (body_of t code) refl
    where
      go : (x : Bool) → table_ok t ≡ x → (f : Option ℕ) → body_of t code ≡ f → table_ok t ≡ false
      go false o f q = o
      go true o Nothing q = absurd (omega (arith, ap close_code (on_unknown t code year p o q).0))
      go true o (Some b) q = absurd (omega (arith, at_low o b q (omega arith)))

  to_unknown : close_code a ≡ 7 → (table_ok t ≡ true) × (body_of t code ≡ Nothing)
  to_unknown e = go (table_ok t) refl (body_of t code) refl
    where
      go : (x : Bool) → table_ok t ≡ x → (f : Option ℕ) → body_of t code ≡ f → (table_ok t ≡ true) × (body_of t code ≡ Nothing)
      go false o f q = absurd (omega (arith, ap close_code (on_invalid t code year p o).0))
      go true o Nothing q = (o, q)
      go true o (Some b) q = absurd (omega (arith, at_low o b q (omega arith)))

pub close_told : CloseTold
close_told t code year a t' p = record {
  invalid = (to_invalid t code year a t' p, λ e. ap close_code (on_invalid t code year p e).0);
  unknown = (to_unknown t code year a t' p, λ w. ap close_code (on_unknown t code year p w.0 w.1).0);
  closed = λ ok b f. says_closed (closed_of t (entry_of b)) year (records_of t (entry_of b)) a (says_at t code year a t' p ok b f);
  refused = λ ok b f. says_refused (closed_of t (entry_of b)) year (records_of t (entry_of b)) a (says_at t code year a t' p ok b f);
}

-- THIS IS ALL OF IT
pub one_code : OneCode
one_code t code year a x p q = go (table_ok t) refl (body_of t code) refl
  where
    go : (y : Bool) → table_ok t ≡ y → (f : Option ℕ) → body_of t code ≡ f → close_code a ≡ close_code x
    go false o f w = p.invalid.1 o ∙ sym (q.invalid.1 o)
    go true o Nothing w = p.unknown.1 (o, w) ∙ sym (q.unknown.1 (o, w))
    go true o (Some b) w = at (eqb (close_code a) 0) refl
      where
        at : (y : Bool) → eqb (close_code a) 0 ≡ y → close_code a ≡ close_code x
        at true e = let z = eqb-true (close_code a) 0 e in z ∙ sym ((q.closed o b w).1 ((p.closed o b w).0 z))
        at false e = let n = eqb-false (close_code a) 0 e in sym ((q.refused o b w (close_code a) n).1 ((p.refused o b w (close_code a) n).0 refl))
