-- What a close tests and parts, said of the records themselves.
use Prim.Native.Nat.{ℕ, zero, suc, ◌<◌}
use mathlib.Core.Path.{◌≡◌, refl, sym, ap, ◌∙◌}
use mathlib.Core.Bool.{Bool, true, false, ◌||◌, not, cond}
use mathlib.Core.List.Memᴰ
use mathlib.Core.List.{List, [], ◌∷◌, Memᴰ}
use mathlib.Core.Logic.{◌⊎◌, inl, inr}
use native.Mathlib.Omega.{arith}
use lib.ListN.{get_or}
use lib.Dec.{eqb, ltb}
use borrow.Author.Tests.{eq-eqb, ltb-true, lt-ltb, eqb-true, eqb-false}
use Rattle.scan.proofs.Laws.{both}
use Rattle.record.specs.declared.Record.{Record}
use Rattle.record.specs.Slot.{acquired_state, waiting_line}
use Rattle.body.specs.Body.{all_later}
use Rattle.closing.specs.Closing.{any, keep, of_year, of_earlier, earlier_remains, any_waiting, waits, line_waits, staying}
use Rattle.packing.proofs.Packed.{clash}
use Rattle.closed_years.specs.Leaves.{Parted, none, goes, stays}

-- ONE OF THE RECORDS passes a test, or none does
module _ (p : Record → Bool) where
  any_is : (rs : List Record) → any p rs ≡ true → (r : Record) × Memᴰ r rs × (p r ≡ true)
  unfolding any
  any_is [] e = clash e
  any_is (x ∷ rs) e = go (p x) refl e (any_is rs)
    where
      go : (b : Bool) → p x ≡ b → (b || any p rs) ≡ true → (any p rs ≡ true → (r : Record) × Memᴰ r rs × (p r ≡ true))
          → (r : Record) × Memᴰ r (x ∷ rs) × (p r ≡ true)
      go true f q later = (x, Memᴰ.head refl, f)
      go false f q later = let w = later q in (w.0, Memᴰ.tail w.1, w.2)

  is_any : (rs : List Record) (r : Record) → Memᴰ r rs → p r ≡ true → any p rs ≡ true
  unfolding any
  is_any [] r m e = absurd (Memᴰ.not-nil m)
  is_any (x ∷ rs) r m e = go (p x) refl (Memᴰ.cases_cons m) (λ n. is_any rs r n e)
    where
      go : (b : Bool) → p x ≡ b → (r ≡ x) ⊎ Memᴰ r rs → (Memᴰ r rs → any p rs ≡ true) → (b || any p rs) ≡ true
      go true f w later = refl
      go false f (inl q) later = clash (sym f ∙ ap p (sym q) ∙ e)
      go false f (inr n) later = later n

-- "a record of an earlier year remains"
module _ (year : ℕ) (rs : List Record) where
  pub earlier_is : earlier_remains year rs ≡ true → (r : Record) × Memᴰ r rs × (r.esercizio < year)
  earlier_is e = let w = any_is (of_earlier year) rs e in (w.0, w.1, ltb-true _ _ w.2)

  pub is_earlier : (r : Record) → Memᴰ r rs → r.esercizio < year → earlier_remains year rs ≡ true
  is_earlier r m l = is_any (of_earlier year) rs r m (lt-ltb r.esercizio year l)

-- "has a waiting line"
waiting_is : (states : List ℕ) → any_waiting states ≡ true → (k : ℕ) × (get_or states k 0 ≡ waiting_line)
unfolding any_waiting
waiting_is [] e = clash e
waiting_is (s ∷ states) e = go (eqb s waiting_line) refl e (waiting_is states)
  where
    go : (b : Bool) → eqb s waiting_line ≡ b → (b || any_waiting states) ≡ true → (any_waiting states ≡ true → (k : ℕ) × (get_or states k 0 ≡ waiting_line))
        → (k : ℕ) × (get_or (s ∷ states) k 0 ≡ waiting_line)
    go true f q later = (0, eqb-true s waiting_line f)
    go false f q later = let w = later q in (suc w.0, w.1)

is_waiting : (states : List ℕ) (k : ℕ) → get_or states k 0 ≡ waiting_line → any_waiting states ≡ true
unfolding any_waiting
is_waiting [] k e = absurd (omega arith)
is_waiting (s ∷ states) zero e = ap (λ (b : Bool). b || any_waiting states) (eq-eqb s waiting_line e)
is_waiting (s ∷ states) (suc k) e = go (eqb s waiting_line) (is_waiting states k e)
  where
    go : (b : Bool) → any_waiting states ≡ true → (b || any_waiting states) ≡ true
    go true q = refl
    go false q = q

-- "an acquired order of that year has a waiting line"
pub record Waits (year : ℕ) (r : Record) : Type 0 where
  pub of_year : r.esercizio ≡ year
  pub acquired : r.state ≡ acquired_state
  pub line : ℕ
  pub waiting : get_or r.states line 0 ≡ waiting_line

waits_is : (year : ℕ) (r : Record) → waits year r ≡ true → Waits year r
unfolding waits
waits_is year r e =
    let a = both (of_year year r) _ e in
    let b = both (eqb r.state acquired_state) _ a.1 in
    let w = waiting_is r.states b.1 in
    record { of_year = eqb-true _ _ a.0; acquired = eqb-true _ _ b.0; line = w.0; waiting = w.1 }

is_waits : (year : ℕ) (r : Record) → Waits year r → waits year r ≡ true
unfolding waits
is_waits year r w = rw (eq-eqb r.esercizio year w.of_year, eq-eqb r.state acquired_state w.acquired, is_waiting r.states w.line w.waiting)

module _ (year : ℕ) (rs : List Record) where
  pub line_is : line_waits year rs ≡ true → (r : Record) × Memᴰ r rs × Waits year r
  line_is e = let w = any_is (waits year) rs e in (w.0, w.1, waits_is year w.0 w.2)

  pub is_line : (r : Record) → Memᴰ r rs → Waits year r → line_waits year rs ≡ true
  is_line r m w = is_any (waits year) rs r m (is_waits year r w)

-- PARTED: what is removed and what stays
pub parted : (year : ℕ) (rs : List Record) → Parted year rs (keep (of_year year) rs) (staying year rs)
unfolding keep
parted year [] = none
parted year (r ∷ rs) = go (of_year year r) refl (parted year rs)
  where
    go : (b : Bool) → of_year year r ≡ b → Parted year rs (keep (of_year year) rs) (staying year rs)
        → Parted year (r ∷ rs) (cond b (r ∷ keep (of_year year) rs) (keep (of_year year) rs)) (cond (not b) (r ∷ staying year rs) (staying year rs))
    go true e p = goes r rs (keep (of_year year) rs) (staying year rs) (eqb-true _ _ e) p
    go false e p = stays r rs (keep (of_year year) rs) (staying year rs) (eqb-false _ _ e) p

-- in one way only
pub parted_one : {year : ℕ} {rs a b c d : List Record} → Parted year rs a b → Parted year rs c d → (a ≡ c) × (b ≡ d)
parted_one none none = (refl, refl)
parted_one (goes r rs a b e p) (goes r₁ rs₁ c d f q) = let w = parted_one p q in (ap (λ (l : List Record). r ∷ l) w.0, w.1)
parted_one (goes r rs a b e p) (stays r₁ rs₁ c d f q) = absurd (f e)
parted_one (stays r rs a b e p) (goes r₁ rs₁ c d f q) = absurd (e f)
parted_one (stays r rs a b e p) (stays r₁ rs₁ c d f q) = let w = parted_one p q in (w.0, ap (λ (l : List Record). r ∷ l) w.1)

-- LATER RECORDS, each by itself
pub later_each : (year : ℕ) (rs : List Record) → all_later year rs ≡ true → (r : Record) → Memᴰ r rs → year < r.esercizio
unfolding all_later
later_each year [] e r m = absurd (Memᴰ.not-nil m)
later_each year (x ∷ rs) e r m = let w = both (ltb year x.esercizio) _ e in go (Memᴰ.cases_cons m) (ltb-true _ _ w.0) (later_each year rs w.1 r)
  where
    go : (r ≡ x) ⊎ Memᴰ r rs → year < x.esercizio → (Memᴰ r rs → year < r.esercizio) → year < r.esercizio
    go (inl q) h later = omega (arith, ap (λ (y : Record). y.esercizio) q)
    go (inr n) h later = later n
