-- WHAT A CLOSE WRITES: its body's own bytes, as a valid table has them; and what it leaves of the table.
use Rattle.std.specs.Prelude.{Result, Ok, Err}
use Prim.Native.Nat.{ℕ, ◌+◌, ◌≤◌, ◌<◌}
use mathlib.Core.Path.{◌≡◌, refl, ap, ◌∙◌}
use mathlib.Core.Bool.{true}
use mathlib.Core.List.{List}
use native.Mathlib.Omega.{arith}
use lib.Dec.{eqb, leb}
use borrow.Author.Tests.{leb-true}
use Rattle.scan.proofs.Laws.{both}
use Rattle.bounds.specs.Bounds.{is_year}
use Rattle.slots.specs.Slots.{records_at}
use Rattle.entries.specs.Entry.{entry_size, entry_rest, closed_of, closed_ok}
use Rattle.entries.proofs.Same.{zeros_agree}
use Rattle.table.specs.Table.{bodies, table_ok, entry_of}
use Rattle.service.proofs.Kept.{unchanged}
use Rattle.year_end.specs.declared.CloseRefusal.{CloseRefusal}
use Rattle.year_end.specs.declared.CloseRefusal.TheVariants.{InvalidTable, UnknownBody, NotAYear, AlreadyClosed, EarlierRemains, LineWaits}
use Rattle.year_end.specs.YearEnd.{close_of, body_closed, close_stored}
use Rattle.year_end.specs.Inner.{Fits}
use Rattle.year_end.proofs.Laws.{May, closed_when}
use Rattle.year_end.proofs.Closed.{closed_long, closed_before, closed_between, closed_after, closed_ok_lem, closed_agrees, closed_year, closed_later}
use Rattle.theorems.proofs.Codes.{or_true}
use Rattle.theorems.proofs.Good.{Good, base, size, Wrote, kept_wrote, own_is, open_is, served, tail_in}

-- a year of 2000 to 2099
year_bounds : (year : ℕ) → is_year year ≡ true → (2000 ≤ year) × (year ≤ 2099)
year_bounds year e = let w = both (leb 2000 year) (leb year 2099) e in (leb-true 2000 year w.0, leb-true year 2099 w.1)

module _ (t₀ : List ℕ) (r : table_ok t₀ ≡ true) (t : List ℕ) (g : Good t₀ t) (b : ℕ) (l : b < bodies t₀) where
  pub fits : Fits t (entry_of b) (base t₀ b) (size t₀ b)
  fits = let s = served t₀ r t g b l in record { entry = s.entry; inside = s.inside; few = s.few; valid = s.valid }

  -- nothing
  pub same_wrote : Wrote t₀ t t b
  same_wrote = kept_wrote t₀ r t t g b l (unchanged t (base t₀ b) (size t₀ b) (served t₀ r t g b l).valid) (open_is t₀ r t g b l)

  module _ (year : ℕ) where
    abbrev after : List ℕ
    after = body_closed t (entry_of b) (base t₀ b) (size t₀ b) year

    pub closed_wrote : (k : ℕ) → May (closed_of t (entry_of b)) year (records_at t (base t₀ b) (size t₀ b)) k
        → Wrote t₀ t (body_closed t (entry_of b) (base t₀ b) (size t₀ b) year) b
    closed_wrote k m =
        let e = entry_of b in
        let p = base t₀ b in
        let n = size t₀ b in
        let F = fits in
        let y = year_bounds year m.a_year in
        let c = closed_year t e p n year F (omega arith) in
        let i = tail_in t₀ r t g b l in
        let j = closed_long t e p n year F in
        record {
          long = j;
          before = closed_before t e p n year F;
          between = λ q s h f. closed_between t e p n year F q s (omega arith) f;
          after = closed_after t e p n year F;
          own = record {
            body = closed_ok_lem t e p n year F;
            kept = closed_agrees t e p n year F;
            later = closed_later t e p n year F (omega arith) m.none_earlier;
            rest = record {
              year = ap (λ (x : ℕ). closed_ok x) c ∙ or_true (eqb year 0) m.a_year;
              zero =
                  zeros_agree (closed_between t e p n year F (e + entry_rest) 6 (omega arith) (omega (arith, F.entry))) 0 6 (omega arith)
                  (e + entry_rest) (e + entry_size) (e + entry_rest) (e + entry_size) (omega arith) (omega arith) (omega arith) (omega arith) (omega arith) (omega arith)
                  ∙ (own_is t₀ r t g b l).rest.zero;
            };
          };
        }

    pub close_wrote : Wrote t₀ t (close_stored t (entry_of b) (base t₀ b) (size t₀ b) year (close_of (closed_of t (entry_of b)) year (records_at t (base t₀ b) (size t₀ b)))) b
    close_wrote = go (close_of (closed_of t (entry_of b)) year (records_at t (base t₀ b) (size t₀ b))) refl
      where
        go : (a : Result ℕ CloseRefusal) → close_of (closed_of t (entry_of b)) year (records_at t (base t₀ b) (size t₀ b)) ≡ a
            → Wrote t₀ t (close_stored t (entry_of b) (base t₀ b) (size t₀ b) year a) b
        go (Ok k) q = closed_wrote k (closed_when (closed_of t (entry_of b)) year (records_at t (base t₀ b) (size t₀ b)) k q)
        go (Err InvalidTable) q = same_wrote
        go (Err UnknownBody) q = same_wrote
        go (Err NotAYear) q = same_wrote
        go (Err AlreadyClosed) q = same_wrote
        go (Err EarlierRemains) q = same_wrote
        go (Err LineWaits) q = same_wrote

    -- the year that it leaves closed is not an earlier one, and where it closes a year it is that
    pub closed_is : (k : ℕ) → May (closed_of t (entry_of b)) year (records_at t (base t₀ b) (size t₀ b)) k
        → closed_of (body_closed t (entry_of b) (base t₀ b) (size t₀ b) year) (entry_of b) ≡ year
    closed_is k m = let y = year_bounds year m.a_year in closed_year t (entry_of b) (base t₀ b) (size t₀ b) year fits (omega arith)

    pub close_rises : closed_of t (entry_of b)
        ≤ closed_of (close_stored t (entry_of b) (base t₀ b) (size t₀ b) year (close_of (closed_of t (entry_of b)) year (records_at t (base t₀ b) (size t₀ b)))) (entry_of b)
    close_rises = go (close_of (closed_of t (entry_of b)) year (records_at t (base t₀ b) (size t₀ b))) refl
      where
        go : (a : Result ℕ CloseRefusal) → close_of (closed_of t (entry_of b)) year (records_at t (base t₀ b) (size t₀ b)) ≡ a
            → closed_of t (entry_of b) ≤ closed_of (close_stored t (entry_of b) (base t₀ b) (size t₀ b) year a) (entry_of b)
        go (Ok k) q =
            let m = closed_when (closed_of t (entry_of b)) year (records_at t (base t₀ b) (size t₀ b)) k q in
            omega (arith, m.newer, closed_is k m)
        go (Err InvalidTable) q = omega arith
        go (Err UnknownBody) q = omega arith
        go (Err NotAYear) q = omega arith
        go (Err AlreadyClosed) q = omega arith
        go (Err EarlierRemains) q = omega arith
        go (Err LineWaits) q = omega arith
