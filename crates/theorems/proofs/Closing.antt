-- Closing a year: a close that is answered 0 is its body's own, and stays.
use Rattle.std.specs.Prelude.{Option, Result, Some, None, Ok, Err}
use Prim.Native.Nat.{ℕ, ◌<◌}
use mathlib.Core.Path.{◌≡◌, refl, sym, ap, ◌∙◌, subst}
use mathlib.Core.Bool.{Bool, true, false}
use mathlib.Core.List.{List}
use native.Mathlib.Omega.{arith}
use Rattle.entries.specs.Entry.{closed_of}
use Rattle.table.specs.Table.{bodies, table_ok, body_of, entry_of}
use Rattle.table.proofs.Bodies.{found_body}
use Rattle.address.specs.Address.{addressed}
use Rattle.year_end.specs.declared.CloseRefusal.{CloseRefusal}
use Rattle.year_end.specs.declared.CloseRefusal.TheVariants.{InvalidTable, UnknownBody, NotAYear, AlreadyClosed, EarlierRemains, LineWaits}
use Rattle.year_end.specs.YearEnd.{close_of, body_closed, close_stored, close_by, close_table_by, close_code, CloseReplies}
use Rattle.year_end.proofs.Laws.{May, closed_when}
use Rattle.isolation.proofs.History.{rises}
use Rattle.theorems.specs.Engine.{body_records, machine}
use Rattle.theorems.specs.Closing.{OwnClose, YearClosing}
use Rattle.theorems.proofs.Condition2.{is_body, no_table, no_body}
use Rattle.theorems.proofs.Condition3.{laws}
use Rattle.theorems.proofs.Good.{Good, Wrote, Left, fresh, base, size, count_is, unowned_is, owned_alike, closed_alike, wrote_left, left_good, other_owned}
use Rattle.theorems.proofs.Closed.{closed_wrote, closed_is}
use Rattle.theorems.proofs.Staying.{Shuts, shuts_more}
use Rattle.theorems.proofs.History.{engine_shuts}

-- A YEAR CLOSED for body b
module _ (t : List ℕ) (r : table_ok t ≡ true) (b : ℕ) (l : b < bodies t) (year : ℕ) where
  abbrev u : List ℕ
  u = body_closed t (entry_of b) (base t b) (size t b) year

  g : Good t t
  g = fresh t r

  built : (k : ℕ) → May (closed_of t (entry_of b)) year (body_records b t) k → OwnClose t (body_closed t (entry_of b) (base t b) (size t b) year) b year
  built k m = record {
    others = other_owned t r t u g b l left;
    rest = unowned_is t r u good;
    stays = λ E cs.
        let v = good.ok in
        let c : b < bodies u = omega (arith, count_is t r u good) in
        let x = rises (machine E u) (Good u) (laws E u v) b c (λ s. closed_of s (entry_of b)) (λ s w h i q. closed_alike b (owned_alike u v s w h i b c q))
        Shuts shuts_more (engine_shuts E u v b c) cs u (fresh u v) in
        omega (arith, x, closed);
  }
    where
      wrote : Wrote t t u b
      wrote = closed_wrote t r t g b l year k m

      left : Left t t u b
      left = wrote_left t r t u g b l wrote

      good : Good t u
      good = left_good t r t u g b l left

      closed : closed_of u (entry_of b) ≡ year
      closed = closed_is t r t g b l year k m

-- A CLOSE ANSWERED 0
module _ (t code : List ℕ) (year k : ℕ) (t' : List ℕ) (p : CloseReplies t code year 0 k t') where
  not_zero : {A : Type 0} {a : Result ℕ CloseRefusal} → close_by t year (addressed t code) ≡ a → (close_code a ≡ 0 → ⊥) → A
  not_zero q f = absurd (f (sym (ap close_code (p.1.0 ∙ q)) ∙ sym p.2))

  for_body_lem : (r : table_ok t ≡ true) (b : ℕ) → body_of t code ≡ Some b → (x : Result ℕ CloseRefusal) → close_of (closed_of t (entry_of b)) year (body_records b t) ≡ x → OwnClose t t' b year
  unfolding close_by close_table_by
  for_body_lem r b e (Ok j) q =
      let w = is_body t r code b e in
      let m = closed_when (closed_of t (entry_of b)) year (body_records b t) j q in
      let u : t' ≡ body_closed t (entry_of b) (base t b) (size t b) year =
      p.1.1 ∙ ap (close_table_by t year) w ∙ ap (close_stored t (entry_of b) (base t b) (size t b) year) q in
      subst (λ (s : List ℕ). OwnClose t s b year) (sym u) (built t r b (found_body t r code b e) year j m)
  for_body_lem r b e (Err InvalidTable) q = not_zero (ap (close_by t year) (is_body t r code b e) ∙ q) (λ z. omega arith)
  for_body_lem r b e (Err UnknownBody) q = not_zero (ap (close_by t year) (is_body t r code b e) ∙ q) (λ z. omega arith)
  for_body_lem r b e (Err NotAYear) q = not_zero (ap (close_by t year) (is_body t r code b e) ∙ q) (λ z. omega arith)
  for_body_lem r b e (Err AlreadyClosed) q = not_zero (ap (close_by t year) (is_body t r code b e) ∙ q) (λ z. omega arith)
  for_body_lem r b e (Err EarlierRemains) q = not_zero (ap (close_by t year) (is_body t r code b e) ∙ q) (λ z. omega arith)
  for_body_lem r b e (Err LineWaits) q = not_zero (ap (close_by t year) (is_body t r code b e) ∙ q) (λ z. omega arith)

  answered_0 : (ok : Bool) → table_ok t ≡ ok → (x : Option ℕ) → body_of t code ≡ x → (b : ℕ) × (body_of t code ≡ Some b) × OwnClose t t' b year
  unfolding close_by
  answered_0 false o x q = not_zero (ap (close_by t year) (no_table t code o)) (λ z. omega arith)
  answered_0 true o None q = not_zero (ap (close_by t year) (no_body t code o q)) (λ z. omega arith)
  answered_0 true o (Some b) q = (b, q, for_body_lem o b q (close_of (closed_of t (entry_of b)) year (body_records b t)) refl)

pub year_closing : YearClosing
year_closing t code year k t' p = answered_0 t code year k t' p (table_ok t) refl (body_of t code) refl
