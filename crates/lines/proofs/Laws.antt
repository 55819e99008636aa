-- Laws of a walk over one order's lines: the answer that a tally and the lines still to come determine, at the start, after one line more and at the end.
use Prim.Native.Nat.{ℕ, suc, zero, ◌+◌, ◌-◌, ◌<◌}
use mathlib.Core.Bool.{Bool, true, false, ◌&&◌, cond, and_assoc, and-true}
use mathlib.Core.List.{List, ◌∷◌}
use mathlib.Core.Path.{◌≡◌, refl, sym, ap, ◌∙◌}
use native.Mathlib.Omega.{arith}
use native.Mathlib.Nat.{zero-add, suc-add}
use native.Mathlib.Numerals.{add-one}
use lib.ListN.{length, get_or, drop}
use lib.Seq.{drop-cons, drop-length}
use lib.Dec.{eqb, leb, eqb-suc-suc}
use borrow.Author.Tests.{leb-true, leb-false, ne_eqb}
use Rattle.order.specs.declared.Line.{Line}
use Rattle.order.specs.Ordinativo.{no_line}
use Rattle.lines.specs.declared.Tally.{Tally}
use Rattle.lines.specs.Lines.{numbered_from, sum_of, line_code}
use Rattle.lines.specs.Walk.{start_of, step_of, answer_of}

abbrev pub code_from : Tally → ℕ → List Line → ℕ
code_from t i ls = cond (t.numbered && numbered_from (i + 1) ls) (cond (t.fits && eqb (sum_of ls) t.left) 0 13) 12

pub starts : (ls : List Line) (total : ℕ) → code_from (start_of total) 0 ls ≡ line_code ls total
unfolding line_code
starts ls total = refl

-- both sides of a test, c more
shifted : (c a b : ℕ) → eqb (c + a) (c + b) ≡ eqb a b
shifted zero a b = rw (zero-add a, zero-add b)
shifted (suc c) a b = rw (suc-add c a, suc-add c b) (eqb-suc-suc (c + a) (c + b) ∙ shifted c a b)

-- an amount that fits into what is left is taken from it; one that does not breaks the sum for good
taken : (c left s : ℕ) → (leb c left && eqb s (left - c)) ≡ eqb (c + s) left
taken c left s = at (leb c left) refl
  where
    at : (b : Bool) → leb c left ≡ b → (b && eqb s (left - c)) ≡ eqb (c + s) left
    at true e = sym (shifted c s (left - c)) ∙ ap (eqb (c + s)) (omega (arith, leb-true c left e))
    at false e = sym (ne_eqb (c + s) left (λ q. omega (arith, leb-false c left e)))

more : (t : Tally) (i : ℕ) (l : Line) (ls : List Line) → code_from (step_of t i l) (i + 1) ls ≡ code_from t i (l ∷ ls)
unfolding numbered_from sum_of
more t i l ls = simp (and_assoc, taken)

module _ (ls : List Line) (t : Tally) (i : ℕ) where
  pub steps : i < length ls → code_from (step_of t i (get_or ls i no_line)) (i + 1) (drop (i + 1) ls) ≡ code_from t i (drop i ls)
  steps h = more t i (get_or ls i no_line) (drop (i + 1) ls) ∙ sym (rw (add-one, drop-cons ls i no_line h))

  pub ends : i ≡ length ls → code_from t i (drop i ls) ≡ answer_of t
  unfolding numbered_from sum_of
  ends e = rw (e, drop-length ls, and-true t.numbered)
