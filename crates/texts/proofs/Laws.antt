-- The tests of a caller's text, a way out of the code at a time; and what they tell.
use Rattle.std.specs.Prelude.{Result, Ok, Err}
use mathlib.Core.Path.{◌≡◌, refl}
use mathlib.Core.List.{List}
use mathlib.Core.Bool.{true}
use Prim.Native.Nat.{ℕ}
use native.Mathlib.Omega.{arith}
use lib.ListN.{length}
use borrow.Author.Tests.{eq-eqb, ne_eqb, le-leb, eqb-true}
use Rattle.scan.specs.Bytes.{between}
use Rattle.scan.proofs.Laws.{both, in_range}
use Rattle.tokens.specs.Tokens.{text_at}
use Rattle.grammar.proofs.Alone.{alone_text, text_alone}
use Rattle.texts.specs.Texts.{breaks_only_at, whole_text, caller_text, istat_text, TextTold, CallerTextTold}

pub whole_is : (t : List ℕ) (w : Result ℕ ℕ) → w ≡ text_at t 0 → whole_text t ≡ breaks_only_at (length t) w
unfolding whole_text
whole_is t w e = rw e

pub istat_some : (t : List ℕ) → (length t ≡ 0 → ⊥) → istat_text t ≡ caller_text t
unfolding istat_text
istat_some t h = rw (ne_eqb _ _ h)

breaks : (n : ℕ) (w : Result ℕ ℕ) → breaks_only_at n w ≡ true → w ≡ Err n
breaks n (Ok q) e = let z : ◌≡◌ {A = ℕ} 0 1 = cc in absurd (omega arith)
breaks n (Err p) e = rw (eqb-true p n e)

pub text_told : TextTold
unfolding whole_text
text_told t = record {
  sound = λ e. alone_text t (breaks (length t) (text_at t 0) e);
  complete = λ x. rw (text_alone x) (eq-eqb (length t) (length t) refl);
}

pub caller_text_told : CallerTextTold
unfolding caller_text
caller_text_told t = record {
  sound = λ e. let a = both (between 1 140 (length t)) (whole_text t) e in let l = in_range 1 140 (length t) a.0 in (l.0, l.1, (text_told t).sound a.1);
  complete = λ x. let h = x.0 in let k = x.1 in rw (le-leb 1 (length t) h, le-leb (length t) 140 k) ((text_told t).complete x.2);
}
