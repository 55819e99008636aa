-- A text that stands by itself, with no tag behind it: the reader of texts goes over all of it, and breaks at its end.
use Rattle.std.specs.Prelude.{Result, Ok, Err}
use mathlib.Core.Path.{◌≡◌, refl, sym, ap, subst, ◌∙◌}
use mathlib.Core.List.{List, [], ◌++◌}
use mathlib.Core.Option.{Option}
use mathlib.Core.Option as option
use mathlib.Core.Bool.{Bool, true, false, cond}
use Prim.Native.Nat.{ℕ, zero, suc, ◌+◌, ◌-◌, ◌≤◌, ◌<◌}
use native.Mathlib.Omega.{arith}
use lib.ListN.{length, drop, length-append, get_or-eq_default}
use lib.Seq.{drop-drop, drop_at, take_all}
use lib.Dec.{eqb}
use borrow.Author.Tests.{eqb-true, eqb-false}
use Rattle.scan.specs.Bytes.{bytes, byte_at, part, has_at}
use Rattle.scan.specs.Characters.{char_size_at, past_or, char_at}
use Rattle.scan.proofs.Laws.{has_less, char_end}
use Rattle.scan.specs.References.{Reference, references, which_at, past_ref, ref_at}
use Rattle.tokens.specs.Tokens.{piece_at, text_at}
use Rattle.tokens.proofs.Laws.{piece_past, piece_char, text_stop, text_step, text_broken}
use Rattle.grammar.specs.Grammar.{Pieces, none, more, Without, Text, text}
use Rattle.grammar.proofs.Parts.{not_so, part_none, part_join, starts_whole}
use Rattle.grammar.proofs.Sound.{Clean, piece_sound, clean_more, clean_text}
use Rattle.grammar.proofs.Complete.{starts_join, piece_is, without_rest}

apart : {p q : ℕ} {A : Type 0} → ◌≡◌ {A = Result ℕ ℕ} (Ok p) (Err q) → A
apart e = let z : ◌≡◌ {A = ℕ} 0 1 = cc in absurd (omega arith)

same : {p q : ℕ} → ◌≡◌ {A = Result ℕ ℕ} (Err p) (Err q) → p ≡ q
same e = cc

module _ (s : List ℕ) where
  -- a piece breaks where it begins
  ref_broken : (p q : ℕ) → ref_at s p ≡ Err q → p ≡ q
  unfolding ref_at
  ref_broken p q e = go (which_at references s p) e
    where
      go : (o : Option Reference) → past_ref o p ≡ Err q → p ≡ q
      go option.none h = same h
      go (option.some r) h = apart h

  char_broken : (p q : ℕ) → char_at s p ≡ Err q → p ≡ q
  unfolding char_at past_or
  char_broken p q = go (char_size_at s p)
    where
      go : (n : ℕ) → past_or n p ≡ Err q → p ≡ q
      go zero e = cc
      go (suc n) e = apart e

  piece_broken : (p q : ℕ) → piece_at s p ≡ Err q → p ≡ q
  unfolding piece_at
  piece_broken p q = go (eqb (byte_at s p) 38) (has_at (bytes "]]>") s p)
    where
      go : (a b : Bool) → cond a (ref_at s p) (cond b (Err p) (char_at s p)) ≡ Err q → p ≡ q
      go true b e = ref_broken p q e
      go false true e = cc
      go false false e = char_broken p q e

  -- what the reader goes over from p on is pieces, and ]]> stands nowhere in it
  abbrev Whole : ℕ → Type 0
  Whole p = Pieces (part s p (length s)) × Clean s p (length s)

  alone_sound : (n p : ℕ) → length s - p < n → p ≤ length s → text_at s p ≡ Err (length s) → Whole p
  alone_sound zero p k h e = absurd (omega arith)
  alone_sound (suc n) p k h e = go (eqb (byte_at s p) 60) refl (piece_at s p) refl (alone_sound n)
    where
      go : (b : Bool) → eqb (byte_at s p) 60 ≡ b → (w : Result ℕ ℕ) → piece_at s p ≡ w → ((r : ℕ) → length s - r < n → r ≤ length s → text_at s r ≡ Err (length s) → Whole r) → Whole p
      go true l w f ih = apart (sym (text_stop s p (eqb-true _ _ l)) ∙ e)
      go false l (Err q) f ih =
          let z : ◌≡◌ {A = Result ℕ ℕ} (Err q) (Err (length s)) = sym (text_broken s p q (eqb-false _ _ l) f) ∙ e in
          let x = piece_broken p q f in
          let y : p ≡ length s = cc in
          (rw (← y, part_none s p) none, λ j a b. absurd (omega arith))
      go false l (Ok r) f ih =
          let g = piece_past s p r f in
          let i = ih r (omega arith) g.within (sym (text_step s p r (eqb-false _ _ l) f) ∙ e) in
          (rw (part_join s p r (length s) (omega arith) g.within) (more (piece_sound s p r l f) i.0), clean_more s p r (length s) l f i.1)

  -- at the end no piece stands
  ends : (p : ℕ) → p ≡ length s → text_at s p ≡ Err p
  ends p h =
      let b : byte_at s p ≡ 0 = get_or-eq_default s 0 (omega arith) in
      text_broken s p p (λ z. omega arith) (piece_char s p (λ z. omega arith) (has_less (bytes "]]>") s p (omega arith) (omega arith)) ∙ char_end s p (omega arith))

  -- the rest of s, from p on, is x and then t
  module _ (p : ℕ) (x t : List ℕ) (d : drop p s ≡ x ++ t) where
    stands : has_at x s p ≡ true
    unfolding has_at
    stands = rw d (starts_whole x t)

    no_close : Without (bytes "]]>") (x ++ t) → has_at (bytes "]]>") s p ≡ false
    unfolding has_at
    no_close w = not_so (has_at (bytes "]]>") s p) (λ c. w [] (drop 3 (drop p s)) (sym d ∙ starts_join (bytes "]]>") (drop p s) c))

    rest : drop (p + length x) s ≡ t
    rest = sym (drop-drop (length x) p s) ∙ ap (drop (length x)) d ∙ drop_at x t (length x) refl

  alone_complete : {t : List ℕ} (p : ℕ) → Pieces t → Without (bytes "]]>") t → drop p s ≡ t → p + length t ≡ length s → text_at s p ≡ Err (length s)
  alone_complete p none w d l = let z : p ≡ length s = omega arith in ends p z ∙ ap Err z
  alone_complete p (more {p = x} {t = t} pc ps) w d l =
      let a = length-append x t in
      let i = piece_is s p pc (stands p x t d) (no_close p x t d w) in
      text_step s p (p + length x) i.1 i.0 ∙ alone_complete (p + length x) ps (without_rest s (bytes "]]>") x t w) (rest p x t d) (omega arith)

-- both ways
pub alone_text : (t : List ℕ) → text_at t 0 ≡ Err (length t) → Text t
alone_text t e =
    let g = alone_sound t (suc (length t)) 0 (omega arith) (omega arith) e in
    let z : part t 0 (length t) ≡ t = take_all (length t - 0) t (omega arith) in
    subst Text z (clean_text t 0 (length t) (omega arith) g.0 g.1)

pub text_alone : {t : List ℕ} → Text t → text_at t 0 ≡ Err (length t)
text_alone (text {t = t} ps w) = alone_complete t 0 ps w refl (omega arith)
