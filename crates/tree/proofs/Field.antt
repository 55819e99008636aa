-- What `field_at` shows is what the grammar says of the place.
use Rattle.std.specs.Prelude.{Option, Some, None}
use mathlib.Core.Path.{◌≡◌, refl, sym, ap, ◌∙◌}
use mathlib.Core.List.{List, ◌++◌}
use Prim.Native.Nat.{ℕ, ◌+◌, ◌-◌}
use native.Mathlib.Omega.{arith}
use lib.ListN.{length, length-append}
use lib.Seq.{take_all}
use Rattle.scan.specs.Bytes.{bytes, part}
use Rattle.tokens.specs.Tokens.{white_at}
use Rattle.tokens.proofs.Laws.{name_past, end_past}
use Rattle.markup.proofs.Laws.{content_at_past}
use Rattle.grammar.specs.Grammar.{start_tag, end_tag}
use Rattle.grammar.proofs.Parts.{part_join, part_length, part_has}
use Rattle.grammar.proofs.Sound.{name_sound, end_sound, element_bytes, content_at_sound}
use Rattle.children.specs.declared.Child.{Child}
use Rattle.children.specs.declared.FieldSpans.{FieldSpans}
use Rattle.children.specs.Child.{child_at, spans_of, field_at}
use Rattle.children.proofs.Laws.{child_read}
use Rattle.tree.specs.Field.{ElementThere, FieldShown, shown, nothing, FieldAnswered}
use Rattle.tree.proofs.Read.{stands}

abbrev spans : ℕ → List ℕ → List ℕ → FieldSpans
spans p n c = record { name = p + 1; name_len = length n; text = p + length (start_tag n); text_len = length c }

module _ (s : List ℕ) (p : ℕ) where
  -- an element that stands there is read
  there_read : {n c : List ℕ} → ElementThere s p n c → spans p n c ≡ field_at s p
  unfolding field_at
  there_read {n} {c} w =
      let a : part s 0 (length s) ≡ s = take_all (length s - 0) s (omega arith) in
      let h = part_has s 0 (length s) w.before (start_tag n ++ c ++ end_tag n) w.after (a ∙ w.bytes) in
      let z : 0 + length w.before ≡ p = omega (arith, w.lt) in
      let r = stands s 12 p n c (omega arith) w.name w.content (rw z at h) in
      let l = length-append n (bytes ">") in
      let x : p + 1 + length n - (p + 1) ≡ length n = omega arith in
      let y : p + 1 + length n + 1 ≡ p + length (start_tag n) = omega arith in
      let v : p + 1 + length n + 1 + length c - (p + 1 + length n + 1) ≡ length c = omega arith in
      rw (r.child, x, v, y)

  -- what is read is an element that stands there
  read_there : (k : Child) → child_at s p ≡ Some k → (n : List ℕ) × (c : List ℕ) × ElementThere s p n c × (spans_of (Some k) ≡ spans p n c)
  read_there k e =
      let r = child_read s p k e in
      let g = name_past s (p + 1) r.gt r.named in
      let f = content_at_past 12 s (r.gt + 1) r.to r.holds in
      let h = end_past s (p + 1) r.gt r.to r.end r.ends in
      let n = part s (p + 1) r.gt in
      let c = part s (r.gt + 1) r.to in
      let x = end_sound s (p + 1) r.gt r.to r.end (omega arith) (omega arith) r.ends in
      let b = element_bytes s p r.gt r.to r.end r.opens r.tagged (omega arith) (omega arith) f.0 (omega arith) x in
      let a : part s 0 (length s) ≡ s = take_all (length s - 0) s (omega arith) in
      let j = part_join s 0 r.end (length s) (omega arith) h.within in
      let i = part_join s 0 p r.end (omega arith) (omega arith) in
      let w : ElementThere s p n c = record { before = part s 0 p; after = part s r.end (length s); bytes = sym a ∙ rw (j, i, b); lt = omega (arith, part_length s 0 p (omega arith)); name = name_sound s (p + 1) r.gt r.named; content = content_at_sound 12 s (r.gt + 1) r.to r.holds } in
      let l = length-append n (bytes ">") in
      let u = part_length s (p + 1) r.gt (omega arith) in
      let v = part_length s (r.gt + 1) r.to (omega arith) in
      let y : r.gt + 1 ≡ p + length (start_tag n) = omega arith in
      let q : spans_of (Some (record { lt = p; gt = r.gt; to = r.to; after = white_at s r.end })) ≡ spans p n c = rw (u, v, y) in
      (n, c, w, ap (λ (x : Child). spans_of (Some x)) r.is ∙ q)

  field_shown : FieldShown s p (field_at s p)
  unfolding field_at
  field_shown = go (child_at s p) refl
    where
      go : (w : Option Child) → child_at s p ≡ w → FieldShown s p (spans_of w)
      go (Some k) e = let r = read_there k e in rw r.3 (shown r.2)
      go None e = nothing (λ n c w. let a : field_at s p ≡ spans_of None = rw e in let z : p + 1 ≡ 0 = ap (λ (x : FieldSpans). x.name) (there_read w ∙ a) in omega arith)

  shown_field : (r : FieldSpans) → FieldShown s p r → r ≡ field_at s p
  unfolding field_at
  shown_field r (shown w) = there_read w
  shown_field r (nothing none) = go (child_at s p) refl
    where
      go : (w : Option Child) → child_at s p ≡ w → spans_of None ≡ spans_of w
      go (Some k) e = let r = read_there k e in absurd (none r.0 r.1 r.2)
      go None e = refl

pub field_answered : FieldAnswered
field_answered s p r = (λ e. rw e (field_shown s p), shown_field s p r)
