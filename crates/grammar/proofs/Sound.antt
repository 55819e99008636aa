-- Whatever the reader accepts is of the grammar.
use Rattle.std.specs.Prelude.{Result, Ok, Err}
use mathlib.Core.Path.{◌≡◌, refl, sym, ap, subst, ◌∙◌}
use mathlib.Core.Logic.{◌⊎◌, inl, inr}
use mathlib.Core.List.{List, [], ◌∷◌, ◌++◌}
use mathlib.Core.Bool.{Bool, true, false, cond, not, ◌&&◌}
use Prim.Native.Nat.{ℕ, zero, suc, ◌+◌, ◌-◌, ◌*◌, ◌≤◌, ◌<◌}
use native.Mathlib.Omega.{arith}
use lib.ListN.{length, take, drop, length-drop, length-append}
use lib.Seq.{take_all, get_or-take, get_or-drop}
use lib.Dec.{leb, eqb}
use borrow.Author.Tests.{eqb-true, eqb-false, eq-eqb, leb-true, leb-false}
use Rattle.scan.specs.Bytes.{bytes, byte_at, part, between, is_letter, is_name_byte, is_white, all, run, run_end, has_at}
use Rattle.scan.specs.Characters.{is_char, sized, is_tail, char_size, char_size_at, past_or, char_at}
use Rattle.scan.specs.References.{Reference, ref_at}
use Rattle.scan.proofs.Laws.{never, both, choose, cond_past, Advance, stands, run_more, run_from, run_within, has_within, size_within, char_past, ref_is}
use Rattle.tokens.specs.Tokens.{and_then, repeat, until, name_at, tag_end_at, white_at, piece_at, text_at, end_tag_at, optional_at}
use Rattle.tokens.proofs.Laws.{then_past, Steps, name_past, IdParts, tag_parts, piece_past, text_past, end_past, piece_end}
use Rattle.markup.specs.Markup.{child_by, children_by, content_by, element_at, content_at, mark, declaration, root_at, markup_of}
use Rattle.markup.proofs.Laws.{content_past, parts, element_past, Rooted, markup_parts, root_placed}
use Rattle.grammar.specs.Grammar.{Name, name, White, white, Allowed, Character, one, two, three, four, Piece, char, amp, lt, gt, quot, apos, Pieces, none, more, Text, text, start_tag, end_tag, Element, element, Content, elements, only, Elements, last, next, Optional, absent, present, Mark, Declaration, Id, id, RootTag, plain, with_id, Root, root, Document, document}
use Rattle.grammar.proofs.Parts.{no, not_so, part_join, part_none, part_next, part_1, part_2, part_3, part_4, part_length, has_part, has_split, has_byte, part_has}
use Rattle.grammar.proofs.Pieces.{other, all_at, piece_rest}

-- CHARACTERS
sized_is : (n least v m : ℕ) → sized n least v ≡ suc m → (n ≡ suc m) × Allowed least v
unfolding sized
sized_is n least v m =
    choose (leb least v && is_char v)
    (λ h e. let c = both (leb least v) (is_char v) h in (e, record { short = leb-true least v c.0; xml = c.1 }))
    (λ e. absurd (omega arith))

-- a lead or a tail byte is its mark and its bits
bits : (lo hi b : ℕ) → between lo hi b ≡ true → (lo + (b - lo) ≡ b) × (b - lo < suc (hi - lo))
bits lo hi b e =
    let c = both (leb lo b) (leb b hi) e in
    let l = leb-true lo b c.0 in
    let h = leb-true b hi c.1 in
    (omega arith, omega arith)

module _ (a b : ℕ) (t : is_tail b ≡ true) where
  two_bytes : between 192 223 a ≡ true → Allowed 128 ((a - 192) * 64 + (b - 128)) → Character (a ∷ b ∷ [])
  unfolding is_tail
  two_bytes h v =
      let x = bits 192 223 a h in
      let y = bits 128 191 b t in
      rw (x.0, y.0) at (two {x = a - 192} {y = b - 128} x.1 y.1 v)

  module _ (c : ℕ) (u : is_tail c ≡ true) where
    three_bytes : between 224 239 a ≡ true → Allowed 2048 ((a - 224) * 4096 + (b - 128) * 64 + (c - 128)) → Character (a ∷ b ∷ c ∷ [])
    unfolding is_tail
    three_bytes h v =
        let x = bits 224 239 a h in
        let y = bits 128 191 b t in
        let z = bits 128 191 c u in
        rw (x.0, y.0, z.0) at (three {x = a - 224} {y = b - 128} {z = c - 128} x.1 y.1 z.1 v)

    four_bytes : (d : ℕ) → is_tail d ≡ true → between 240 247 a ≡ true → Allowed 65536 ((a - 240) * 262144 + (b - 128) * 4096 + (c - 128) * 64 + (d - 128)) → Character (a ∷ b ∷ c ∷ d ∷ [])
    unfolding is_tail
    four_bytes d r h v =
        let x = bits 240 247 a h in
        let y = bits 128 191 b t in
        let z = bits 128 191 c u in
        let w = bits 128 191 d r in
        rw (x.0, y.0, z.0, w.0) at (four {x = a - 240} {y = b - 128} {z = c - 128} {w = d - 128} x.1 y.1 z.1 w.1 v)

module _ (s : List ℕ) (p m : ℕ) (f : char_size_at s p ≡ suc m) where
  size_sound : Character (part s p (p + suc m))
  unfolding char_size
  size_sound = choose _ is_1 (choose _ is_2 (choose _ is_3 (choose _ is_4 (λ e. absurd (omega arith))))) f
    where
      within : p + suc m ≤ length s
      within = size_within s p m f

      is_1 : leb (byte_at s p) 127 ≡ true → sized 1 0 (byte_at s p) ≡ suc m → Character (part s p (p + suc m))
      is_1 h e =
          let z = sized_is 1 0 (byte_at s p) m e in
          let l = leb-true (byte_at s p) 127 h in
          rw (part_1 s p (p + suc m) within (omega arith)) (one {x = byte_at s p} (omega arith) z.1)

      is_2 : (between 192 223 (byte_at s p) && is_tail (byte_at s (p + 1))) ≡ true → sized 2 128 ((byte_at s p - 192) * 64 + (byte_at s (p + 1) - 128)) ≡ suc m → Character (part s p (p + suc m))
      is_2 h e =
          let z = sized_is 2 128 ((byte_at s p - 192) * 64 + (byte_at s (p + 1) - 128)) m e in
          let a = both (between 192 223 (byte_at s p)) (is_tail (byte_at s (p + 1))) h in
          rw (part_2 s p (p + suc m) within (omega arith)) (two_bytes _ _ a.1 a.0 z.1)

      is_3 : (between 224 239 (byte_at s p) && (is_tail (byte_at s (p + 1)) && is_tail (byte_at s (p + 2)))) ≡ true
          → sized 3 2048 ((byte_at s p - 224) * 4096 + (byte_at s (p + 1) - 128) * 64 + (byte_at s (p + 2) - 128)) ≡ suc m → Character (part s p (p + suc m))
      is_3 h e =
          let z = sized_is 3 2048 ((byte_at s p - 224) * 4096 + (byte_at s (p + 1) - 128) * 64 + (byte_at s (p + 2) - 128)) m e in
          let a = both (between 224 239 (byte_at s p)) (is_tail (byte_at s (p + 1)) && is_tail (byte_at s (p + 2))) h in
          let b = both (is_tail (byte_at s (p + 1))) (is_tail (byte_at s (p + 2))) a.1 in
          rw (part_3 s p (p + suc m) within (omega arith)) (three_bytes _ _ b.0 _ b.1 a.0 z.1)

      is_4 : (between 240 247 (byte_at s p) && (is_tail (byte_at s (p + 1)) && (is_tail (byte_at s (p + 2)) && is_tail (byte_at s (p + 3))))) ≡ true
          → sized 4 65536 ((byte_at s p - 240) * 262144 + (byte_at s (p + 1) - 128) * 4096 + (byte_at s (p + 2) - 128) * 64 + (byte_at s (p + 3) - 128)) ≡ suc m → Character (part s p (p + suc m))
      is_4 h e =
          let z = sized_is 4 65536 ((byte_at s p - 240) * 262144 + (byte_at s (p + 1) - 128) * 4096 + (byte_at s (p + 2) - 128) * 64 + (byte_at s (p + 3) - 128)) m e in
          let a = both (between 240 247 (byte_at s p)) (is_tail (byte_at s (p + 1)) && (is_tail (byte_at s (p + 2)) && is_tail (byte_at s (p + 3)))) h in
          let b = both (is_tail (byte_at s (p + 1))) (is_tail (byte_at s (p + 2)) && is_tail (byte_at s (p + 3))) a.1 in
          let c = both (is_tail (byte_at s (p + 2))) (is_tail (byte_at s (p + 3))) b.1 in
          rw (part_4 s p (p + suc m) within (omega arith)) (four_bytes _ _ b.0 _ c.0 _ c.1 a.0 z.1)

char_sound : (s : List ℕ) (p r : ℕ) → char_at s p ≡ Ok r → Character (part s p r)
unfolding char_at past_or
char_sound s p r = go (char_size_at s p) refl
  where
    go : (n : ℕ) → char_size_at s p ≡ n → past_or n p ≡ Ok r → Character (part s p r)
    go zero f e = never e
    go (suc m) f e = let z : p + suc m ≡ r = cc in rw z at (size_sound s p m f)

-- RUNS
run_all : (p : ℕ → Bool) (t : List ℕ) → all p (take (run p t) t) ≡ true
unfolding all run
run_all p [] = refl
run_all p (b ∷ t) = go (p b) refl (run_all p t)
  where
    go : (k : Bool) → p b ≡ k → all p (take (run p t) t) ≡ true → all p (take (cond k (suc (run p t)) 0) (b ∷ t)) ≡ true
    go true e h = rw e h
    go false e h = refl

run_part : (p : ℕ → Bool) (s : List ℕ) (at : ℕ) → all p (part s at (run_end p s at)) ≡ true
unfolding run_end
run_part p s at = let q : at + run p (drop at s) - at ≡ run p (drop at s) = omega arith in rw q (run_all p (drop at s))

-- REPEATED STEPS: what holds where it stops, and is carried back over each step, holds at the start
module _ (s : List ℕ) (stop : ℕ → Bool) (step : ℕ → Result ℕ ℕ) (P : ℕ → ℕ → Type 0)
    (base : (p : ℕ) → stop p ≡ true → P p p)
    (back : (p r q : ℕ) → stop p ≡ false → step p ≡ Ok r → P r q → P p q) where
  repeat_ind : (n p q : ℕ) → repeat n stop step p ≡ Ok q → P p q
  unfolding repeat
  repeat_ind zero p q e = never e
  repeat_ind (suc n) p q e = go (stop p) refl (step p) refl (repeat_ind n) e
    where
      go : (b : Bool) → stop p ≡ b → (w : Result ℕ ℕ) → step p ≡ w → ((r q : ℕ) → repeat n stop step r ≡ Ok q → P r q) → cond b (Ok p) (and_then w (repeat n stop step)) ≡ Ok q → P p q
      go true eb w ew ih h = let z : p ≡ q = cc in subst (P p) z (base p eb)
      go false eb (Ok r) ew ih h = back p r q eb ew (ih r q h)
      go false eb (Err r) ew ih h = never h

  until_ind : (p q : ℕ) → until s stop step p ≡ Ok q → P p q
  unfolding until
  until_ind = repeat_ind (suc (length s))

module _ (s : List ℕ) where
  -- TEXT
  ref_sound : (p r : ℕ) → ref_at s p ≡ Ok r → Piece (part s p r)
  ref_sound p r e =
      let f = ref_is (λ (x : Reference). Piece x.written) s p r (amp, (lt, (gt, (quot, (apos, tt))))) e in
      rw (← f.past, has_part s f.which.written p f.there) f.holds

  -- a part that begins with another byte is not b alone
  not_alone : (p r b : ℕ) → Advance s p r → eqb (byte_at s p) b ≡ false → part s p r ≡ b ∷ [] → ⊥
  not_alone p r b g f e =
      let n = part_next s p (p + 1) r refl (omega arith) (omega arith) in
      let z : byte_at s p ≡ b = cc in
      eqb-false _ _ f z

  pub piece_sound : (p r : ℕ) → eqb (byte_at s p) 60 ≡ false → piece_at s p ≡ Ok r → Piece (part s p r)
  unfolding piece_at
  piece_sound p r l e = go (eqb (byte_at s p) 38) refl (has_at (bytes "]]>") s p) e
    where
      go : (a : Bool) → eqb (byte_at s p) 38 ≡ a → (b : Bool) → cond a (ref_at s p) (cond b (Err p) (char_at s p)) ≡ Ok r → Piece (part s p r)
      go true f b h = ref_sound p r h
      go false f true h = never h
      go false f false h = let g = char_past s p r h in char (char_sound s p r h) (not_alone p r 60 g l) (not_alone p r 38 g f)

  -- ]]> stands nowhere from p up to q
  abbrev pub Clean : ℕ → ℕ → Type 0
  Clean p q = (j : ℕ) → p ≤ j → j < q → has_at (bytes "]]>") s j ≡ false

  -- not at a piece's first byte, nor at another of its bytes
  clean_first : (p r : ℕ) → piece_at s p ≡ Ok r → has_at (bytes "]]>") s p ≡ false
  clean_first p r e = not_so (has_at (bytes "]]>") s p) (λ h. let b = has_byte s 93 (bytes "]>") p h in never (sym (piece_end s p (λ z. omega arith) h) ∙ e))

  clean_rest : (p r j : ℕ) → r ≤ length s → Piece (part s p r) → p < j → j < r → has_at (bytes "]]>") s j ≡ false
  clean_rest p r j w x h k = not_so (has_at (bytes "]]>") s j) (λ e.
      let b = has_byte s 93 (bytes "]>") j e in
      let a = all_at (other 93) (drop 1 (part s p r)) (piece_rest x) (j - p - 1) (omega (arith, length-drop 1 (part s p r), part_length s p r w)) in
      let l : 1 + (j - p - 1) < r - p = omega arith in
      let z : p + (1 + (j - p - 1)) ≡ j = omega arith in
      no (sym (rw (get_or-drop, get_or-take (r - p) (drop p s) (1 + (j - p - 1)) 0 l, get_or-drop, z, b) at a)))

  pub clean_more : (p r q : ℕ) → eqb (byte_at s p) 60 ≡ false → piece_at s p ≡ Ok r → Clean r q → Clean p q
  clean_more p r q l e c j h k = go (leb j p) refl (leb r j) refl
    where
      go : (a : Bool) → leb j p ≡ a → (b : Bool) → leb r j ≡ b → has_at (bytes "]]>") s j ≡ false
      go true f b g = let z : j ≡ p = omega (arith, leb-true j p f) in rw z (clean_first p r e)
      go false f true g = c j (leb-true r j g) k
      go false f false g = clean_rest p r j (piece_past s p r e).within (piece_sound p r l e) (omega (arith, leb-false j p f)) (omega (arith, leb-false r j g))

  pieces_sound : (p q : ℕ) → text_at s p ≡ Ok q → (p ≤ q) × Pieces (part s p q) × Clean p q
  unfolding text_at
  pieces_sound =
      until_ind s (λ r. eqb (byte_at s r) 60) (piece_at s) (λ p q. (p ≤ q) × Pieces (part s p q) × Clean p q)
      (λ p e. (omega arith, rw (part_none s p) none, λ j a b. absurd (omega arith)))
      (λ p r q e f h. let g = piece_past s p r f in
      (omega arith, rw (part_join s p r q (omega arith) h.0) (more (piece_sound p r e f) h.1), clean_more p r q e f h.2))

  pub clean_text : (p q : ℕ) → q ≤ length s → Pieces (part s p q) → Clean p q → Text (part s p q)
  clean_text p q w g c =
      text g (λ a b z.
      let l : length (part s p q) ≡ length (a ++ (bytes "]]>") ++ b) = ap length z in
      let k = rw (part_length s p q w, length-append, length-append) at l in
      no (sym (part_has s p q a (bytes "]]>") b z) ∙ c (p + length a) (omega arith) (omega arith)))

  text_sound : (p q : ℕ) → text_at s p ≡ Ok q → Text (part s p q)
  text_sound p q e =
      let g = pieces_sound p q e in
      let w = text_past s p q e in
      clean_text p q (omega arith) g.1 g.2

  -- NAMES AND TAGS
  pub name_sound : (at e : ℕ) → name_at s at ≡ Ok e → Name (part s at e)
  unfolding name_at is_name_byte is_letter
  name_sound at e h =
      let c = cond_past (is_letter (byte_at s at) && leb (run_end is_name_byte s at - at) 48) (Ok (run_end is_name_byte s at)) at h in
      let b = both (is_letter (byte_at s at)) (leb (run_end is_name_byte s at - at) 48) c.0 in
      let g = name_past s at e h in
      let n : is_name_byte (byte_at s at) ≡ true = rw b.0 in
      let m = run_more is_name_byte s at (omega arith) n in
      let r : run_end is_name_byte s at ≡ e = cc in
      let r' : run_end is_name_byte s (at + 1) ≡ e = cc in
      let k = leb-true (run_end is_name_byte s at - at) 48 b.1 in
      let a : all is_name_byte (part s (at + 1) e) ≡ true = rw r' at (run_part is_name_byte s (at + 1)) in
      rw (part_next s at (at + 1) e refl (omega arith) (omega arith))
      (name {b = byte_at s at} {t = part s (at + 1) e} b.0 a (omega (arith, part_length s (at + 1) e g.within)))

  pub end_sound : (a e p q : ℕ) → a ≤ e → e ≤ length s → end_tag_at s a e p ≡ Ok q → part s p q ≡ end_tag (part s a e)
  unfolding end_tag_at
  end_sound a e p q h k x =
      let c = cond_past (has_at (bytes "</") s p && (has_at (part s a e) s (p + 2) && eqb (byte_at s (p + 2 + (e - a))) 62)) (Ok (p + 2 + (e - a) + 1)) p x in
      let d = both (has_at (bytes "</") s p) (has_at (part s a e) s (p + 2) && eqb (byte_at s (p + 2 + (e - a))) 62) c.0 in
      let f = both (has_at (part s a e) s (p + 2)) (eqb (byte_at s (p + 2 + (e - a))) 62) d.1 in
      let i : p + 2 + (e - a) < length s = stands 61 s (p + 2 + (e - a)) f.1 in
      let l = part_length s a e k in
      let z : p + 2 + (e - a) + 1 ≡ q = cc in
      let y : byte_at s (p + 2 + (e - a)) ≡ 62 = eqb-true _ _ f.1 in
      let j₁ = part_join s p (p + 2 + (e - a)) (p + 2 + (e - a) + 1) (omega arith) (omega arith) in
      let j₂ = part_join s p (p + 2) (p + 2 + (e - a)) (omega arith) (omega arith) in
      let h₁ = has_part s (bytes "</") p d.0 in
      let h₂ = rw l at (has_part s (part s a e) (p + 2) f.0) in
      let b = part_1 s (p + 2 + (e - a)) (p + 2 + (e - a) + 1) (omega arith) refl in
      rw (← z, j₁, j₂, h₁, h₂, b, y)

  -- an element's bytes: a <, its name, a >, its content, its end tag
  pub element_bytes : (p t m q : ℕ) → byte_at s p ≡ 60 → byte_at s t ≡ 62 → t < length s → p < t → t + 1 ≤ m → m ≤ q → part s m q ≡ end_tag (part s (p + 1) t) → part s p q ≡ start_tag (part s (p + 1) t) ++ part s (t + 1) m ++ end_tag (part s (p + 1) t)
  element_bytes p t m q o y i h k l x =
      rw (part_join s p m q (omega arith) l, part_join s p (t + 1) m (omega arith) k, part_join s p t (t + 1) (omega arith) (omega arith), part_next s p (p + 1) t refl (omega arith) (omega arith), part_1 s t (t + 1) (omega arith) refl, o, y, x)

  whole : (d p t m q : ℕ) → byte_at s p ≡ 60 → byte_at s t ≡ 62 → t < length s → p < t → t + 1 ≤ m → m ≤ q → Name (part s (p + 1) t) → Content d (part s (t + 1) m) → part s m q ≡ end_tag (part s (p + 1) t) → Element (suc d) (part s p q)
  whole d p t m q o y i h k l na co x = rw (element_bytes p t m q o y i h k l x) (element na co)

  -- </ has a / behind its <
  closes_slash : (p : ℕ) → has_at (bytes "</") s p ≡ true → byte_at s (p + 1) ≡ 47
  closes_slash p e = has_byte s 47 [] (p + 1) (has_split s (bytes "<") (bytes "/") p (p + 1) refl e).1

  -- ONE LEVEL: where each element inside is of the grammar, so is the content around it
  module _ (d : ℕ) (element_r : ℕ → Result ℕ ℕ) (adv : Steps s element_r) (sound : (p q : ℕ) → byte_at s p ≡ 60 → element_r (p + 1) ≡ Ok q → Element d (part s p q)) where
    -- from p to q nothing where </ stands, elements elsewhere
    abbrev Good : ℕ → ℕ → Type 0
    Good p q = (p ≤ q) × (has_at (bytes "</") s p ≡ true → p ≡ q) × (has_at (bytes "</") s p ≡ false → Elements d (part s p q))

    back : (p r q : ℕ) → has_at (bytes "</") s p ≡ false → child_by element_r s p ≡ Ok r → Good r q → Good p q
    unfolding child_by
    back p r q e f g =
        let c = cond_past (eqb (byte_at s p) 60) (and_then (element_r (p + 1)) (λ t. Ok (white_at s t))) p f in
        let t = then_past (element_r (p + 1)) (λ t. Ok (white_at s t)) c.1 in
        let m = t.0 in
        let a = adv (p + 1) m t.1 in
        let w = run_from is_white s m in
        let k = t.2 in
        let z : white_at s m ≡ r = cc in
        let wh : White (part s m r) = subst (λ (x : ℕ). White (part s m x)) z (white (run_part is_white s m)) in
        let el = sound p m (eqb-true (byte_at s p) 60 c.0) t.1 in
        let j = part_join s p m r (omega arith) (omega arith) in
        let go : (b : Bool) → has_at (bytes "</") s r ≡ b → Elements d (part s p q) = elim [
          | true ↦ λ h. subst (λ (x : ℕ). Elements d (part s p x)) (g.1 h) (rw j (last el wh))
          | false ↦ λ h. rw (part_join s p r q (omega arith) g.0, j) (next el wh (g.2 h))
        ] in
        (omega arith, (λ h. no (sym h ∙ e)), λ h. go (has_at (bytes "</") s r) refl)

    children_sound : (p q : ℕ) → children_by element_r s p ≡ Ok q → Good p q
    unfolding children_by
    children_sound =
        until_ind s (has_at (bytes "</") s) (child_by element_r s) Good
        (λ p e. (omega arith, (λ h. refl), λ h. no (sym e ∙ h)))
        back

    content_sound : (p q : ℕ) → content_by element_r s p ≡ Ok q → Content d (part s p q)
    unfolding content_by
    content_sound p q = go (eqb (byte_at s (white_at s p)) 60) (eqb (byte_at s (white_at s p + 1)) 47) refl
      where
        go : (a b : Bool) → eqb (byte_at s (white_at s p + 1)) 47 ≡ b → cond (a && not b) (children_by element_r s (white_at s p)) (text_at s p) ≡ Ok q → Content d (part s p q)
        go false b e h = only (text_sound p q h)
        go true true e h = only (text_sound p q h)
        go true false e h =
            let g = children_sound (white_at s p) q h in
            let o = not_so (has_at (bytes "</") s (white_at s p)) (λ x. eqb-false _ _ e (closes_slash (white_at s p) x)) in
            rw (part_join s p (white_at s p) q (run_from is_white s p) g.0)
            (elements (white (run_part is_white s p)) (g.2 o))

-- AN ELEMENT, from its < on
pub element_sound : (d : ℕ) (s : List ℕ) (p q : ℕ) → byte_at s p ≡ 60 → element_at d s (p + 1) ≡ Ok q → Element d (part s p q)
unfolding element_at
element_sound zero s p q o e = never e
element_sound (suc d) s p q o e =
    let k = parts (content_by (element_at d s) s) s (p + 1) q e in
    let t = k.0 in
    let m = k.1 in
    let g = name_past s (p + 1) t k.2.name in
    let f = content_past (element_at d s) s (element_past d s) (t + 1) m k.2.holds in
    let h = end_past s (p + 1) t m q k.2.end in
    let x = end_sound s (p + 1) t m q (omega arith) (omega arith) k.2.end in
    let co = content_sound s d (element_at d s) (element_past d s) (element_sound d s) (t + 1) m k.2.holds in
    whole s d p t m q o (eqb-true (byte_at s t) 62 k.2.opens) (omega arith) (omega arith) f.0 (omega arith) (name_sound s (p + 1) t k.2.name) co x

-- CONTENT whose elements have at most d levels
pub content_at_sound : (d : ℕ) (s : List ℕ) (p q : ℕ) → content_at d s p ≡ Ok q → Content d (part s p q)
unfolding content_at
content_at_sound d s = content_sound s d (element_at d s) (element_past d s) (element_sound d s)

-- THE ROOT
module _ (s : List ℕ) where
  -- an Id, and the > behind it
  id_sound : (at e q : ℕ) → at ≤ length s → IdParts s at e q → Id (part s at (e + 1)) × (byte_at s (e + 1) ≡ 62) × (e + 2 ≤ length s)
  id_sound at e q l k =
      let r = k.ends in
      let w = has_within (bytes " Id=\"") s at l k.opens in
      let f = run_within is_name_byte s (at + 5) w in
      let x = has_within (bytes "\">") s e (omega arith) k.closes in
      let c = has_split s (bytes "\"") (bytes ">") e (e + 1) refl k.closes in
      let m = k.some in
      let h = k.short in
      let v : all is_name_byte (part s (at + 5) e) ≡ true = rw r (run_part is_name_byte s (at + 5)) in
      let n = part_length s (at + 5) e (omega arith) in
      let j₁ = part_join s at e (e + 1) (omega arith) (omega arith) in
      let j₂ = part_join s at (at + 5) e (omega arith) (omega arith) in
      let h₁ = has_part s (bytes " Id=\"") at k.opens in
      let h₂ = has_part s (bytes "\"") e c.0 in
      (rw (j₁, j₂, h₁, h₂) (id (part s (at + 5) e) v (omega arith) (omega arith)), has_byte s 62 [] (e + 1) c.1, x)

  -- the start tag of a root, from its < on
  plain_tag : (j e : ℕ) → byte_at s j ≡ 60 → byte_at s e ≡ 62 → j < e → e < length s → part s j (e + 1) ≡ start_tag (part s (j + 1) e)
  plain_tag j e o y h k = rw (part_join s j e (e + 1) (omega arith) (omega arith), part_next s j (j + 1) e refl (omega arith) (omega arith), part_1 s e (e + 1) (omega arith) refl, o, y)

  id_tag : (j e g : ℕ) → byte_at s j ≡ 60 → byte_at s (g + 1) ≡ 62 → j < e → e ≤ g → g + 2 ≤ length s → part s j (g + 2) ≡ bytes "<" ++ part s (j + 1) e ++ part s e (g + 1) ++ bytes ">"
  id_tag j e g o y h k l =
      rw (part_join s j (g + 1) (g + 2) (omega arith) (omega arith), part_join s j e (g + 1) (omega arith) (omega arith), part_next s j (j + 1) e refl (omega arith) (omega arith), part_1 s (g + 1) (g + 2) l (omega arith), o, y)

  tag_sound : (ids : Bool) (j e c : ℕ) → byte_at s j ≡ 60 → j < e → e ≤ length s → tag_end_at ids s e ≡ Ok c → RootTag (part s (j + 1) e) ids (part s j c)
  tag_sound ids j e c o h l t = go (tag_parts ids s e c t)
    where
      go : ((byte_at s e ≡ 62) × (c ≡ e + 1)) ⊎ ((ids ≡ true) × IdParts s e (run_end is_name_byte s (e + 5)) c) → RootTag (part s (j + 1) e) ids (part s j c)
      go (inl k) = let i = stands 61 s e (eq-eqb _ _ k.0) in rw (k.1, plain_tag j e o k.0 h i) plain
      go (inr k) =
          let g = run_end is_name_byte s (e + 5) in
          let d = id_sound e g c l k.1 in
          let m = k.1.some in
          rw (k.0, k.1.past, id_tag j e g o d.1 h (omega arith) d.2) (with_id d.0)

  root_sound : {ids : Bool} {j e c p q : ℕ} → Rooted ids s j e c p q → Root ids (part s j q)
  unfolding content_at
  root_sound {ids} {j} {e} {c} {p} {q} r =
      let l = root_placed s r in
      let n = l.named in
      let ta = tag_sound ids j e c r.opens (omega arith) (omega arith) r.tag in
      let co = content_sound s 11 (element_at 11 s) (element_past 11 s) (element_sound 11 s) c p r.holds in
      let x = end_sound s (j + 1) e p q (omega arith) (omega arith) r.end in
      rw (part_join s j p q (omega arith) (omega arith), part_join s j c p (omega arith) l.held, x) (root (name_sound s (j + 1) e r.name) ta co)

-- THE WHOLE FLOW
optional_sound : (x s : List ℕ) (p : ℕ) → p ≤ length s → (p ≤ optional_at x s p) × (optional_at x s p ≤ length s) × Optional x (part s p (optional_at x s p))
unfolding optional_at
optional_sound x s p h = go (has_at x s p) refl
  where
    go : (b : Bool) → has_at x s p ≡ b → (p ≤ cond b (p + length x) p) × (cond b (p + length x) p ≤ length s) × Optional x (part s p (cond b (p + length x) p))
    go true e = (omega arith, has_within x s p h e, rw (has_part s x p e) present)
    go false e = (omega arith, h, rw (part_none s p) absent)

-- the document in five parts
flow_parts : (ids : Bool) (s : List ℕ) (a b c q : ℕ) → a ≤ b → b ≤ c → c ≤ q → q ≤ length s → Mark (part s 0 a) → Declaration (part s a b) → White (part s b c) → Root ids (part s c q) → White (part s q (length s)) → Document ids s
flow_parts ids s a b c q h k l n ma de wh ro wt =
    let z : part s 0 (length s) ≡ s = take_all (length s - 0) s (omega arith) in
    subst (Document ids) z
    (rw (part_join s 0 q (length s) (omega arith) n, part_join s 0 c q (omega arith) l, part_join s 0 b c (omega arith) k, part_join s 0 a b (omega arith) h)
    (document ma de wh ro wt))

pub flow_sound : (ids : Bool) (s : List ℕ) (j e c : ℕ) → markup_of ids s ≡ Ok (j, e, c) → Document ids s
unfolding root_at
flow_sound ids s j e c h =
    let k = markup_parts ids s j e c h in
    let q = k.1 in
    let r = k.2 in
    let l = root_placed s r in
    let m = optional_sound mark s 0 (omega arith) in
    let a = optional_at mark s 0 in
    let n = optional_sound declaration s a m.1 in
    let b = optional_at declaration s a in
    let z : j ≡ white_at s b = r.at in
    let ro : Root ids (part s (white_at s b) q) = subst (λ (x : ℕ). Root ids (part s x q)) z (root_sound s r) in
    let w : White (part s q (length s)) = subst (λ (x : ℕ). White (part s q x)) r.ends (white (run_part is_white s q)) in
    flow_parts ids s a b (white_at s b) q n.0 (run_from is_white s b) (omega arith) l.within m.2 n.2 (white (run_part is_white s b)) ro w
