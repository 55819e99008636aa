-- Laws of the notes, and that a reader of more levels reads no less.
use Rattle.std.specs.Prelude.{Option, Result, Some, None, Ok, Err}
use mathlib.Core.Path.{◌≡◌, refl, sym, ◌∙◌}
use mathlib.Core.List.{List}
use mathlib.Core.Bool.{Bool, true, false, cond, not, ◌&&◌}
use Prim.Native.Nat.{ℕ, zero, suc, ◌+◌, ◌-◌, ◌/◌, ◌%◌, ◌≤◌, ◌<◌}
use native.Mathlib.Omega.{arith}
use lib.ListN.{length, get_or, set, replicate, get_or-replicate, length-replicate, get_or-eq_default}
use lib.Seq.{get_or-set_same, get_or-set_other, set_out}
use lib.Dec.{eqb, leb}
use borrow.Author.Tests.{eqb-true, eqb-false, eq-eqb, ne_eqb, le-leb, lt-leb, leb-true, leb-false}
use Rattle.scan.specs.Bytes.{bytes, byte_at, has_at, is_letter, is_name_byte, run_end}
use Rattle.scan.proofs.Laws.{never, both, cond_past}
use Rattle.tokens.specs.Tokens.{and_then, repeat, until, name_at, white_at, text_at}
use Rattle.tokens.proofs.Laws.{then_past, name_past}
use Rattle.std.proofs.lemmas.Option.{some_pair_parts}
use Rattle.markup.specs.Markup.{element_by, child_by, children_by, content_by, element_at}
use Rattle.markup.specs.Noted.{note_for, said_of, note_of, Noted, note_in}
use Rattle.markup.proofs.Laws.{parts}

-- g reads at least what f reads
abbrev pub More : (ℕ → Result ℕ ℕ) → (ℕ → Result ℕ ℕ) → Type 0
More f g = (p q : ℕ) → f p ≡ Ok q → g p ≡ Ok q

repeat_more : (stop : ℕ → Bool) (f g : ℕ → Result ℕ ℕ) → More f g → (n : ℕ) → More (repeat n stop f) (repeat n stop g)
unfolding repeat
repeat_more stop f g m zero p q e = never e
repeat_more stop f g m (suc n) p q e = go (stop p) (f p) refl (repeat_more stop f g m n) e
  where
    go : (b : Bool) (w : Result ℕ ℕ) → f p ≡ w → More (repeat n stop f) (repeat n stop g) → cond b (Ok p) (and_then w (repeat n stop f)) ≡ Ok q → cond b (Ok p) (and_then (g p) (repeat n stop g)) ≡ Ok q
    go true w ew ih h = h
    go false (Ok r) ew ih h = rw (m p r ew) (ih r q h)
    go false (Err r) ew ih h = never h

child_more : (f g : ℕ → Result ℕ ℕ) (s : List ℕ) → More f g → More (child_by f s) (child_by g s)
unfolding child_by
child_more f g s m p q e =
    let c = cond_past (eqb (byte_at s p) 60) (and_then (f (p + 1)) (λ r. Ok (white_at s r))) p e in
    let d = then_past (f (p + 1)) (λ r. Ok (white_at s r)) c.1 in
    rw (c.0, m (p + 1) d.0 d.1) d.2

pub content_more : (f g : ℕ → Result ℕ ℕ) (s : List ℕ) → More f g → More (content_by f s) (content_by g s)
unfolding content_by children_by until
content_more f g s m p q = go (eqb (byte_at s (white_at s p)) 60 && not (eqb (byte_at s (white_at s p + 1)) 47))
  where
    go : (b : Bool) → cond b (repeat (suc (length s)) (has_at (bytes "</") s) (child_by f s) (white_at s p)) (text_at s p) ≡ Ok q → cond b (repeat (suc (length s)) (has_at (bytes "</") s) (child_by g s) (white_at s p)) (text_at s p) ≡ Ok q
    go true h = repeat_more (has_at (bytes "</") s) (child_by f s) (child_by g s) (child_more f g s m) (suc (length s)) (white_at s p) q h
    go false h = h

-- one level more reads no less
pub element_more : (d : ℕ) (s : List ℕ) → More (element_at d s) (element_at (suc d) s)
unfolding element_at element_by
element_more zero s p q e = never e
element_more (suc d) s p q e =
    let k = parts (content_by (element_at d s) s) s p q e in
    rw (k.2.name, k.2.opens, content_more (element_at d s) (element_at (suc d) s) s (element_more d s) (k.0 + 1) k.1 k.2.holds) k.2.end

-- an element that d levels read, any more levels read the same
pub element_many : (n d m : ℕ) (s : List ℕ) → m ≡ n + d → More (element_at d s) (element_at m s)
element_many zero d m s h p q e = let z : m ≡ d = omega arith in rw z e
element_many (suc n) d zero s h p q e = absurd (omega arith)
element_many (suc n) d (suc m) s h p q e = element_more m s p q (element_many n d m s (omega arith) p q e)

pub element_twelve : (d : ℕ) (s : List ℕ) (p q : ℕ) → d ≤ 12 → element_at d s p ≡ Ok q → element_at 12 s p ≡ Ok q
element_twelve d s p q h e = element_many (12 - d) d 12 s (omega arith) p q e

-- a name has at most 48 bytes
pub name_short : (s : List ℕ) (at e : ℕ) → name_at s at ≡ Ok e → e ≤ at + 48
unfolding name_at
name_short s at e h =
    let c = cond_past (is_letter (byte_at s at) && leb (run_end is_name_byte s at - at) 48) (Ok (run_end is_name_byte s at)) at h in
    let l = (both (is_letter (byte_at s at)) (leb (run_end is_name_byte s at - at) 48) c.0).1 in
    let f = c.1 in
    let r : run_end is_name_byte s at ≡ e = cc in
    omega (arith, leb-true (run_end is_name_byte s at - at) 48 l)

-- a number that is not meant for the place says nothing of it
unmeant : (at n : ℕ) → (n / 4194304 ≡ at % 4 + 1 → ⊥) → said_of at n ≡ None
unmeant at n h = rw (ne_eqb (n / 4194304) (at % 4 + 1) h)

-- what is noted is said
module _ (at k q : ℕ) (h : k ≤ 48) (f : q ≤ 65535) where
  meant : note_for at k q / 4194304 ≡ at % 4 + 1
  meant = omega arith

  said : said_of at (note_for at k q) ≡ Some (k, q)
  said =
      let a : note_for at k q / 65536 % 64 ≡ k = omega arith in
      let b : note_for at k q % 65536 ≡ q = omega arith in
      rw (eq-eqb (note_for at k q / 4194304) (at % 4 + 1) meant) (λ i. Some ((a i), (b i)))

  said_other : (p : ℕ) → (p % 4 ≡ at % 4 → ⊥) → said_of p (note_for at k q) ≡ None
  said_other p n = unmeant p (note_for at k q) (λ e. n (omega (arith, meant)))

-- a place has one note
one_note : {k l q r : ℕ} → ◌≡◌ {A = Option (ℕ × ℕ)} (Some (k, q)) (Some (l, r)) → (k ≡ l) × (q ≡ r)
one_note {k = k} {l = l} {q = q} {r = r} e = some_pair_parts k l q r e

-- nothing is no note
nothing : {A : Type 0} {k q : ℕ} (n : Option (ℕ × ℕ)) → n ≡ None → n ≡ Some (k, q) → A
nothing n e f = let z : ◌≡◌ {A = ℕ} 0 1 = cc in absurd (omega arith)

-- with nothing noted all notes are true
pub noted_none : (s : List ℕ) (n : ℕ) → Noted s (replicate n 0)
unfolding Noted note_of
noted_none s n p k q h = nothing (note_of (replicate n 0) p) (rw (zeros (leb (suc (p / 4)) n) refl) (unmeant p 0 (λ z. omega arith))) h
  where
    zeros : (b : Bool) → leb (suc (p / 4)) n ≡ b → ◌≡◌ {A = ℕ} (get_or (replicate n 0) (p / 4) 0) 0
    zeros true e = get_or-replicate n (p / 4) 0 0 (leb-true (suc (p / 4)) n e)
    zeros false e = get_or-eq_default (replicate n 0) 0 (omega (arith, leb-false (suc (p / 4)) n e, length-replicate {A = ℕ} n 0))

-- a true note may be set
module _ (s past : List ℕ) (at e q : ℕ) (h : Noted s past) (n : name_at s at ≡ Ok e) (m : element_at 12 s at ≡ Ok q) (f : q ≤ 65535) where
  abbrev number : ℕ
  number = note_for at (e - at) q

  abbrev after : List ℕ
  after = set past (at / 4) number

  long : e - at ≤ 48
  long = omega (arith, name_short s at e n)

  -- of the place itself, of another of its four, of a place elsewhere, of a place past the notes
  set_own : (k r : ℕ) → at / 4 < length past → note_of after at ≡ Some (k, r) → (element_at 12 s at ≡ Ok r) × (name_at s at ≡ Ok (at + k))
  unfolding note_of
  set_own k r w d =
      let z = get_or-set_same past (at / 4) number 0 w in
      let o = one_note (sym (said at (e - at) q long f) ∙ (rw z at d)) in
      let x : at + k ≡ e = omega (arith, o.0, (name_past s at e n).on) in
      (rw (← o.1) m, rw x n)

  set_beside : (p k r : ℕ) → at / 4 < length past → p / 4 ≡ at / 4 → (p % 4 ≡ at % 4 → ⊥) → note_of after p ≡ Some (k, r) → (element_at 12 s p ≡ Ok r) × (name_at s p ≡ Ok (p + k))
  unfolding note_of
  set_beside p k r w z o d =
      let y = get_or-set_same past (at / 4) number 0 w in
      nothing (note_of after p) (rw (z, y) (said_other at (e - at) q long f p o)) d

  set_elsewhere : (p k r : ℕ) → (p / 4 ≡ at / 4 → ⊥) → note_of after p ≡ Some (k, r) → (element_at 12 s p ≡ Ok r) × (name_at s p ≡ Ok (p + k))
  unfolding Noted note_of
  set_elsewhere p k r z d = h p k r (rw (get_or-set_other past (at / 4) (p / 4) number 0 z) at d)

  noted_set : Noted s after
  unfolding Noted
  noted_set p k r d = go (leb (suc (at / 4)) (length past)) refl (eqb (p / 4) (at / 4)) refl (eqb (p % 4) (at % 4)) refl
    where
      go : (b : Bool) → leb (suc (at / 4)) (length past) ≡ b → (c : Bool) → eqb (p / 4) (at / 4) ≡ c → (g : Bool) → eqb (p % 4) (at % 4) ≡ g → (element_at 12 s p ≡ Ok r) × (name_at s p ≡ Ok (p + k))
      go true eb true ec true eg =
          let x : p ≡ at = omega (arith, eqb-true (p / 4) (at / 4) ec, eqb-true (p % 4) (at % 4) eg) in
          rw x (set_own k r (leb-true (suc (at / 4)) (length past) eb) (rw x at d))
      go true eb true ec false eg = set_beside p k r (leb-true (suc (at / 4)) (length past) eb) (eqb-true _ _ ec) (eqb-false _ _ eg) d
      go true eb false ec g eg = set_elsewhere p k r (eqb-false _ _ ec) d
      go false eb c ec g eg = h p k r (rw (set_out past (at / 4) number (omega (arith, leb-false (suc (at / 4)) (length past) eb))) at d)

-- what is read may be noted
pub noted_more : (s past : List ℕ) (d p e q : ℕ) → Noted s past → d ≤ 12 → name_at s p ≡ Ok e → element_at d s p ≡ Ok q → Noted s (note_in past p e q)
unfolding note_in
noted_more s past d p e q h l n m = go (leb q 65535) refl
  where
    go : (b : Bool) → leb q 65535 ≡ b → Noted s (cond b (set past (p / 4) (note_for p (e - p) q)) past)
    go true k = noted_set s past p e q h n (element_twelve d s p q l m) (leb-true q 65535 k)
    go false k = h

-- what is noted was read
pub noted_read : (s past : List ℕ) (p k q : ℕ) → Noted s past → Some (k, q) ≡ note_of past p → (element_at 12 s p ≡ Ok q) × (name_at s p ≡ Ok (p + k))
unfolding Noted
noted_read s past p k q h w = h p k q (sym w)

-- note_in and note_of, a way out of the code at a time
module _ (past : List ℕ) (at e q : ℕ) where
  pub note_fits : q ≤ 65535 → note_in past at e q ≡ set past (at / 4) (note_for at (e - at) q)
  unfolding note_in
  note_fits h = rw (le-leb q 65535 h)

  pub note_large : 65535 < q → note_in past at e q ≡ past
  unfolding note_in
  note_large h = rw (lt-leb q 65535 h)

  pub note_out : length past ≤ at / 4 → note_in past at e q ≡ past
  unfolding note_in
  note_out h = go (leb q 65535)
    where
      go : (b : Bool) → cond b (set past (at / 4) (note_for at (e - at) q)) past ≡ past
      go true = set_out past (at / 4) (note_for at (e - at) q) h
      go false = refl

module _ (past : List ℕ) (at : ℕ) where
  pub note_past : length past ≤ at / 4 → note_of past at ≡ None
  unfolding note_of
  note_past h = rw (get_or-eq_default past 0 h) (unmeant at 0 (λ e. omega arith))

  pub note_meant : get_or past (at / 4) 0 / 4194304 ≡ at % 4 + 1 → note_of past at ≡ Some ((get_or past (at / 4) 0 / 65536 % 64), (get_or past (at / 4) 0 % 65536))
  unfolding note_of
  note_meant h = rw (eq-eqb _ _ h)

  pub note_unmeant : (get_or past (at / 4) 0 / 4194304 ≡ at % 4 + 1 → ⊥) → note_of past at ≡ None
  unfolding note_of
  note_unmeant h = unmeant at (get_or past (at / 4) 0) h
