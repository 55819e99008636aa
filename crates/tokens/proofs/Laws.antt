-- Laws of the markup's smallest parts, which the crates above cite instead of the definitions' text.
use Rattle.std.specs.Prelude.{Result, Ok, Err}
use mathlib.Core.Path.{◌≡◌, refl, sym, ap, ◌∙◌}
use mathlib.Core.Logic.{◌⊎◌, inl, inr, ⊎_elim}
use mathlib.Core.List.{List}
use mathlib.Core.Bool.{Bool, true, false, cond, not, ◌&&◌}
use Prim.Native.Nat.{ℕ, zero, suc, ◌+◌, ◌-◌, ◌≤◌, ◌<◌}
use native.Mathlib.Omega.{arith}
use lib.ListN.{length}
use lib.Seq.{drop-cons}
use lib.Dec.{leb, eqb}
use borrow.Author.Tests.{eqb-true, eq-eqb, ne_eqb, le-leb, leb-true}
use Rattle.scan.specs.Bytes.{bytes, byte_at, part, between, is_letter, is_name_byte, run_end, starts_with, has_at}
use Rattle.scan.specs.Characters.{is_char, sized, char_at}
use Rattle.scan.specs.References.{ref_at}
use Rattle.scan.proofs.Laws.{never, both, not_is, in_range, cond_past, Advance, inside, stands, run_more, run_from, run_within, has_within, ref_past, char_past, char_some, size_one}
use Rattle.tokens.specs.Tokens.{and_then, repeat, until, name_at, id_at, tag_end_at, piece_at, text_at, end_tag_at, optional_at, is_plain}

pub then_past : (w : Result ℕ ℕ) (k : ℕ → Result ℕ ℕ) {q : ℕ} → and_then w k ≡ Ok q → (p : ℕ) × (w ≡ Ok p) × (k p ≡ Ok q)
then_past (Ok p) k e = (p, refl, e)
then_past (Err p) k e = never e

-- REPEATED STEPS
-- each step passes over a byte of s
abbrev pub Steps : List ℕ → (ℕ → Result ℕ ℕ) → Type 0
Steps s step = (p q : ℕ) → step p ≡ Ok q → Advance s p q

module _ (s : List ℕ) (stop : ℕ → Bool) (step : ℕ → Result ℕ ℕ) (steps : Steps s step) where
  -- two limits that are large enough give the same answer
  enough : (n m p : ℕ) → length s - p < n → length s - p < m → repeat n stop step p ≡ repeat m stop step p
  unfolding repeat
  enough zero m p h k = absurd (omega arith)
  enough (suc n) zero p h k = absurd (omega arith)
  enough (suc n) (suc m) p h k = ap (cond (stop p) (Ok p)) (go (step p) refl (enough n m))
    where
      go : (w : Result ℕ ℕ) → step p ≡ w → ((q : ℕ) → length s - q < n → length s - q < m → repeat n stop step q ≡ repeat m stop step q) → and_then w (repeat n stop step) ≡ and_then w (repeat m stop step)
      go (Ok q) e more = let g = steps p q e in more q (omega arith) (omega arith)
      go (Err q) e more = refl

  -- the laws of `until`: it stops, it steps, it breaks
  pub until_stop : {p : ℕ} → stop p ≡ true → until s stop step p ≡ Ok p
  unfolding until repeat
  until_stop {p} e = rw e

  pub until_step : {p q : ℕ} → stop p ≡ false → step p ≡ Ok q → until s stop step p ≡ until s stop step q
  unfolding until repeat
  until_step {p} {q} e f = let g = steps p q f in rw (e, f) (enough (length s) (suc (length s)) q (omega arith) (omega arith))

  pub until_broken : {p q : ℕ} → stop p ≡ false → step p ≡ Err q → until s stop step p ≡ Err q
  unfolding until repeat
  until_broken {p} {q} e f = rw (e, f)

  -- where it stops, `stop` holds, and it never goes back
  repeat_past : (n p q : ℕ) → repeat n stop step p ≡ Ok q → (p ≤ q) × (stop q ≡ true)
  unfolding repeat
  repeat_past zero p q e = never e
  repeat_past (suc n) p q e = go (stop p) refl (step p) refl (repeat_past n) e
    where
      go : (b : Bool) → stop p ≡ b → (w : Result ℕ ℕ) → step p ≡ w → ((r q : ℕ) → repeat n stop step r ≡ Ok q → (r ≤ q) × (stop q ≡ true)) → cond b (Ok p) (and_then w (repeat n stop step)) ≡ Ok q → (p ≤ q) × (stop q ≡ true)
      go true eb w ew more h = let z : p ≡ q = cc in (omega arith, rw (← z) eb)
      go false eb (Ok r) ew more h = let g = steps p r ew in let m = more r q h in (omega arith, m.1)
      go false eb (Err r) ew more h = never h

  pub until_past : {p q : ℕ} → until s stop step p ≡ Ok q → (p ≤ q) × (stop q ≡ true)
  unfolding until
  until_past {p} {q} e = repeat_past (suc (length s)) p q e

-- NAMES
pub name_past : (s : List ℕ) (at e : ℕ) → name_at s at ≡ Ok e → Advance s at e
unfolding name_at is_name_byte is_letter
name_past s at e h =
    let c = cond_past (is_letter (byte_at s at) && leb (run_end is_name_byte s at - at) 48) (Ok (run_end is_name_byte s at)) at h in
    let l = (both (is_letter (byte_at s at)) (leb (run_end is_name_byte s at - at) 48) c.0).0 in
    let i : at < length s = inside is_letter s at refl l in
    let n : is_name_byte (byte_at s at) ≡ true = rw l in
    let m = run_more is_name_byte s at i n in
    let f = run_from is_name_byte s (at + 1) in
    let w = run_within is_name_byte s at (omega arith) in
    let r : run_end is_name_byte s at ≡ e = cc in
    record { on = omega arith; within = omega arith }

-- name_at, a way out of the code at a time: e is the end of the run
module _ (s : List ℕ) (at : ℕ) where
  pub name_none : is_letter (byte_at s at) ≡ false → name_at s at ≡ Err at
  unfolding name_at
  name_none l = rw l

  module _ (l : is_letter (byte_at s at) ≡ true) (e : ℕ) (r : e ≡ run_end is_name_byte s at) where
    pub name_some : e - at ≤ 48 → name_at s at ≡ Ok e
    unfolding name_at
    name_some h = rw (← r, l, le-leb (e - at) 48 h)

-- AN ID
-- id_at, a way out of the code at a time: e is the end of its value
module _ (s : List ℕ) (at : ℕ) (h : has_at (bytes " Id=\"") s at ≡ true) (e : ℕ) (r : e ≡ run_end is_name_byte s (at + 5)) (l : at + 5 < e) (k : e - (at + 5) ≤ 64) where
  pub id_some : has_at (bytes "\">") s e ≡ true → id_at s at ≡ Ok (e + 2)
  unfolding id_at
  id_some x = rw (← r, h, le-leb 1 (e - (at + 5)) (omega arith), le-leb (e - (at + 5)) 64 k, x)

-- what an Id that is read is made of
pub record IdParts (s : List ℕ) (at e q : ℕ) : Type 0 where
  pub opens : has_at (bytes " Id=\"") s at ≡ true
  pub ends : e ≡ run_end is_name_byte s (at + 5)
  pub some : at + 5 < e
  pub short : e - (at + 5) ≤ 64
  pub closes : has_at (bytes "\">") s e ≡ true
  pub past : q ≡ e + 2

pub id_parts : (s : List ℕ) (at q : ℕ) → id_at s at ≡ Ok q → IdParts s at (run_end is_name_byte s (at + 5)) q
unfolding id_at
id_parts s at q h =
    let e = run_end is_name_byte s (at + 5) in
    let c = cond_past (has_at (bytes " Id=\"") s at && (between 1 64 (e - (at + 5)) && has_at (bytes "\">") s e)) (Ok (e + 2)) at h in
    let a = both (has_at (bytes " Id=\"") s at) (between 1 64 (e - (at + 5)) && has_at (bytes "\">") s e) c.0 in
    let b = both (between 1 64 (e - (at + 5))) (has_at (bytes "\">") s e) a.1 in
    let r = in_range 1 64 (e - (at + 5)) b.0 in
    let f = c.1 in
    let z : q ≡ e + 2 = cc in
    record { opens = a.0; ends = refl; some = omega arith; short = r.1; closes = b.1; past = z }

-- tag_end_at, a way out of the code at a time
module _ (s : List ℕ) (at : ℕ) where
  pub tag_plain : (ids : Bool) → byte_at s at ≡ 62 → tag_end_at ids s at ≡ Ok (at + 1)
  unfolding tag_end_at
  tag_plain ids e = rw (eq-eqb _ _ e)

  module _ (e : byte_at s at ≡ 62 → ⊥) where
    pub tag_id : (ids : Bool) → ids ≡ true → tag_end_at ids s at ≡ id_at s at
    unfolding tag_end_at
    tag_id ids i = rw (ne_eqb _ _ e, i)

-- what is read there is a >, or an Id where one may stand
pub tag_parts : (ids : Bool) (s : List ℕ) (at q : ℕ) → tag_end_at ids s at ≡ Ok q
    → ((byte_at s at ≡ 62) × (q ≡ at + 1)) ⊎ ((ids ≡ true) × IdParts s at (run_end is_name_byte s (at + 5)) q)
unfolding tag_end_at
tag_parts ids s at q h = go (eqb (byte_at s at) 62) refl ids h
  where
    go : (b : Bool) → eqb (byte_at s at) 62 ≡ b → (i : Bool) → cond b (Ok (at + 1)) (cond i (id_at s at) (Err at)) ≡ Ok q
        → ((byte_at s at ≡ 62) × (q ≡ at + 1)) ⊎ ((i ≡ true) × IdParts s at (run_end is_name_byte s (at + 5)) q)
    go true e i h = let z : q ≡ at + 1 = cc in inl (eqb-true _ _ e, z)
    go false e true h = inr (refl, id_parts s at q h)
    go false e false h = never h

pub tag_past : (ids : Bool) (s : List ℕ) (at q : ℕ) → at ≤ length s → tag_end_at ids s at ≡ Ok q → Advance s at q
tag_past ids s at q l h = ⊎_elim plain id (tag_parts ids s at q h)
  where
    plain : (byte_at s at ≡ 62) × (q ≡ at + 1) → Advance s at q
    plain k = let i = stands 61 s at (eq-eqb _ _ k.0) in let z = k.1 in record { on = omega arith; within = omega arith }

    id : (ids ≡ true) × IdParts s at (run_end is_name_byte s (at + 5)) q → Advance s at q
    id k =
        let w = run_within is_name_byte s (at + 5) (has_within (bytes " Id=\"") s at l k.1.opens) in
        let x = has_within (bytes "\">") s (run_end is_name_byte s (at + 5)) w k.1.closes in
        let y = k.1.some in
        let z = k.1.past in
        record { on = omega arith; within = omega arith }

-- PIECES OF A TEXT
pub piece_past : (s : List ℕ) → Steps s (piece_at s)
unfolding piece_at
piece_past s p q e = go (eqb (byte_at s p) 38) (has_at (bytes "]]>") s p) e
  where
    go : (a b : Bool) → cond a (ref_at s p) (cond b (Err p) (char_at s p)) ≡ Ok q → Advance s p q
    go true b h = ref_past s p q h
    go false true h = never h
    go false false h = char_past s p q h

-- piece_at, a way out of the code at a time
module _ (s : List ℕ) (at : ℕ) where
  pub piece_ref : byte_at s at ≡ 38 → piece_at s at ≡ ref_at s at
  unfolding piece_at
  piece_ref e = rw (eq-eqb _ _ e)

  module _ (e : byte_at s at ≡ 38 → ⊥) where
    pub piece_end : has_at (bytes "]]>") s at ≡ true → piece_at s at ≡ Err at
    unfolding piece_at
    piece_end h = rw (ne_eqb _ _ e, h)

    pub piece_char : has_at (bytes "]]>") s at ≡ false → piece_at s at ≡ char_at s at
    unfolding piece_at
    piece_char h = rw (ne_eqb _ _ e, h)

-- is_plain, a way out of the code at a time
module _ (b : ℕ) (h : 32 ≤ b) (k : b ≤ 127) where
  pub plain_other : (b ≡ 38 → ⊥) → is_plain b ≡ not (eqb b 93)
  unfolding is_plain
  plain_other e = rw (le-leb 32 b h, le-leb b 127 k, ne_eqb _ _ e)

-- an ASCII byte from 20 on is a character of one byte
pub char_plain : (s : List ℕ) (at : ℕ) → 32 ≤ byte_at s at → byte_at s at ≤ 127 → char_at s at ≡ Ok (at + 1)
unfolding sized is_char
char_plain s at l h = char_some s at 1 (sym (size_one refl refl refl refl h ∙ go)) (λ e. omega arith)
  where
    go : sized 1 0 (byte_at s at) ≡ 1
    go = rw (le-leb 0 (byte_at s at) (omega arith), le-leb 32 (byte_at s at) l, le-leb (byte_at s at) 55295 (omega arith), ne_eqb (byte_at s at) 9 (λ e. omega arith), ne_eqb (byte_at s at) 10 (λ e. omega arith), ne_eqb (byte_at s at) 13 (λ e. omega arith))

-- a plain byte is passed over
pub plain_piece : (s : List ℕ) (i : ℕ) → i < length s → is_plain (byte_at s i) ≡ true → piece_at s i ≡ Ok (i + 1)
unfolding is_plain piece_at has_at starts_with
plain_piece s i h e =
    let a = both (leb 32 (byte_at s i) && leb (byte_at s i) 127) (not (eqb (byte_at s i) 38) && not (eqb (byte_at s i) 93)) e in
    let l = both (leb 32 (byte_at s i)) (leb (byte_at s i) 127) a.0 in
    let c = both (not (eqb (byte_at s i) 38)) (not (eqb (byte_at s i) 93)) a.1 in
    let x : eqb (byte_at s i) 38 ≡ false = not_is (eqb (byte_at s i) 38) c.0 in
    let y : eqb (byte_at s i) 93 ≡ false = not_is (eqb (byte_at s i) 93) c.1 in
    rw (x, drop-cons s i 0 h, y) (char_plain s i (leb-true 32 (byte_at s i) l.0) (leb-true (byte_at s i) 127 l.1))

-- TEXT, a piece at a time. It stops at a <, at or after its start
pub text_past : (s : List ℕ) (p q : ℕ) → text_at s p ≡ Ok q → (p ≤ q) × (q < length s)
unfolding text_at
text_past s p q e =
    let u = until_past s (λ r. eqb (byte_at s r) 60) (piece_at s) (piece_past s) e in
    (u.0, stands 59 s q u.1)

module _ (s : List ℕ) (i : ℕ) where
  pub text_stop : byte_at s i ≡ 60 → text_at s i ≡ Ok i
  unfolding text_at
  text_stop e = until_stop s (λ r. eqb (byte_at s r) 60) (piece_at s) (piece_past s) (eq-eqb _ _ e)

  pub text_step : (q : ℕ) → (byte_at s i ≡ 60 → ⊥) → piece_at s i ≡ Ok q → text_at s i ≡ text_at s q
  unfolding text_at
  text_step q e f = until_step s (λ r. eqb (byte_at s r) 60) (piece_at s) (piece_past s) (ne_eqb _ _ e) f

  pub text_broken : (q : ℕ) → (byte_at s i ≡ 60 → ⊥) → piece_at s i ≡ Err q → text_at s i ≡ Err q
  unfolding text_at
  text_broken q e f = until_broken s (λ r. eqb (byte_at s r) 60) (piece_at s) (piece_past s) (ne_eqb _ _ e) f

  pub text_plain : i < length s → (byte_at s i ≡ 60 → ⊥) → is_plain (byte_at s i) ≡ true → text_at s i ≡ text_at s (i + 1)
  text_plain h l e = text_step (i + 1) l (plain_piece s i h e)

-- END TAGS
pub end_past : (s : List ℕ) (a e p q : ℕ) → end_tag_at s a e p ≡ Ok q → Advance s p q
unfolding end_tag_at
end_past s a e p q h =
    let c = cond_past (has_at (bytes "</") s p && (has_at (part s a e) s (p + 2) && eqb (byte_at s (p + 2 + (e - a))) 62)) (Ok (p + 2 + (e - a) + 1)) p h in
    let d = both (has_at (bytes "</") s p) (has_at (part s a e) s (p + 2) && eqb (byte_at s (p + 2 + (e - a))) 62) c.0 in
    let f = both (has_at (part s a e) s (p + 2)) (eqb (byte_at s (p + 2 + (e - a))) 62) d.1 in
    let i : p + 2 + (e - a) < length s = stands 61 s (p + 2 + (e - a)) f.1 in
    let z : p + 2 + (e - a) + 1 ≡ q = cc in
    record { on = omega arith; within = omega arith }

-- end_tag_at, a way out of the code at a time
module _ (s : List ℕ) (a e p : ℕ) (h : has_at (bytes "</") s p ≡ true) where
  -- the place of the name
  pub end_inside : p ≤ length s → p + 2 ≤ length s
  end_inside l = has_within (bytes "</") s p l h

  module _ (k : has_at (part s a e) s (p + 2) ≡ true) where
    pub end_some : byte_at s (p + 2 + (e - a)) ≡ 62 → end_tag_at s a e p ≡ Ok (p + 2 + (e - a) + 1)
    unfolding end_tag_at
    end_some x = rw (h, k, eq-eqb _ _ x)

-- OPTIONAL BYTES
pub optional_within : (x s : List ℕ) (at : ℕ) → at ≤ length s → optional_at x s at ≤ length s
unfolding optional_at
optional_within x s at h = go (has_at x s at) refl
  where
    go : (b : Bool) → has_at x s at ≡ b → cond b (at + length x) at ≤ length s
    go true e = has_within x s at h e
    go false e = h
