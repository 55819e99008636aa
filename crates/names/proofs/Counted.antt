-- What a name's length comes to: of a plain text its bytes, never more than them, and at most six bytes for each that is counted.
use Rattle.std.specs.Prelude.{Result, Ok, Err}
use mathlib.Core.Path.{◌≡◌, refl, ◌∙◌}
use mathlib.Core.List.{List, [], ◌∷◌}
use mathlib.Core.Bool.{Bool, true, false, not, ◌&&◌}
use Prim.Native.Nat.{ℕ, zero, suc, ◌+◌, ◌-◌, ◌*◌, ◌≤◌, ◌<◌}
use native.Mathlib.Omega.{arith}
use lib.ListN.{length, drop}
use lib.Dec.{leb, eqb}
use borrow.Author.Tests.{eqb-true, eqb-false, leb-true, leb-false, le-leb}
use Rattle.scan.specs.Bytes.{byte_at, between, all}
use Rattle.scan.specs.Characters.{char_size_at, char_at}
use Rattle.scan.specs.References.{Reference, ref_at}
use Rattle.scan.proofs.Laws.{both, not_is, in_range, char_sized, ref_is}
use Rattle.names.specs.Names.{references_replaced, characters, anagrafica}
use Rattle.names.specs.Inner.{OnePast}
use Rattle.names.proofs.Laws.{ref_plain, one_char, ascii_size, after_most, one_at_least, none_left, char_most, past_char, past_none, past_amp, past_ref_lem}

-- a text of ASCII bytes without & has as many characters as bytes
pub plain_count : (t : List ℕ) → all (λ b. leb b 127 && not (eqb b 38)) t ≡ true → characters (references_replaced t) ≡ length t
unfolding all
plain_count [] e = none_left 0
plain_count (b ∷ t) e =
    let h = both (leb b 127 && not (eqb b 38)) (all (λ b. leb b 127 && not (eqb b 38)) t) e in
    let g = both (leb b 127) (not (eqb b 38)) h.0 in
    let n = eqb-false b 38 (not_is (eqb b 38) g.1) in
    let z : char_size_at (b ∷ t) 0 - 1 ≡ 0 = ascii_size b (byte_at t 0) (byte_at t 1) (byte_at t 2) (leb-true b 127 g.0) in
    one_char b t (ref_plain b t n) ∙ rw (z, plain_count t h.1)

-- "1 to 140 bytes, counted after the five references are replaced": each name that stood so stands
pub still_stands : (t : List ℕ) → between 1 140 (length (references_replaced t)) ≡ true → anagrafica t ≡ true
unfolding anagrafica
still_stands t e =
    let r = in_range 1 140 (length (references_replaced t)) e in
    rw (le-leb 1 (characters (references_replaced t)) (one_at_least (references_replaced t) r.0), le-leb (characters (references_replaced t)) 140 (omega (arith, after_most 0 (references_replaced t))))

-- AT MOST SIX BYTES
-- what counts as one at a position
pub record Next (t : List ℕ) (i : ℕ) : Type 0 where
  pub end : ℕ
  pub one : OnePast t i end
  pub six : end ≤ i + 6

module _ (t : List ℕ) where
  next : (i : ℕ) → i < length t → Next t i
  next i h = go (eqb (byte_at t i) 38) refl (ref_at t i) refl (char_at t i) refl
    where
      go : (k : Bool) → eqb (byte_at t i) 38 ≡ k → (r : Result ℕ ℕ) → ref_at t i ≡ r → (c : Result ℕ ℕ) → char_at t i ≡ c → Next t i
      go true e (Ok q) f c g =
          let r = ref_is (λ (r : Reference). length r.written ≤ 6) t i q (omega arith, (omega arith, (omega arith, (omega arith, (omega arith, tt))))) f in
          record { end = q; one = past_ref_lem t i h q f; six = omega (arith, r.holds, r.past) }
      go true e (Err q) f c g = record { end = i + 1; one = past_amp t i h q (eqb-true (byte_at t i) 38 e) f; six = omega arith }
      go false e r f (Ok q) g =
          record { end = q; one = past_char t i h (eqb-false (byte_at t i) 38 e) q g; six = omega (arith, char_sized t i q g, char_most t i h) }
      go false e r f (Err q) g = record { end = i + 1; one = past_none t i h (eqb-false (byte_at t i) 38 e) q g; six = omega arith }

  six_each : (n i : ℕ) → length t - i ≤ n → length t ≤ i + 6 * characters (references_replaced (drop i t))
  six_each zero i h = omega arith
  six_each (suc n) i h = go (leb (suc i) (length t)) refl (six_each n)
    where
      go : (k : Bool) → leb (suc i) (length t) ≡ k → ((j : ℕ) → length t - j ≤ n → length t ≤ j + 6 * characters (references_replaced (drop j t))) → length t ≤ i + 6 * characters (references_replaced (drop i t))
      go true e ih =
          let x = next i (leb-true (suc i) (length t) e) in
          let o = x.one in
          let m = ih x.end (omega arith) in
          omega arith
      go false e ih = omega (arith, leb-false (suc i) (length t) e)

-- 140 references of six bytes are the longest name
pub longest : (t : List ℕ) → anagrafica t ≡ true → length t ≤ 840
unfolding anagrafica
longest t e = let r = in_range 1 140 (characters (references_replaced t)) e in let m = six_each t (length t) 0 (omega arith) in omega arith
