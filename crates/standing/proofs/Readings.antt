-- Laws of the fields and of the first that breaks.
use Rattle.std.specs.Prelude.{Result, Ok, Err}
use mathlib.Core.Path.{◌≡◌, refl, ap}
use mathlib.Core.List.{List, [], ◌∷◌, ◌++◌}
use Prim.Native.Nat.{ℕ, zero, suc, ◌-◌}
use native.Mathlib.Omega.{arith}
use Rattle.tokens.specs.Tokens.{white_at}
use Rattle.fields.specs.Fields.{reading_of}
use Rattle.schema.specs.declared.Parent.{Parent}
use Rattle.rows.specs.Kept.{kept_from}
use Rattle.standing.specs.Readings.{Field, Bad, Place, Nowhere, fields_by, fields_at, bad_or, first_bad}
use Rattle.standing.specs.Walk.{below}
use Rattle.fields.specs.declared.Value.{Value}
use Rattle.fields.specs.declared.Cause.{Cause}

-- the first place, else the second
abbrev pub or_bad : Bad → Bad → Bad
or_bad (Place p c) b = Place p c
or_bad Nowhere b = b

pub bad_append : (xs ys : List Field) → first_bad (xs ++ ys) ≡ or_bad (first_bad xs) (first_bad ys)
unfolding first_bad
bad_append [] ys = refl
bad_append (f ∷ xs) ys = go (reading_of f.form f.text) (bad_append xs ys)
  where
    go : (r : Result Value Cause) → first_bad (xs ++ ys) ≡ or_bad (first_bad xs) (first_bad ys) → bad_or f.lt (first_bad (xs ++ ys)) r ≡ or_bad (bad_or f.lt (first_bad xs) r) (first_bad ys)
    go (Ok v) e = e
    go (Err c) e = refl

pub fields_level : (d : ℕ) (p : Parent) (s : List ℕ) (at : ℕ) → (d ≡ 0 → ⊥) → fields_at d p s at ≡ fields_by (below d s) s (kept_from p s (white_at s at))
unfolding fields_at
fields_level zero p s at f = absurd (f refl)
fields_level (suc e) p s at f = let z : e ≡ suc e - 1 = omega arith in ap (λ (x : ℕ). fields_by (λ q a. fields_at x q s a) s (kept_from p s (white_at s at))) z
