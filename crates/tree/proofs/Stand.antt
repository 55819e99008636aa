-- Fields that stand: the list of them as a test, and what it says of the parts.
use Rattle.std.specs.Prelude.{Result, Ok, Err}
use mathlib.Core.Path.{◌≡◌, refl, sym, ap, ◌∙◌}
use mathlib.Core.List.{List, [], ◌∷◌, ◌++◌}
use mathlib.Core.Bool.{Bool, true, false, ◌&&◌}
use Prim.Native.Nat.{ℕ}
use native.Mathlib.Omega.{arith}
use Rattle.scan.proofs.Laws.{both}
use Rattle.fields.specs.declared.Cause.{Cause}
use Rattle.fields.specs.declared.Judged.{Judged}
use Rattle.fields.specs.declared.Judged.TheVariants.{Stands, Breaks}
use Rattle.fields.specs.Fields.{reading_of, field_stands}
use Rattle.fields.proofs.Laws.{stands_holds, holds_value}
use Rattle.schema.specs.declared.Parent.{Parent}
use Rattle.standing.specs.Readings.{Field, first_bad, bad_or, Place, Nowhere}
use Rattle.tree.specs.Tree.{Trees}
use Rattle.tree.specs.Fields.{AllStand, all_none, all_next, FirstBreaks, here, later}
use Rattle.tree.proofs.Levels.{fits_tree, fields_tree}
use Rattle.fields.specs.declared.Value.{Value}

abbrev pub stand : Judged → Bool
stand Stands = true
stand Breaks = false

unfoldable pub all_stand : List Field → Bool
all_stand [] = true
all_stand (f ∷ fs) = stand (field_stands f.form f.text) && all_stand fs

-- trees that have the structure of the parent p, and whose fields stand
pub record Right (d : ℕ) (p : Parent) (ts : Trees) : Type 0 where
  pub fits : fits_tree d p ts ≡ true
  pub stands : all_stand (fields_tree d p ts) ≡ true

pub stand_is : (f : Field) → stand (field_stands f.form f.text) ≡ true → field_stands f.form f.text ≡ Stands
stand_is f e = go (field_stands f.form f.text) e
  where
    go : (w : Judged) → stand w ≡ true → w ≡ Stands
    go Stands h = refl
    go Breaks h = let z : ◌≡◌ {A = ℕ} 0 1 = cc in absurd (omega arith)

-- all stand: none is bad
pub all_stand_lem : (fs : List Field) → AllStand fs → all_stand fs ≡ true
unfolding all_stand
all_stand_lem fs all_none = refl
all_stand_lem fs (all_next {fs = gs} e a) = rw (e, all_stand_lem gs a)

pub stand_all : (fs : List Field) → all_stand fs ≡ true → AllStand fs
unfolding all_stand
stand_all [] e = all_none
stand_all (f ∷ fs) e = let b = both (stand (field_stands f.form f.text)) (all_stand fs) e in all_next (stand_is f b.0) (stand_all fs b.1)

pub no_bad : (fs : List Field) → AllStand fs → first_bad fs ≡ Nowhere
unfolding first_bad
no_bad fs all_none = refl
no_bad fs (all_next {f = f} {fs = gs} e a) = rw ((holds_value f.form f.text e).1, no_bad gs a)

pub bad_none : (fs : List Field) → first_bad fs ≡ Nowhere → AllStand fs
unfolding first_bad
bad_none [] e = all_none
bad_none (f ∷ fs) e = go (reading_of f.form f.text) refl e (bad_none fs)
  where
    go : (r : Result Value Cause) → reading_of f.form f.text ≡ r → bad_or f.lt (first_bad fs) r ≡ Nowhere → (first_bad fs ≡ Nowhere → AllStand fs) → AllStand (f ∷ fs)
    go (Ok v) z h i = all_next (sym (stands_holds f.form f.text (sym z))) (i h)
    go (Err d) z h i = let y : ◌≡◌ {A = ℕ} 0 1 = cc in absurd (omega arith)

-- the first that breaks
pub bad_first : (fs : List Field) (p : ℕ) (c : Cause) → first_bad fs ≡ Place p c → FirstBreaks fs p c
unfolding first_bad
bad_first [] p c e = let z : ◌≡◌ {A = ℕ} 0 1 = cc in absurd (omega arith)
bad_first (f ∷ fs) p c e = go (reading_of f.form f.text) refl e (bad_first fs p c)
  where
    go : (r : Result Value Cause) → reading_of f.form f.text ≡ r → bad_or f.lt (first_bad fs) r ≡ Place p c → (first_bad fs ≡ Place p c → FirstBreaks fs p c) → FirstBreaks (f ∷ fs) p c
    go (Ok v) z h i = later (sym (stands_holds f.form f.text (sym z))) (i h)
    go (Err d) z h i = let y : f.lt ≡ p = cc in let x : d ≡ c = cc in here (z ∙ ap Err x) y

pub first_bad_lem : (fs : List Field) (p : ℕ) (c : Cause) → FirstBreaks fs p c → first_bad fs ≡ Place p c
unfolding first_bad
first_bad_lem fs p c (here {f = f} e z) = rw (e, z)
first_bad_lem fs p c (later {f = f} {fs = gs} e b) = rw ((holds_value f.form f.text e).1, first_bad_lem gs p c b)

-- of two lists
and_assoc : (a b c : Bool) → (a && (b && c)) ≡ ((a && b) && c)
and_assoc true b c = refl
and_assoc false b c = refl

pub stand_both : (xs ys : List Field) → all_stand (xs ++ ys) ≡ (all_stand xs && all_stand ys)
unfolding all_stand
stand_both [] ys = refl
stand_both (f ∷ fs) ys = rw (stand_both fs ys) (and_assoc (stand (field_stands f.form f.text)) (all_stand fs) (all_stand ys))
