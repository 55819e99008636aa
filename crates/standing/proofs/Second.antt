-- The second walk: the first field that breaks, found; and what the two walks come to together.
use Rattle.std.specs.Prelude.{Option, Result, Some, None, Ok, Err}
use mathlib.Core.Path.{◌≡◌, refl, sym, ◌∙◌}
use mathlib.Core.List.{List, [], ◌∷◌}
use mathlib.Core.Bool.{Bool, true, false}
use Prim.Native.Nat.{ℕ, ◌+◌, ◌-◌, ◌≤◌}
use native.Mathlib.Omega.{arith}
use lib.ListN.{length}
use Rattle.tokens.specs.Tokens.{white_at}
use Rattle.children.specs.declared.Child.{Child}
use Rattle.schema.specs.declared.Parent.{Parent}
use Rattle.schema.specs.declared.Holds as held
use Rattle.schema.specs.declared.Holds.TheVariants.{Text, Rows}
use Rattle.rows.specs.declared.Kept.{Kept}
use Rattle.rows.specs.Kept.{kept_from, next_of}
use Rattle.rows.specs.Replaces.{rows_for}
use Rattle.rows.proofs.Laws.{next_at, next_done}
use Rattle.structure.specs.Structure.{fits_at}
use Rattle.standing.specs.declared.Breaking.{Breaking}
use Rattle.standing.specs.declared.Breaking.TheVariants.{Structure, Field}
use Rattle.standing.specs.declared.Flaw.{Flaw}
use Rattle.standing.specs.declared.Flaw.TheVariants.{StructureBreaks, FieldBreaks}
use Rattle.standing.specs.Readings.{Bad, Place, Nowhere, bad_or, fields_in, fields_by, fields_at, first_bad}
use Rattle.standing.specs.Standing.{standing_by_fields, standing_by, standing_at, forget, bad_at, sound}
use Rattle.standing.specs.Walk.{below}
use Rattle.standing.proofs.Readings.{or_bad, bad_append, fields_level}
use Rattle.fields.specs.declared.Value.{Value}
use Rattle.fields.specs.declared.Cause.{Cause}

-- ONE FIELD, as its reading says
abbrev pub found_by : ℕ → Result Value Cause → Result Unit Flaw
found_by lt r = standing_by_fields (bad_or lt Nowhere r)

-- what was found first, else what is found after it
abbrev pub or_else : Result Unit Flaw → Result Unit Flaw → Result Unit Flaw
or_else (Err StructureBreaks) y = Err StructureBreaks
or_else (Err (FieldBreaks p c)) y = Err (FieldBreaks p c)
or_else (Ok tt) y = y

or_else_lem : (x y : Bad) → standing_by_fields (or_bad x y) ≡ or_else (standing_by_fields x) (standing_by_fields y)
or_else_lem (Place p c) y = refl
or_else_lem Nowhere y = refl

or_sound : (x y : Result Unit Flaw) → sound x ≡ true → or_else x y ≡ y
or_sound (Err StructureBreaks) y e = let z : ◌≡◌ {A = ℕ} 0 1 = cc in absurd (omega arith)
or_sound (Err (FieldBreaks p c)) y e = let z : ◌≡◌ {A = ℕ} 0 1 = cc in absurd (omega arith)
or_sound (Ok tt) y e = refl

or_found : (x y : Result Unit Flaw) → sound x ≡ false → x ≡ or_else x y
or_found (Err StructureBreaks) y e = refl
or_found (Err (FieldBreaks p c)) y e = refl
or_found (Ok tt) y e = let z : ◌≡◌ {A = ℕ} 0 1 = cc in absurd (omega arith)

-- the first that breaks in content; among named children; in what one of them holds
abbrev pub bad_in : ℕ → Parent → List ℕ → ℕ → Result Unit Flaw
bad_in d p s at = standing_by_fields (first_bad (fields_at d p s at))

unfoldable pub bad_among : ℕ → List ℕ → List Kept → Result Unit Flaw
bad_among d s ks = standing_by_fields (first_bad (fields_by (below d s) s ks))

abbrev pub held_bad : ℕ → List ℕ → Child → held.Holds → Result Unit Flaw
held_bad d s c (Text f) = standing_by_fields (bad_at s f c)
held_bad d s c (Rows q) = bad_in (d - 1) (rows_for q s (c.gt + 1)) s (c.gt + 1)

held_bad_lem : (d : ℕ) (s : List ℕ) (k : Kept) (h : held.Holds) → standing_by_fields (first_bad (fields_in (below d s) s k h)) ≡ held_bad d s k.child h
unfolding first_bad
held_bad_lem d s k (Text f) = refl
held_bad_lem d s k (Rows q) = refl

among_none : (d : ℕ) (s : List ℕ) (ks : List Kept) → ks ≡ [] → bad_among d s ks ≡ Ok tt
unfolding bad_among fields_by first_bad
among_none d s ks e = rw e

among_on : (d : ℕ) (s : List ℕ) (ks : List Kept) (k : Kept) (t : List Kept) → ks ≡ k ∷ t → bad_among d s ks ≡ or_else (held_bad d s k.child k.holds) (bad_among d s t)
unfolding bad_among fields_by
among_on d s ks k t e =
    let fs = fields_in (below d s) s k k.holds in
    let gs = fields_by (below d s) s t in
    rw (e, bad_append fs gs, ← held_bad_lem d s k k.holds) (or_else_lem (first_bad fs) (first_bad gs))

-- where the walk stands: w is the first of all, x what has been found up to i
abbrev pub Seeks : Result Unit Flaw → ℕ → Parent → List ℕ → Result Unit Flaw → ℕ → Type 0
Seeks w d p s x i = (i ≤ length s) × (w ≡ or_else x (bad_among d s (kept_from p s i)))

pub seek_none : (p : Parent) (s : List ℕ) (at : ℕ) → Ok tt ≡ bad_in 0 p s at
unfolding fields_at first_bad
seek_none p s at = refl

pub seek_level : (d : ℕ) (p : Parent) (s : List ℕ) (at : ℕ) → (d ≡ 0 → ⊥) → bad_in d p s at ≡ bad_among d s (kept_from p s (white_at s at))
unfolding bad_among
seek_level d p s at f = rw (fields_level d p s at f)

module _ (w : Result Unit Flaw) (d : ℕ) (p : Parent) (s : List ℕ) (x : Result Unit Flaw) (i : ℕ) (g : Seeks w d p s x i) where
  pub seek_found : sound x ≡ false → x ≡ w
  seek_found e = or_found x (bad_among d s (kept_from p s i)) e ∙ sym g.1

  module _ (o : sound x ≡ true) where
    left : w ≡ bad_among d s (kept_from p s i)
    left = g.1 ∙ or_sound x (bad_among d s (kept_from p s i)) o

    pub seek_end : next_of (kept_from p s i) ≡ None → Ok tt ≡ w
    seek_end e = sym (left ∙ among_none d s (kept_from p s i) (next_done p s i e))

    pub seek_on : (k : Kept) → next_of (kept_from p s i) ≡ Some k → (h : held.Holds) → k.holds ≡ h → (y : Result Unit Flaw) → y ≡ held_bad d s k.child h → Seeks w d p s y k.child.after
    seek_on k e h q y v =
        let a = next_at p s i k e in
        (a.lies.within, left ∙ (among_on d s (kept_from p s i) k (kept_from p s k.child.after) a.rest ∙ rw (q, ← v)))

-- a flaw that was found ends the walk
pub sound_err : (e : Flaw) → sound (Err e) ≡ false
sound_err StructureBreaks = refl
sound_err (FieldBreaks p c) = refl

-- THE TWO WALKS together, by what the first tells
abbrev by_breaking : Result Unit Flaw → Option Breaking → Result Unit Flaw
by_breaking found (Some Structure) = Err StructureBreaks
by_breaking found (Some Field) = found
by_breaking found None = Ok tt

two_walks : (b : Bool) (x : Bad) → by_breaking (standing_by_fields x) (forget (standing_by b x)) ≡ standing_by b x
two_walks true (Place q c) = refl
two_walks true Nowhere = refl
two_walks false x = refl

pub judged : (d : ℕ) (p : Parent) (s : List ℕ) (at : ℕ) {r : Option Breaking} → r ≡ forget (standing_at d p s at) → by_breaking (bad_in d p s at) r ≡ standing_at d p s at
unfolding standing_at
judged d p s at e = rw e (two_walks (fits_at d p s at) (first_bad (fields_at d p s at)))
