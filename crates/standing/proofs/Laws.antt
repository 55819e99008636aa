-- The walk over a level's named children: what it comes to after some of them, and a law for each way out of the code.
use Rattle.std.specs.Prelude.{Option, Result, Some, None, Ok, Err, is_err}
use mathlib.Core.Path.{◌≡◌, refl, sym, ap, ◌∙◌}
use mathlib.Core.List.{List, [], ◌∷◌}
use mathlib.Core.Bool.{Bool, true, false, ◌&&◌}
use Prim.Native.Nat.{ℕ, ◌+◌, ◌-◌, ◌≤◌, ◌<◌}
use native.Mathlib.Omega.{arith}
use lib.ListN.{length}
use Rattle.scan.specs.Bytes.{is_white, part}
use Rattle.scan.proofs.Laws.{run_within}
use Rattle.tokens.specs.Tokens.{white_at}
use Rattle.fields.specs.declared.Form.{Form}
use Rattle.fields.specs.declared.Cause.{Cause}
use Rattle.fields.specs.Causes.{cause_of}
use Rattle.fields.specs.Fields.{told, field_value}
use Rattle.rows.specs.Read.{read_at, field_read}
use Rattle.schema.specs.declared.Parent.{Parent}
use Rattle.schema.specs.declared.Holds as held
use Rattle.schema.specs.declared.Holds.TheVariants.{Text, Rows}
use Rattle.rows.specs.declared.Kept.{Kept}
use Rattle.children.specs.declared.Child.{Child}
use Rattle.children.proofs.Laws.{Lies}
use Rattle.schema.specs.Table.{table}
use Rattle.rows.specs.Kept.{kept_from, next_of}
use Rattle.rows.specs.Replaces.{rows_for}
use Rattle.rows.proofs.Laws.{next_at, next_done}
use Rattle.structure.specs.Structure.{ranges, text_only, holds_at, kept_holds}
use Rattle.structure.specs.Walk.{filled_from, counted_of, goes_on, deeper}
use Rattle.structure.proofs.Laws.{kept_row}
use Rattle.structure.proofs.Walk.{some_row, fits_none, fits_level, counted_within, goes_end, goes_short, goes_on_lem}
use Rattle.standing.specs.declared.Breaking.{Breaking}
use Rattle.standing.specs.declared.Breaking.TheVariants.{Structure, Field}
use Rattle.standing.specs.Readings.{Bad, Place, Nowhere, fields_in, fields_by, bad_or, first_bad}
use Rattle.standing.specs.Standing.{standing_by_fields, standing_at, forget, breaking_by, field_breaking, after, structured}
use Rattle.standing.specs.Walk.{below, held_breaking, rest, Goes}
use Rattle.standing.proofs.Readings.{or_bad, bad_append, fields_level}
use Rattle.fields.specs.declared.Value.{Value}

-- ONE PART AND ANOTHER
pub after_breaks : (x : Option Breaking) → Some Structure ≡ after x (Some Structure)
after_breaks (Some Structure) = refl
after_breaks (Some Field) = refl
after_breaks None = refl

pub after_nothing : (x : Option Breaking) → x ≡ after x None
after_nothing (Some Structure) = refl
after_nothing (Some Field) = refl
after_nothing None = refl

after_after : (x y z : Option Breaking) → after (after x y) z ≡ after x (after y z)
after_after (Some Structure) y z = refl
after_after (Some Field) (Some Structure) z = refl
after_after (Some Field) (Some Field) (Some Structure) = refl
after_after (Some Field) (Some Field) (Some Field) = refl
after_after (Some Field) (Some Field) None = refl
after_after (Some Field) None z = refl
after_after None y z = refl

pub not_structured : (x y : Option Breaking) → structured x ≡ false → Some Structure ≡ after x y
not_structured (Some Structure) y e = refl
not_structured (Some Field) y e = let z : ◌≡◌ {A = ℕ} 0 1 = cc in absurd (omega arith)
not_structured None y e = let z : ◌≡◌ {A = ℕ} 0 1 = cc in absurd (omega arith)

both_parts : (a b : Bool) (x y : Bad) → breaking_by (a && b) (or_bad x y) ≡ after (breaking_by a x) (breaking_by b y)
both_parts true true (Place p c) (Place q d) = refl
both_parts true true (Place p c) Nowhere = refl
both_parts true true Nowhere y = refl
both_parts true false (Place p c) y = refl
both_parts true false Nowhere y = refl
both_parts false b x y = refl

-- ONE FIELD, as its reading says
abbrev pub read_breaking : Result (Value × ℕ) ℕ → Option Breaking
read_breaking (Ok (v, i)) = None
read_breaking (Err p) = Some Field

pub read_broken : (r : Result (Value × ℕ) ℕ) → is_err r ≡ true → Some Field ≡ read_breaking r
read_broken (Ok (v, i)) e = let z : ◌≡◌ {A = Bool} false true = e in absurd cc
read_broken (Err p) e = refl

pub read_stood : (r : Result (Value × ℕ) ℕ) → is_err r ≡ false → None ≡ read_breaking r
read_stood (Ok (v, i)) e = refl
read_stood (Err p) e = let z : ◌≡◌ {A = Bool} true false = e in absurd cc

module _ (s : List ℕ) (f : Form) (c : Child) where
  pub field_other : text_only s (c.gt + 1) ≡ false → Some Structure ≡ field_breaking s f c
  unfolding field_breaking
  field_other e = rw e

  pub field_judged : (r : Result (Value × ℕ) ℕ) → text_only s (c.gt + 1) ≡ true → field_read s f c ≡ r → read_breaking r ≡ field_breaking s f c
  unfolding field_breaking field_read
  field_judged r e g = let t = part s (c.gt + 1) c.to in rw (e, ← g) (go (cause_of f t) (field_value f t))
    where
      go : (w : Cause) (x : Option Value) → read_breaking (read_at c x) ≡ forget (standing_by_fields (bad_or c.lt Nowhere (told w x)))
      go w (Some v) = refl
      go w None = refl

held_by : (d : ℕ) (s : List ℕ) (k : Kept) (h : held.Holds) → breaking_by (holds_at (deeper d s) s h (k.child.gt + 1)) (first_bad (fields_in (below d s) s k h)) ≡ held_breaking d s k.child h
unfolding standing_at field_breaking first_bad
held_by d s k (Text f) = refl
held_by d s k (Rows q) = refl

-- THE WALK, after some of the named children
pub level_none : (p : Parent) (s : List ℕ) (at : ℕ) → Some Structure ≡ forget (standing_at 0 p s at)
unfolding standing_at
level_none p s at = rw (fits_none p s at)

pub level : (d : ℕ) (p : Parent) (s : List ℕ) (at : ℕ) → (d ≡ 0 → ⊥) → forget (standing_at d p s at) ≡ rest d p s 0 0 (kept_from p s (white_at s at))
unfolding standing_at rest
level d p s at f = rw (fits_level d p s at f, fields_level d p s at f)

-- where it begins
pub goes_start : (d : ℕ) (p : Parent) (s : List ℕ) (at i : ℕ) → at ≤ length s → 1 ≤ d → i ≡ white_at s at → Goes (forget (standing_at d p s at)) d p s None i 0 0
goes_start d p s at i l f e = (rw e (run_within is_white s at l), omega arith, some_row p, rw e (level d p s at (λ z. omega arith)))

-- what a named child holds, a way out of the code at a time
module _ (d : ℕ) (s : List ℕ) (c : Child) (h : held.Holds) where
  pub held_text : (f : Form) → h ≡ Text f → field_breaking s f c ≡ held_breaking d s c h
  held_text f e = rw e

  module _ (q : Parent) (e : h ≡ Rows q) where
    pub held_none : d ≡ 1 → Some Structure ≡ held_breaking d s c h
    held_none z = rw (e, z) (level_none (rows_for q s (c.gt + 1)) s (c.gt + 1))

    pub held_rows : (d - 1 ≡ 0 → ⊥) → (p : Parent) → p ≡ rows_for q s (c.gt + 1) → (i : ℕ) → i ≡ white_at s (c.gt + 1) → rest (d - 1) p s 0 0 (kept_from p s i) ≡ held_breaking d s c h
    held_rows f p v i w = rw (e, w, v) (sym (level (d - 1) (rows_for q s (c.gt + 1)) s (c.gt + 1) f))

module _ (d : ℕ) (p : Parent) (s : List ℕ) (row n : ℕ) (ks : List Kept) where
  rest_end : ks ≡ [] → row < length (ranges (table p)) → rest d p s row n ks ≡ breaking_by (filled_from (ranges (table p)) row n (length (ranges (table p)))) Nowhere
  unfolding rest fields_by first_bad
  rest_end e h = rw (goes_end (ranges (table p)) (kept_holds (deeper d s) s) row n ks e h, e)

  module _ (k : Kept) (t : List Kept) (e : ks ≡ k ∷ t) where
    rest_short : filled_from (ranges (table p)) row n k.row ≡ false → rest d p s row n ks ≡ Some Structure
    unfolding rest
    rest_short g = rw (goes_short (ranges (table p)) (kept_holds (deeper d s) s) row n ks k t e g)

    rest_on : filled_from (ranges (table p)) row n k.row ≡ true → rest d p s row n ks ≡ after (held_breaking d s k.child k.holds) (rest d p s k.row (counted_of row n k.row) t)
    unfolding rest fields_by
    rest_on g =
        let fs = fields_in (below d s) s k k.holds in
        let gs = fields_by (below d s) s t in
        rw (goes_on_lem (ranges (table p)) (kept_holds (deeper d s) s) row n ks k t e g, e, bad_append fs gs, ← held_by d s k k.holds)
        (both_parts (kept_holds (deeper d s) s k) (goes_on (ranges (table p)) (kept_holds (deeper d s) s) k.row (counted_of row n k.row) t) (first_bad fs) (first_bad gs))

-- the child found there, a way out of the code at a time
pub record Found (w : Option Breaking) (d : ℕ) (p : Parent) (s : List ℕ) (so : Option Breaking) (i row n : ℕ) (k : Kept) : Type 0 where
  pub lies : Lies s i k.child
  pub short : filled_from (ranges (table p)) row n k.row ≡ false → Some Structure ≡ w
  pub on : filled_from (ranges (table p)) row n k.row ≡ true → (m : ℕ) → m ≡ counted_of row n k.row → (h : held.Holds) → k.holds ≡ h → (x : Option Breaking) → x ≡ held_breaking d s k.child h
      → (y : Option Breaking) → y ≡ after so x → Goes w d p s y k.child.after k.row m

module _ (w : Option Breaking) (d : ℕ) (p : Parent) (s : List ℕ) (so : Option Breaking) (i row n : ℕ) (g : Goes w d p s so i row n) where
  pub found : (k : Kept) → next_of (kept_from p s i) ≡ Some k → Found w d p s so i row n k
  found k e =
      let ks = kept_from p s i in
      let u = kept_from p s k.child.after in
      let a = next_at p s i k e in
      let r = a.rest in
      let l = a.lies in
      record {
        lies = l;
        short = λ x. after_breaks so ∙ sym (g.3 ∙ ap (after so) (rest_short d p s row n ks k u r x));
        on = λ f m c h o x v y z. (
          l.within,
          counted_within row n k.row m k.child.after c (omega (arith, g.1)),
          kept_row p s i k u r,
          g.3 ∙ (ap (after so) (rest_on d p s row n ks k u r f) ∙ (sym (after_after so (held_breaking d s k.child k.holds) (rest d p s k.row (counted_of row n k.row) u)) ∙ rw (o, ← v, ← z, ← c))),
        );
      }

  module _ (e : next_of (kept_from p s i) ≡ None) where
    ended : (b : Bool) → filled_from (ranges (table p)) row n (length (ranges (table p))) ≡ b → w ≡ after so (breaking_by b Nowhere)
    ended b f = g.3 ∙ (ap (after so) (rest_end d p s row n (kept_from p s i) (next_done p s i e) g.2) ∙ rw f)

    pub whole : filled_from (ranges (table p)) row n (length (ranges (table p))) ≡ true → so ≡ w
    whole f = after_nothing so ∙ sym (ended true f)

    pub unfilled : filled_from (ranges (table p)) row n (length (ranges (table p))) ≡ false → Some Structure ≡ w
    unfilled f = after_breaks so ∙ sym (ended false f)
