-- What a document's verdict says of it: one law for each way out of the code, and what a document that stands satisfies.
use Rattle.std.specs.Prelude.{Result, Ok, Err}
use mathlib.Core.Path.{◌≡◌, refl, ap, ◌∙◌}
use mathlib.Core.List.{List}
use mathlib.Core.Bool.{Bool, true, false, cond, ◌&&◌}
use Prim.Native.Nat.{ℕ, ◌+◌, ◌≤◌}
use native.Mathlib.Omega.{arith}
use lib.ListN.{length}
use Rattle.scan.specs.Bytes.{bytes}
use Rattle.markup.specs.Markup.{content_at, closed_by, markup_of}
use Rattle.markup.specs.Inner.{opened_of, then_closed}
use Rattle.markup.proofs.Laws.{markup_opened, closed_root, markup_parts, root_placed}
use Rattle.fields.specs.declared.Cause.{Cause}
use Rattle.schema.specs.declared.Parent.{Parent}
use Rattle.schema.specs.Table.{name_is}
use Rattle.structure.specs.Structure.{fits_at}
use Rattle.editions.specs.declared.Edition.{Edition}
use Rattle.header.specs.Header.{root_of}
use Rattle.standing.specs.declared.Flaw.{Flaw}
use Rattle.standing.specs.declared.Flaw.TheVariants as standing
use Rattle.standing.specs.Readings.{Bad, Place, Nowhere, fields_at, first_bad}
use Rattle.standing.specs.Standing.{standing_at, standing_by}
use Rattle.standing.specs.Shown.{Shown}
use Rattle.standing.proofs.Shown.{bad_shown}
use Rattle.flow.specs.declared.Breakage.{Breakage}
use Rattle.flow.specs.declared.Breakage.TheVariants.{MarkupBreaks, StructureBreaks, FieldBreaks}
use Rattle.flow.specs.Flow.{verdict_by_fields, by_root, by_markup, verdict_by, id_allowed, verdict_of}

-- the root's places lie in the document
pub record Lies (s : List ℕ) (lt e at : ℕ) : Type 0 where
  pub named : lt + 1 ≤ e
  pub inside : e ≤ length s
  pub within : at ≤ length s

pub root_lies : (ids : Bool) (s : List ℕ) (lt e at : ℕ) → markup_of ids s ≡ Ok (lt, e, at) → Lies s lt e at
root_lies ids s lt e at m = let l = root_placed s (markup_parts ids s lt e at m).2 in record { named = omega arith; inside = omega arith; within = omega arith }

-- what the root's content comes to, as the document's verdict
abbrev pub by_standing : ℕ → Result Unit Flaw → Result ℕ Breakage
by_standing at (Err standing.StructureBreaks) = Err StructureBreaks
by_standing at (Err (standing.FieldBreaks p c)) = Err (FieldBreaks p c)
by_standing at (Ok tt) = Ok at

by_fields : (at : ℕ) (f : Bool) (b : Bad) → cond f (verdict_by_fields at b) (Err StructureBreaks) ≡ by_standing at (standing_by f b)
by_fields at true (Place p c) = refl
by_fields at true Nowhere = refl
by_fields at false b = refl

module _ (x : List ℕ) (p : Parent) where
  -- THE WAYS OUT
  module _ (ids : Bool) (s : List ℕ) where
    opened : (m : Result (ℕ × ℕ × ℕ) ℕ) → opened_of ids s ≡ m → verdict_by x p ids s ≡ by_markup x p s (then_closed s m)
    unfolding verdict_by
    opened m o = rw (markup_opened ids s, o)

    pub document_unopened : (q : ℕ) → opened_of ids s ≡ Err q → verdict_by x p ids s ≡ Err (MarkupBreaks q)
    document_unopened q o = opened (Err q) o

    module _ (lt e at : ℕ) (o : opened_of ids s ≡ Ok (lt, e, at)) (w : Result ℕ ℕ) (i : w ≡ content_at 11 s at) where
      closed : (m : Result (ℕ × ℕ × ℕ) ℕ) → closed_by s lt e at w ≡ m → verdict_by x p ids s ≡ by_markup x p s m
      closed m k = opened (Ok (lt, e, at)) o ∙ ap (by_markup x p s) (rw i at k)

      pub document_unclosed : (q : ℕ) → closed_by s lt e at w ≡ Err q → verdict_by x p ids s ≡ Err (MarkupBreaks q)
      document_unclosed q k = closed (Err q) k

      pub document_rooted : {a b c : ℕ} → closed_by s lt e at w ≡ Ok (a, b, c) → verdict_by x p ids s ≡ by_root x p s lt e at
      document_rooted k = closed (Ok (lt, e, at)) (closed_root s lt e at w k)

  module _ (s : List ℕ) (lt e at : ℕ) where
    pub root_other : name_is x s (lt + 1) e ≡ false → by_root x p s lt e at ≡ Err StructureBreaks
    root_other n = rw n

    pub root_judged : (w : Result Unit Flaw) → name_is x s (lt + 1) e ≡ true → standing_at 4 p s at ≡ w → by_root x p s lt e at ≡ by_standing at w
    unfolding standing_at
    root_judged w n f = rw (n, ← f) (by_fields at (fits_at 4 p s at) (first_bad (fields_at 4 p s at)))

-- A DOCUMENT THAT STANDS
pub record Stood (p : Parent) (s : List ℕ) (at : ℕ) : Type 0 where
  pub within : at ≤ length s
  pub fits : fits_at 4 p s at ≡ true
  pub fields : first_bad (fields_at 4 p s at) ≡ Nowhere

module _ (x : List ℕ) (p : Parent) (ids : Bool) (s : List ℕ) where
  abbrev bad : ℕ → Bad
  bad at = first_bad (fields_at 4 p s at)

  pub document_stood : (at : ℕ) → verdict_by x p ids s ≡ Ok at → Stood p s at
  unfolding verdict_by
  document_stood at h = walk (markup_of ids s) refl h
    where
      fields : (c : ℕ) (b : Bad) → bad c ≡ b → c ≤ length s → fits_at 4 p s c ≡ true → verdict_by_fields c b ≡ Ok at → Stood p s at
      fields c (Place q y) h l f e = let z : ◌≡◌ {A = ℕ} 0 1 = cc in absurd (omega arith)
      fields c Nowhere h l f e = let z : c ≡ at = cc in rw (← z) (record { within = l; fits = f; fields = h })

      cut : (c : ℕ) (n f : Bool) → fits_at 4 p s c ≡ f → c ≤ length s → cond (n && f) (verdict_by_fields c (bad c)) (Err StructureBreaks) ≡ Ok at → Stood p s at
      cut c true true f l e = fields c (bad c) refl l f e
      cut c true false f l e = let z : ◌≡◌ {A = ℕ} 0 1 = cc in absurd (omega arith)
      cut c false f g l e = let z : ◌≡◌ {A = ℕ} 0 1 = cc in absurd (omega arith)

      walk : (w : Result (ℕ × ℕ × ℕ) ℕ) → markup_of ids s ≡ w → by_markup x p s w ≡ Ok at → Stood p s at
      walk (Ok (lt, e, c)) m h = cut c (name_is x s (lt + 1) e) (fits_at 4 p s c) refl (root_lies ids s lt e c m).within h
      walk (Err q) m h = let z : ◌≡◌ {A = ℕ} 0 1 = cc in absurd (omega arith)

  -- a field that breaks is shown by its place
  pub document_shown : (q : ℕ) (y : Cause) → verdict_by x p ids s ≡ Err (FieldBreaks q y) → Shown s q y
  unfolding verdict_by
  document_shown q y h = walk (markup_of ids s) h
    where
      fields : (c : ℕ) (b : Bad) → bad c ≡ b → verdict_by_fields c b ≡ Err (FieldBreaks q y) → Shown s q y
      fields c (Place r w) h e = let z : Place r w ≡ Place q y = cc in bad_shown 4 p s c q y (h ∙ z)
      fields c Nowhere h e = let z : ◌≡◌ {A = ℕ} 0 1 = cc in absurd (omega arith)

      cut : (c : ℕ) (n : Bool) → cond n (verdict_by_fields c (bad c)) (Err StructureBreaks) ≡ Err (FieldBreaks q y) → Shown s q y
      cut c true e = fields c (bad c) refl e
      cut c false e = let z : ◌≡◌ {A = ℕ} 0 1 = cc in absurd (omega arith)

      walk : (w : Result (ℕ × ℕ × ℕ) ℕ) → by_markup x p s w ≡ Err (FieldBreaks q y) → Shown s q y
      walk (Ok (lt, e, c)) h = cut c (name_is x s (lt + 1) e && fits_at 4 p s c) h
      walk (Err r) h = let z : ◌≡◌ {A = ℕ} 0 1 = cc in absurd (omega arith)

-- A FLOW
pub flow_stood : (e : Edition) (s : List ℕ) (at : ℕ) → verdict_of e s ≡ Ok at → Stood (root_of e) s at
flow_stood e = document_stood (bytes "flusso_ordinativi") (root_of e) (id_allowed e)

pub flow_shown : (e : Edition) (s : List ℕ) (q : ℕ) (y : Cause) → verdict_of e s ≡ Err (FieldBreaks q y) → Shown s q y
flow_shown e = document_shown (bytes "flusso_ordinativi") (root_of e) (id_allowed e)

pub flow_by : (e : Edition) (s : List ℕ) {v : Result ℕ Breakage} {p : Parent} {b : Bool} → p ≡ root_of e → b ≡ id_allowed e → v ≡ verdict_by (bytes "flusso_ordinativi") p b s → v ≡ verdict_of e s
flow_by e s x y z = z ∙ (λ i. verdict_by (bytes "flusso_ordinativi") (x i) (y i) s)
