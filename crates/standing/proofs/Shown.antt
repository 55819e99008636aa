-- The first field that breaks is shown by its place.
use Rattle.std.specs.Prelude.{Option, Result, Some, None, Ok, Err}
use mathlib.Core.Path.{◌≡◌, refl, sym, ap, ◌∙◌}
use mathlib.Core.List.{List, [], ◌∷◌}
use Prim.Native.Nat.{ℕ, zero, suc, ◌+◌, ◌-◌}
use native.Mathlib.Omega.{arith}
use lib.ListN.{length}
use Rattle.scan.specs.Bytes.{part}
use Rattle.tokens.specs.Tokens.{white_at}
use Rattle.children.specs.declared.Child.{Child}
use Rattle.children.specs.Child.{child_at, then_from, children_up_to, children_from, field_at, own_text}
use Rattle.children.proofs.Laws.{child_lies, field_one}
use Rattle.fields.specs.declared.Cause.{Cause}
use Rattle.fields.specs.declared.Form.{Form}
use Rattle.fields.specs.declared.Judged.TheVariants.{Breaks}
use Rattle.fields.specs.Causes.{cause_of}
use Rattle.fields.specs.Fields.{reading_of, field_stands}
use Rattle.fields.proofs.Told.{breaks}
use Rattle.schema.specs.declared.Parent.{Parent}
use Rattle.schema.specs.declared.Holds.{Holds}
use Rattle.schema.specs.declared.Holds.TheVariants.{Text, Rows}
use Rattle.rows.specs.declared.Kept.{Kept}
use Rattle.schema.specs.Table.{table, spot_in}
use Rattle.rows.specs.Kept.{keep_one, keep, kept_from}
use Rattle.rows.specs.Replaces.{rows_for}
use Rattle.standing.specs.Readings.{Bad, Place, Nowhere, text_of, fields_in, fields_by, fields_at, bad_or, first_bad}
use Rattle.standing.specs.Shown.{Shown}
use Rattle.standing.proofs.Readings.{or_bad, bad_append}
use Rattle.fields.specs.declared.Value.{Value}

none : {q : ℕ} {x : Cause} {A : Type 0} → Nowhere ≡ Place q x → A
none e = let z : ◌≡◌ {A = ℕ} 0 1 = cc in absurd (omega arith)

-- ONE FIELD
module _ (s : List ℕ) (c : Child) (e : child_at s c.lt ≡ Some c) where
  name_there : ((field_at s c.lt).name ≡ c.lt + 1) × ((field_at s c.lt).name_len ≡ c.gt - (c.lt + 1))
  name_there = rw (← field_one s c.lt c e) (refl, refl)

  text_there : own_text s c.lt ≡ part s (c.gt + 1) c.to
  text_there = let l = (child_lies s c.lt c e).1 in let z : c.gt + 1 + (c.to - (c.gt + 1)) ≡ c.to = omega arith in rw (← field_one s c.lt c e, z)

  shown_one : (p : Parent) (row : ℕ) (f : Form) → spot_in (table p) 0 s (c.lt + 1) c.gt ≡ Some (row, (Text f)) → field_stands f (part s (c.gt + 1) c.to) ≡ Breaks
      → Shown s c.lt (cause_of f (part s (c.gt + 1) c.to))
  shown_one p row f n b =
      let l = (child_lies s c.lt c e).1 in
      let z : c.lt + 1 + (c.gt - (c.lt + 1)) ≡ c.gt = omega arith in
      record { parent = p; row = row; form = f; named = rw (name_there.0, name_there.1, z) n; breaks = rw text_there b; told = rw text_there }

-- EACH NAMED CHILD stands at its place, and its row and what it holds are its name's
abbrev EachChild : List ℕ → List Child → Type 0
EachChild s [] = Unit
EachChild s (c ∷ cs) = (child_at s c.lt ≡ Some c) × EachChild s cs

children_each : (n : ℕ) (s : List ℕ) (i : ℕ) → EachChild s (children_up_to n s i)
unfolding children_up_to
children_each zero s i = tt
children_each (suc n) s i = go (child_at s i) refl (children_each n s)
  where
    go : (w : Option Child) → child_at s i ≡ w → ((j : ℕ) → EachChild s (children_up_to n s j)) → EachChild s (then_from w (children_up_to n s))
    go (Some c) e more = (ap (child_at s) (child_lies s i c e).0 ∙ e, more c.after)
    go None e more = tt

abbrev IsKept : Parent → List ℕ → Kept → Type 0
IsKept p s k = (child_at s k.child.lt ≡ Some k.child) × (spot_in (table p) 0 s (k.child.lt + 1) k.child.gt ≡ Some (k.row, k.holds))

abbrev EachKept : Parent → List ℕ → List Kept → Type 0
EachKept p s [] = Unit
EachKept p s (k ∷ ks) = IsKept p s k × EachKept p s ks

keep_each : (p : Parent) (s : List ℕ) (cs : List Child) → EachChild s cs → EachKept p s (keep p s cs)
unfolding keep
keep_each p s [] h = tt
keep_each p s (c ∷ cs) h = go (spot_in (table p) 0 s (c.lt + 1) c.gt) refl (keep_each p s cs h.1)
  where
    go : (w : Option (ℕ × Holds)) → spot_in (table p) 0 s (c.lt + 1) c.gt ≡ w → EachKept p s (keep p s cs) → EachKept p s (keep_one w c (keep p s cs))
    go (Some (n, g)) e more = ((h.0, e), more)
    go None e more = more

kept_each : (p : Parent) (s : List ℕ) (i : ℕ) → EachKept p s (kept_from p s i)
unfolding kept_from children_from
kept_each p s i = keep_each p s (children_from s i) (children_each (suc (length s)) s i)

-- THE FIRST FIELD THAT BREAKS
field_shown : (p : Parent) (s : List ℕ) (k : Kept) (f : Form) (q : ℕ) (x : Cause) → IsKept p s k → k.holds ≡ Text f → bad_or k.child.lt Nowhere (reading_of f (text_of s k)) ≡ Place q x → Shown s q x
field_shown p s k f q x w h e = go (reading_of f (text_of s k)) refl e
  where
    go : (r : Result Value Cause) → reading_of f (text_of s k) ≡ r → bad_or k.child.lt Nowhere r ≡ Place q x → Shown s q x
    go (Ok v) b e = none e
    go (Err c) b e =
        let z : k.child.lt ≡ q = cc in
        let y : c ≡ x = cc in
        let g = breaks f (text_of s k) c b in
        rw (← z, ← y, ← g.0) (shown_one s k.child w.0 p k.row f (rw h at w.1) g.1)

-- of the named children of one level, where `below` says it of those they hold
level_shown : (d : ℕ) (p : Parent) (s : List ℕ) (q : ℕ) (x : Cause) → ((r : Parent) (a : ℕ) → first_bad (fields_at d r s a) ≡ Place q x → Shown s q x)
    → (ks : List Kept) → EachKept p s ks → first_bad (fields_by (λ r a. fields_at d r s a) s ks) ≡ Place q x → Shown s q x
unfolding fields_by first_bad
level_shown d p s q x below [] w e = none e
level_shown d p s q x below (k ∷ ks) w e =
    or (first_bad (fields_in (λ r a. fields_at d r s a) s k k.holds)) refl
    (sym (bad_append (fields_in (λ r a. fields_at d r s a) s k k.holds) (fields_by (λ r a. fields_at d r s a) s ks)) ∙ e)
    (level_shown d p s q x below ks w.1)
  where
    held : (h : Holds) → k.holds ≡ h → first_bad (fields_in (λ r a. fields_at d r s a) s k h) ≡ Place q x → Shown s q x
    held (Text f) h e = field_shown p s k f q x w.0 h e
    held (Rows r) h e = below (rows_for r s (k.child.gt + 1)) (k.child.gt + 1) e

    or : (b : Bad) → first_bad (fields_in (λ r a. fields_at d r s a) s k k.holds) ≡ b → or_bad b (first_bad (fields_by (λ r a. fields_at d r s a) s ks)) ≡ Place q x
        → (first_bad (fields_by (λ r a. fields_at d r s a) s ks) ≡ Place q x → Shown s q x) → Shown s q x
    or (Place r c) h e more = held k.holds refl (h ∙ e)
    or Nowhere h e more = more e

pub bad_shown : (d : ℕ) (p : Parent) (s : List ℕ) (at q : ℕ) (x : Cause) → first_bad (fields_at d p s at) ≡ Place q x → Shown s q x
unfolding fields_at first_bad
bad_shown zero p s at q x e = none e
bad_shown (suc d) p s at q x e = level_shown d p s q x (λ r a. bad_shown d r s a q x) (kept_from p s (white_at s at)) (kept_each p s (white_at s at)) e
