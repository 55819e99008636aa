-- Laws of the named children.
use Rattle.std.specs.Prelude.{Option, Some, None, Ok, Err, ok_or}
use mathlib.Core.Path.{◌≡◌, refl, sym, ap, ◌∙◌}
use mathlib.Core.List.{List, [], ◌∷◌}
use mathlib.Core.Bool.{Bool, false}
use Prim.Native.Nat.{ℕ, zero, suc, ◌+◌, ◌-◌, ◌<◌}
use native.Mathlib.Omega.{arith}
use lib.ListN.{length}
use Rattle.children.specs.declared.Child.{Child}
use Rattle.children.specs.Child.{child_at}
use Rattle.children.proofs.Laws.{Lies, child_lies, children_end, children_one}
use Rattle.schema.specs.declared.Parent.{Parent}
use Rattle.schema.specs.declared.Parent.TheVariants.{FlussoOrdinativi, Mandato, Reversale, InformazioniBeneficiario, InformazioniVersante, SostituzioneMandato, SostituzioneReversale, Beneficiario, Versante, MessaggiEsito, TestataMessaggio, EsitoReversali, EsitoMandati, ErroriReversali, ErroriMandati, FlussoOpi, TestataFlusso}
use Rattle.schema.specs.declared.Holds.{Holds}
use Rattle.fields.specs.declared.Value.{Value}
use Rattle.rows.specs.Read.{read_at}
use Rattle.rows.specs.declared.Kept.{Kept}
use Rattle.schema.specs.Table.{name_is, table, spot_in}
use Rattle.rows.specs.Kept.{keep, kept_from, next_of}
use Rattle.rows.specs.Replaces.{replaces, as_replacing, rows_for}
use Rattle.tokens.specs.Tokens.{white_at}
use Rattle.scan.specs.Bytes.{bytes}
use borrow.Author.Tests.{eq-eqb, ne_eqb}

module _ (p : Parent) (s : List ℕ) (i : ℕ) where
  pub kept_end : child_at s i ≡ None → kept_from p s i ≡ []
  unfolding kept_from keep
  kept_end e = rw (children_end s i e)

  pub kept_passed : (c : Child) → child_at s i ≡ Some c → spot_in (table p) 0 s (c.lt + 1) c.gt ≡ None → kept_from p s i ≡ kept_from p s c.after
  unfolding kept_from keep
  kept_passed c e f = rw (children_one s i c e, f)

  pub kept_at : (c : Child) (n : ℕ) (h : Holds) → child_at s i ≡ Some c → spot_in (table p) 0 s (c.lt + 1) c.gt ≡ Some (n, h) → kept_from p s i ≡ record { child = c; row = n; holds = h } ∷ kept_from p s c.after
  unfolding kept_from keep
  kept_at c n h e f = rw (children_one s i c e, f)

-- the first named child, and the others: they are those from its end on
pub record NextAt (p : Parent) (s : List ℕ) (i : ℕ) (k : Kept) : Type 0 where
  pub rest : kept_from p s i ≡ k ∷ kept_from p s k.child.after
  pub lies : Lies s i k.child

no_next : {k : Kept} {A : Type 0} → ◌≡◌ {A = Option Kept} (None) (Some k) → A
no_next e = let z : ◌≡◌ {A = ℕ} 0 1 = cc in absurd (omega arith)

next_by : (n : ℕ) (p : Parent) (s : List ℕ) (i : ℕ) (k : Kept) → length s - i < n → next_of (kept_from p s i) ≡ Some k → NextAt p s i k
next_by zero p s i k h e = absurd (omega arith)
next_by (suc n) p s i k h e = go (child_at s i) refl (next_by n p s)
  where
    go : (w : Option Child) → child_at s i ≡ w → ((j : ℕ) (k : Kept) → length s - j < n → next_of (kept_from p s j) ≡ Some k → NextAt p s j k) → NextAt p s i k
    go None f ih = no_next (ap next_of (sym (kept_end p s i f)) ∙ e)
    go (Some c) f ih = at (spot_in (table p) 0 s (c.lt + 1) c.gt) refl
      where
        at : (w : Option (ℕ × Holds)) → spot_in (table p) 0 s (c.lt + 1) c.gt ≡ w → NextAt p s i k
        at None g =
            let l = (child_lies s i c f).1 in
            let m = kept_passed p s i c f g in
            let r = ih c.after k (omega arith) (ap next_of (sym m) ∙ e) in
            let y = r.lies in
            record { rest = m ∙ r.rest; lies = record { from = omega arith; name = y.name; inner = y.inner; ends = y.ends; within = y.within } }
        at (Some (x, y)) g =
            let l = (child_lies s i c f).1 in
            let m = kept_at p s i c x y f g in
            let z : ◌≡◌ {A = Option Kept} (Some (record { child = c; row = x; holds = y })) (Some k) = ap next_of (sym m) ∙ e in
            let u : record { child = c; row = x; holds = y } ≡ k = cc in
            rw (← u) (record { rest = m; lies = l })

pub next_at : (p : Parent) (s : List ℕ) (i : ℕ) (k : Kept) → next_of (kept_from p s i) ≡ Some k → NextAt p s i k
next_at p s i k e = next_by (suc (length s - i)) p s i k (omega arith) e

pub next_done : (p : Parent) (s : List ℕ) (i : ℕ) → next_of (kept_from p s i) ≡ None → kept_from p s i ≡ []
next_done p s i e = go (kept_from p s i) e
  where
    go : (ks : List Kept) → next_of ks ≡ None → ks ≡ []
    go [] e = refl
    go (k ∷ ks) e = no_next (sym e)

-- WHETHER AN ORDER REPLACES OTHERS, as the walk to its tipo_operazione goes
module _ (p : Parent) (s : List ℕ) (i : ℕ) where
  pub replaces_none : next_of (kept_from p s i) ≡ None → replaces s (kept_from p s i) ≡ false
  unfolding replaces
  replaces_none e = rw (next_done p s i e)

  module _ (k : Kept) (e : next_of (kept_from p s i) ≡ Some k) where
    pub replaces_said : k.row ≡ 0 → replaces s (kept_from p s i) ≡ name_is (bytes "SOSTITUZIONE") s (k.child.gt + 1) k.child.to
    unfolding replaces
    replaces_said z = rw ((next_at p s i k e).rest, eq-eqb k.row 0 z)

    pub replaces_later : (k.row ≡ 0 → ⊥) → replaces s (kept_from p s i) ≡ replaces s (kept_from p s k.child.after)
    unfolding replaces
    replaces_later z = rw ((next_at p s i k e).rest, ne_eqb k.row 0 z)

-- THE ROWS OF CONTENT, by the parent that its element's name says
module _ (p : Parent) (s : List ℕ) (at : ℕ) (q : Parent) (e : p ≡ q) where
  pub rows_told : (b : Bool) → b ≡ replaces s (kept_from p s (white_at s at)) → as_replacing q b ≡ rows_for p s at
  unfolding rows_for
  rows_told b f = rw (← e) (ap (as_replacing p) f)

-- a parent that is no order is as it is
pub rows_other : (p : Parent) (s : List ℕ) (at : ℕ) → ((r : Bool) → p ≡ Mandato r → ⊥) → ((r : Bool) → p ≡ Reversale r → ⊥) → p ≡ rows_for p s at
unfolding rows_for
rows_other (Mandato r) s at f g = absurd (f r refl)
rows_other (Reversale r) s at f g = absurd (g r refl)
rows_other FlussoOrdinativi s at f g = refl
rows_other (InformazioniBeneficiario r) s at f g = refl
rows_other (InformazioniVersante r) s at f g = refl
rows_other SostituzioneMandato s at f g = refl
rows_other SostituzioneReversale s at f g = refl
rows_other Beneficiario s at f g = refl
rows_other Versante s at f g = refl
rows_other MessaggiEsito s at f g = refl
rows_other TestataMessaggio s at f g = refl
rows_other EsitoReversali s at f g = refl
rows_other EsitoMandati s at f g = refl
rows_other ErroriReversali s at f g = refl
rows_other ErroriMandati s at f g = refl
rows_other FlussoOpi s at f g = refl
rows_other TestataFlusso s at f g = refl

-- A FIELD, from what `ok_or` gave
pub read_ok : (o : Option Value) (k : Child) (v : Value) → ok_or o k.lt ≡ Ok v → Ok (v, k.after) ≡ read_at k o
read_ok (Some w) k v e = cc
read_ok None k v e = absurd cc

pub read_err : (o : Option Value) (k : Child) (x : ℕ) → ok_or o k.lt ≡ Err x → Err x ≡ read_at k o
read_err (Some w) k x e = absurd cc
read_err None k x e = cc
