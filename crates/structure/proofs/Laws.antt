-- What the structure says of a parent's named children, for the crates that read them one after the other.
use Rattle.std.specs.Prelude.{Option, Some, None}
use Rattle.std.proofs.lemmas.Option.{some_pair_parts}
use mathlib.Core.Path.{◌≡◌, refl, sym, ap, ◌∙◌}
use mathlib.Core.Logic.{◌⊎◌, inl, inr}
use mathlib.Core.List.{List, [], ◌∷◌}
use mathlib.Core.Bool.{Bool, true, false, cond, ◌&&◌}
use Prim.Native.Nat.{ℕ, zero, suc, ◌+◌, ◌≤◌, ◌<◌}
use native.Mathlib.Omega.{arith}
use lib.ListN.{length, drop}
use lib.Dec.{eqb, leb}
use borrow.Author.Tests.{eqb-true, leb-true}
use Rattle.scan.specs.Bytes.{bytes, run}
use Rattle.scan.proofs.Laws.{both}
use Rattle.tokens.specs.Tokens.{white_at}
use Rattle.children.specs.declared.Child.{Child}
use Rattle.schema.specs.declared.Parent.{Parent}
use Rattle.schema.specs.declared.Parent.TheVariants.{InformazioniBeneficiario, InformazioniVersante}
use Rattle.schema.specs.declared.Holds.{Holds}
use Rattle.rows.specs.declared.Kept.{Kept}
use Rattle.children.specs.Child.{children_from}
use Rattle.schema.specs.Table.{Named, ◌is◌, Row, table, name_is, among, spot_in}
use Rattle.rows.specs.Kept.{keep_one, keep, kept_from, next_of}
use Rattle.rows.proofs.Laws.{next_at, next_done}
use Rattle.structure.specs.Structure.{is_nil, all_kept, Range, ranges, takes, rows_of, is_row, in_order, kept_holds, fit_by, fits_at}

no : {A : Type 0} → ◌≡◌ {A = Bool} false true → A
no e = let z : ◌≡◌ {A = ℕ} 0 1 = cc in absurd (omega arith)

-- a line's rows take as many elements for both kinds
pub versante_rows : (r : Bool) → ranges (table (InformazioniVersante r)) ≡ ranges (table (InformazioniBeneficiario r))
versante_rows true = refl
versante_rows false = refl

-- WHAT FITS IS MADE OF
pub fits_parts : (d : ℕ) (p : Parent) (s : List ℕ) (at : ℕ) → fits_at (suc d) p s at ≡ true
    → (in_order (ranges (table p)) 0 (rows_of (kept_from p s (white_at s at))) ≡ true) × (all_kept (kept_holds (λ q a. fits_at d q s a) s) (kept_from p s (white_at s at)) ≡ true)
unfolding fits_at fit_by
fits_parts d p s at e = both (in_order (ranges (table p)) 0 (rows_of (kept_from p s (white_at s at)))) (all_kept (kept_holds (λ q a. fits_at d q s a) s) (kept_from p s (white_at s at))) e

pub all_parts : (f : Kept → Bool) (k : Kept) (ks : List Kept) → all_kept f (k ∷ ks) ≡ true → (f k ≡ true) × (all_kept f ks ≡ true)
unfolding all_kept
all_parts f k ks e = both (f k) (all_kept f ks) e

-- THE ROWS IN ORDER, one after the other
-- a row that takes exactly one element: the first of them stands in it
pub record Once (rs : List Range) (n : ℕ) (ks : List Kept) : Type 0 where
  pub first : Kept
  pub rest : List Kept
  pub are : ks ≡ first ∷ rest
  pub row : first.row ≡ n
  pub others : in_order rs (suc n) (rows_of rest) ≡ true

one : (m : ℕ) → (leb 1 m && leb m 1) ≡ true → m ≡ 1
one m e = let b = both (leb 1 m) (leb m 1) e in let l = leb-true 1 m b.0 in let h = leb-true m 1 b.1 in omega arith

pub order_once : (rs : List Range) (n : ℕ) (ks : List Kept) → in_order (record { least = 1; most = 1 } ∷ rs) n (rows_of ks) ≡ true → Once rs n ks
unfolding in_order rows_of run
order_once rs n [] e = no e
order_once rs n (k ∷ t) e = go (eqb k.row n) refl e
  where
    go : (b : Bool) → eqb k.row n ≡ b
        → (takes (record { least = 1; most = 1 }) (cond b (suc (run (is_row n) (rows_of t))) 0) && in_order rs (suc n) (drop (cond b (suc (run (is_row n) (rows_of t))) 0) (k.row ∷ rows_of t))) ≡ true
        → Once rs n (k ∷ t)
    go true f h =
        let a = both (takes (record { least = 1; most = 1 }) (suc (run (is_row n) (rows_of t)))) (in_order rs (suc n) (drop (run (is_row n) (rows_of t)) (rows_of t))) h in
        let z : run (is_row n) (rows_of t) ≡ 0 = let o = one (suc (run (is_row n) (rows_of t))) a.0 in omega arith in
        record { first = k; rest = t; are = refl; row = eqb-true k.row n f; others = rw z at a.1 }
    go false f h = no h

-- the last row: all stand in it, as many as it takes
in_last : (n : ℕ) (ks : List Kept) → is_nil (drop (run (is_row n) (rows_of ks)) (rows_of ks)) ≡ true → (run (is_row n) (rows_of ks) ≡ length ks) × (all_kept (λ k. eqb k.row n) ks ≡ true)
unfolding rows_of run all_kept
in_last n [] e = (refl, refl)
in_last n (k ∷ t) e = go (eqb k.row n) refl e (in_last n t)
  where
    go : (b : Bool) → eqb k.row n ≡ b → is_nil (drop (cond b (suc (run (is_row n) (rows_of t))) 0) (k.row ∷ rows_of t)) ≡ true
        → (is_nil (drop (run (is_row n) (rows_of t)) (rows_of t)) ≡ true → (run (is_row n) (rows_of t) ≡ length t) × (all_kept (λ k. eqb k.row n) t ≡ true))
        → (cond b (suc (run (is_row n) (rows_of t))) 0 ≡ suc (length t)) × ((b && all_kept (λ k. eqb k.row n) t) ≡ true)
    go true f h more = let m = more h in (ap suc m.0, m.1)
    go false f h more = no h

pub record Last (r : Range) (n : ℕ) (ks : List Kept) : Type 0 where
  pub least : r.least ≤ length ks
  pub most : length ks ≤ r.most
  pub rows : all_kept (λ k. eqb k.row n) ks ≡ true

pub order_last : (r : Range) (n : ℕ) (ks : List Kept) → in_order (r ∷ []) n (rows_of ks) ≡ true → Last r n ks
unfolding in_order
order_last r n ks e =
    let a = both (takes r (run (is_row n) (rows_of ks))) (is_nil (drop (run (is_row n) (rows_of ks)) (rows_of ks))) e in
    let b = in_last n ks a.1 in
    let c = both (leb r.least (length ks)) (leb (length ks) r.most) (rw b.0 at a.0) in
    record { least = leb-true r.least (length ks) c.0; most = leb-true (length ks) r.most c.1; rows = b.1 }

-- the same of a walk, where k is the next named child
module _ (p : Parent) (s : List ℕ) (i : ℕ) where
  pub once_done : (rs : List Range) (n : ℕ) → in_order (record { least = 1; most = 1 } ∷ rs) n (rows_of (kept_from p s i)) ≡ true → next_of (kept_from p s i) ≡ None → ⊥
  once_done rs n e f = let o = order_once rs n (kept_from p s i) e in let x = next_done p s i f in let y = o.are in let z : ◌≡◌ {A = ℕ} 0 1 = cc in omega arith

  module _ (k : Kept) (f : next_of (kept_from p s i) ≡ Some k) where
    pub once_next : (rs : List Range) (n : ℕ) → in_order (record { least = 1; most = 1 } ∷ rs) n (rows_of (kept_from p s i)) ≡ true → (k.row ≡ n) × (in_order rs (suc n) (rows_of (kept_from p s k.child.after)) ≡ true)
    once_next rs n e =
        let o = order_once rs n (kept_from p s i) e in
        let a = (next_at p s i k f).rest in
        let b = o.are in
        let x : o.first ≡ k = cc in
        let y : o.rest ≡ kept_from p s k.child.after = cc in
        (ap (λ (j : Kept). j.row) (sym x) ∙ o.row, rw y at o.others)

    pub all_next : (g : Kept → Bool) → all_kept g (kept_from p s i) ≡ true → (g k ≡ true) × (all_kept g (kept_from p s k.child.after) ≡ true)
    all_next g e = all_parts g k (kept_from p s k.child.after) (rw (next_at p s i k f).rest at e)

-- A NAMED CHILD'S ROW AND WHAT IT HOLDS are as its parent's table says: what a name of that row holds
abbrev pub HeldBy : List Named → Holds → Type 0
HeldBy [] h = ⊥
HeldBy ((x is g) ∷ ns) h = (g ≡ h) ⊎ HeldBy ns h

abbrev pub HeldIn : List Row → ℕ → Holds → Type 0
HeldIn [] n h = ⊥
HeldIn (r ∷ rs) zero h = HeldBy r.names h
HeldIn (r ∷ rs) (suc n) h = HeldIn rs n h

no_spot : {m : ℕ} {h : Holds} {A : Type 0} → ◌≡◌ {A = Option (ℕ × Holds)} (None) (Some (m, h)) → A
no_spot e = let z : ◌≡◌ {A = ℕ} 0 1 = cc in absurd (omega arith)

module _ (s : List ℕ) (a e : ℕ) (m : ℕ) (h : Holds) where
  among_held : (ns : List Named) (n : ℕ) (others : Option (ℕ × Holds)) → among ns n s a e others ≡ Some (m, h) → ((m ≡ n) × HeldBy ns h) ⊎ (others ≡ Some (m, h))
  among_held [] n others f = inr f
  among_held ((x is g) ∷ ns) n others f = go (name_is (bytes x) s a e) f (among_held ns n others)
    where
      go : (b : Bool) → cond b (Some (n, g)) (among ns n s a e others) ≡ Some (m, h) → (among ns n s a e others ≡ Some (m, h) → ((m ≡ n) × HeldBy ns h) ⊎ (others ≡ Some (m, h))) → ((m ≡ n) × ((g ≡ h) ⊎ HeldBy ns h)) ⊎ (others ≡ Some (m, h))
      go true f more = let u = some_pair_parts n m g h f in inl (sym u.0, inl u.1)
      go false f more = wrap (more f)
        where
          wrap : ((m ≡ n) × HeldBy ns h) ⊎ (others ≡ Some (m, h)) → ((m ≡ n) × ((g ≡ h) ⊎ HeldBy ns h)) ⊎ (others ≡ Some (m, h))
          wrap (inl y) = inl (y.0, inr y.1)
          wrap (inr y) = inr y

  spot_held : (rs : List Row) (n : ℕ) → spot_in rs n s a e ≡ Some (m, h) → (j : ℕ) × (m ≡ n + j) × HeldIn rs j h
  spot_held [] n f = no_spot f
  spot_held (r ∷ rs) n f = go (among_held r.names n (spot_in rs (suc n) s a e) f) (spot_held rs (suc n))
    where
      go : ((m ≡ n) × HeldBy r.names h) ⊎ (spot_in rs (suc n) s a e ≡ Some (m, h)) → (spot_in rs (suc n) s a e ≡ Some (m, h) → (j : ℕ) × (m ≡ suc n + j) × HeldIn rs j h) → (j : ℕ) × (m ≡ n + j) × HeldIn (r ∷ rs) j h
      go (inl y) more = (0, (let z = y.0 in omega arith), y.1)
      go (inr y) more = let k = more y in (suc k.0, (let z = k.1 in omega arith), k.2)

held_row : (rs : List Row) (n : ℕ) (h : Holds) → HeldIn rs n h → n < length (ranges rs)
held_row [] n h f = absurd f
held_row (r ∷ rs) zero h f = omega arith
held_row (r ∷ rs) (suc n) h f = let g = held_row rs n h f in omega arith

keep_held : (p : Parent) (s : List ℕ) (cs : List Child) (k : Kept) (t : List Kept) → keep p s cs ≡ k ∷ t → HeldIn (table p) k.row k.holds
unfolding keep
keep_held p s [] k t e = let z : ◌≡◌ {A = ℕ} 0 1 = cc in absurd (omega arith)
keep_held p s (c ∷ cs) k t e = go (spot_in (table p) 0 s (c.lt + 1) c.gt) refl e (keep_held p s cs k t)
  where
    go : (w : Option (ℕ × Holds)) → spot_in (table p) 0 s (c.lt + 1) c.gt ≡ w → keep_one w c (keep p s cs) ≡ k ∷ t → (keep p s cs ≡ k ∷ t → HeldIn (table p) k.row k.holds) → HeldIn (table p) k.row k.holds
    go None f h more = more h
    go (Some (m, g)) f h more =
        let u : record { child = c; row = m; holds = g } ≡ k = cc in
        let y = spot_held s (c.lt + 1) c.gt m g (table p) 0 f in
        let z : y.0 ≡ m = let x = y.1 in omega arith in
        rw (← u) (rw z at y.2)

module _ (p : Parent) (s : List ℕ) (i : ℕ) (k : Kept) (t : List Kept) (e : kept_from p s i ≡ k ∷ t) where
  pub kept_held : HeldIn (table p) k.row k.holds
  unfolding kept_from
  kept_held = keep_held p s (children_from s i) k t e

  pub kept_row : k.row < length (ranges (table p))
  kept_row = held_row (table p) k.row k.holds kept_held
