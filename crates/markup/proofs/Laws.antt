-- Laws of elements, content and the whole flow, which the crates above cite instead of the definitions' text.
use Rattle.std.specs.Prelude.{Result, Ok, Err, IsErrAnd}
use Rattle.std.proofs.lemmas.Result.{err_from_is_err_and}
use mathlib.Core.Path.{ap, ◌≡◌, refl, ◌∙◌}
use mathlib.Core.List.{List}
use mathlib.Core.Bool.{Bool, true, false, cond, not, ◌&&◌}
use Prim.Native.Nat.{ℕ, zero, suc, ◌+◌, ◌-◌, ◌≤◌, ◌<◌}
use native.Mathlib.Numerals.{sub-one}
use native.Mathlib.Omega.{arith}
use lib.ListN.{length}
use lib.Dec.{eqb}
use borrow.Author.Tests.{eqb-true, eq-eqb, ne_eqb}
use Rattle.scan.specs.Bytes.{bytes, byte_at, is_white, has_at}
use Rattle.scan.proofs.Laws.{never, cond_past, run_from, run_within, has_past}
use Rattle.tokens.specs.Tokens.{and_then, name_at, tag_end_at, white_at, text_at, end_tag_at, optional_at}
use Rattle.tokens.proofs.Laws.{then_past, Steps, until_stop, until_step, until_broken, until_past, name_past, tag_past, end_past, text_past, optional_within}
use Rattle.markup.specs.Markup.{element_by, child_by, children_by, content_by, element_at, content_at, mark, declaration, root_at, then_root, closed_by, root_from, markup_of}
use Rattle.markup.specs.Inner.{opened_from, opened_of, then_closed}

-- what a `?` returns that passes an error on as it is, as where the reading breaks
pub passed_on : {T E : Type 0} (r : Result T E) (p : E) → IsErrAnd r (λ e. e ≡ p) → r ≡ Err p
passed_on r p h = let k = err_from_is_err_and r h in k.1 ∙ ap Err k.2

-- ONE LEVEL AT A TIME: where the elements inside advance, so do content and the element around it
pub child_past : (element : ℕ → Result ℕ ℕ) (s : List ℕ) → Steps s element → Steps s (child_by element s)
unfolding child_by
child_past element s adv p q e =
    let c = cond_past (eqb (byte_at s p) 60) (and_then (element (p + 1)) (λ r. Ok (white_at s r))) p e in
    let d = then_past (element (p + 1)) (λ r. Ok (white_at s r)) c.1 in
    let g = adv (p + 1) d.0 d.1 in
    let f = run_from is_white s d.0 in
    let w = run_within is_white s d.0 g.within in
    let k = d.2 in
    let z : white_at s d.0 ≡ q = cc in
    record { on = omega arith; within = omega arith }

-- children and content stop at a <, at or after their start
pub children_past : (element : ℕ → Result ℕ ℕ) (s : List ℕ) → Steps s element → (p q : ℕ) → children_by element s p ≡ Ok q → (p ≤ q) × (q < length s)
unfolding children_by
children_past element s adv p q e =
    let u = until_past s (has_at (bytes "</") s) (child_by element s) (child_past element s adv) e in
    let h = has_past (bytes "</") s q 1 refl u.1 in
    (u.0, omega arith)

pub content_past : (element : ℕ → Result ℕ ℕ) (s : List ℕ) → Steps s element → (p q : ℕ) → content_by element s p ≡ Ok q → (p ≤ q) × (q < length s)
unfolding content_by
content_past element s adv p q = go (eqb (byte_at s (white_at s p)) 60 && not (eqb (byte_at s (white_at s p + 1)) 47))
  where
    go : (b : Bool) → cond b (children_by element s (white_at s p)) (text_at s p) ≡ Ok q → (p ≤ q) × (q < length s)
    go true h = let c = children_past element s adv (white_at s p) q h in let f = run_from is_white s p in (omega arith, c.1)
    go false h = text_past s p q h

-- an element that is read: its name's end e, and its content's end p
pub record Parts (content : ℕ → Result ℕ ℕ) (s : List ℕ) (at e p q : ℕ) : Type 0 where
  pub name : name_at s at ≡ Ok e
  pub opens : eqb (byte_at s e) 62 ≡ true
  pub holds : content (e + 1) ≡ Ok p
  pub end : end_tag_at s at e p ≡ Ok q

pub parts : (content : ℕ → Result ℕ ℕ) (s : List ℕ) (at q : ℕ) → element_by content s at ≡ Ok q → (e p : ℕ) × Parts content s at e p q
unfolding element_by
parts content s at q h =
    let n = then_past (name_at s at) (λ t. cond (eqb (byte_at s t) 62) (and_then (content (t + 1)) (end_tag_at s at t)) (Err t)) h in
    let c = cond_past (eqb (byte_at s n.0) 62) (and_then (content (n.0 + 1)) (end_tag_at s at n.0)) n.0 n.2 in
    let k = then_past (content (n.0 + 1)) (end_tag_at s at n.0) c.1 in
    (n.0, k.0, record { name = n.1; opens = c.0; holds = k.1; end = k.2 })

pub element_past : (d : ℕ) (s : List ℕ) → Steps s (element_at d s)
unfolding element_at
element_past zero s p q e = never e
element_past (suc d) s p q e =
    let k = parts (content_by (element_at d s) s) s p q e in
    let g = name_past s p k.0 k.2.name in
    let f = content_past (element_at d s) s (element_past d s) (k.0 + 1) k.1 k.2.holds in
    let h = end_past s p k.0 k.1 q k.2.end in
    record { on = omega arith; within = h.within }

pub content_at_past : (d : ℕ) (s : List ℕ) (p q : ℕ) → content_at d s p ≡ Ok q → (p ≤ q) × (q < length s)
unfolding content_at
content_at_past d s p q e = content_past (element_at d s) s (element_past d s) p q e

-- CONTENT, a child at a time
module _ (d : ℕ) (s : List ℕ) (i : ℕ) where
  pub content_text : (byte_at s (white_at s i) ≡ 60 → ⊥) → content_at d s i ≡ text_at s i
  unfolding content_at content_by
  content_text e = rw (ne_eqb _ _ e)

  pub content_empty : byte_at s (white_at s i) ≡ 60 → byte_at s (white_at s i + 1) ≡ 47 → content_at d s i ≡ text_at s i
  unfolding content_at content_by
  content_empty e f = rw (eq-eqb _ _ e, eq-eqb _ _ f)

  pub content_children : byte_at s (white_at s i) ≡ 60 → (byte_at s (white_at s i + 1) ≡ 47 → ⊥) → content_at d s i ≡ children_by (element_at d s) s (white_at s i)
  unfolding content_at content_by
  content_children e f = rw (eq-eqb _ _ e, ne_eqb _ _ f)

  steps : Steps s (child_by (element_at d s) s)
  steps = child_past (element_at d s) s (element_past d s)

  pub children_stop : has_at (bytes "</") s i ≡ true → children_by (element_at d s) s i ≡ Ok i
  unfolding children_by
  children_stop e = until_stop s (has_at (bytes "</") s) (child_by (element_at d s) s) steps e

  module _ (e : has_at (bytes "</") s i ≡ false) where
    pub children_other : (byte_at s i ≡ 60 → ⊥) → children_by (element_at d s) s i ≡ Err i
    unfolding children_by child_by
    children_other f = until_broken s (has_at (bytes "</") s) (child_by (element_at d s) s) steps e (rw (ne_eqb _ _ f))

    module _ (f : byte_at s i ≡ 60) where
      pub children_step : (q : ℕ) → element_at d s (i + 1) ≡ Ok q → children_by (element_at d s) s i ≡ children_by (element_at d s) s (white_at s q)
      unfolding children_by child_by
      children_step q g = until_step s (has_at (bytes "</") s) (child_by (element_at d s) s) steps e (rw (eq-eqb _ _ f, g))

      pub children_broken : (q : ℕ) → element_at d s (i + 1) ≡ Err q → children_by (element_at d s) s i ≡ Err q
      unfolding children_by child_by
      children_broken q g = until_broken s (has_at (bytes "</") s) (child_by (element_at d s) s) steps e (rw (eq-eqb _ _ f, g))

-- ELEMENT, a way out of the code at a time
pub element_deep : (s : List ℕ) (at : ℕ) → element_at 0 s at ≡ Err at
unfolding element_at
element_deep s at = refl

pub element_level : (d : ℕ) (s : List ℕ) (at : ℕ) → (d ≡ 0 → ⊥) → element_at d s at ≡ element_by (content_at (d - 1) s) s at
unfolding element_at content_at
element_level zero s at f = absurd (f refl)
element_level (suc d) s at f = rw sub-one

module _ (d : ℕ) (s : List ℕ) (at : ℕ) (f : d ≡ 0 → ⊥) where
  pub element_no_name : (p : ℕ) → name_at s at ≡ Err p → element_at d s at ≡ Err p
  unfolding element_by
  element_no_name p e = element_level d s at f ∙ rw e

  module _ (e : ℕ) (n : name_at s at ≡ Ok e) where
    pub element_no_end : (byte_at s e ≡ 62 → ⊥) → element_at d s at ≡ Err e
    unfolding element_by
    element_no_end g = element_level d s at f ∙ rw (n, ne_eqb _ _ g)

    module _ (g : byte_at s e ≡ 62) (p : ℕ) where
      pub element_inside : content_at (d - 1) s (e + 1) ≡ Err p → element_at d s at ≡ Err p
      unfolding element_by
      element_inside h = element_level d s at f ∙ rw (n, eq-eqb _ _ g, h)

      pub element_ends : content_at (d - 1) s (e + 1) ≡ Ok p → element_at d s at ≡ end_tag_at s at e p
      unfolding element_by
      element_ends h = element_level d s at f ∙ rw (n, eq-eqb _ _ g, h)

-- THE WHOLE FLOW
-- the positions after the mark, after the declaration and after white space
module _ (s : List ℕ) (a : ℕ) (ea : a ≡ optional_at mark s 0) where
  pub mark_within : a ≤ length s
  mark_within = rw ea (optional_within mark s 0 (omega arith))

  module _ (b : ℕ) (eb : b ≡ optional_at declaration s a) where
    pub declaration_within : b ≤ length s
    declaration_within = rw eb (optional_within declaration s a mark_within)

    pub root_is : (w : ℕ) → w ≡ white_at s b → w ≡ root_at s
    unfolding root_at
    root_is w ew = rw (ew, eb, ea)

-- opened_of, a way out of the code at a time
module _ (ids : Bool) (s : List ℕ) (w : ℕ) (v : w ≡ root_at s) where
  pub opened_none : (byte_at s w ≡ 60 → ⊥) → opened_of ids s ≡ Err w
  unfolding opened_of
  opened_none e = rw (← v, ne_eqb _ _ e)

  module _ (o : byte_at s w ≡ 60) where
    pub markup_root : markup_of ids s ≡ root_from ids s w
    unfolding markup_of
    markup_root = rw (← v, eq-eqb _ _ o)

    opened_root : opened_of ids s ≡ opened_from ids s w
    unfolding opened_of
    opened_root = rw (← v, eq-eqb _ _ o)

    pub opened_no_name : (p : ℕ) → name_at s (w + 1) ≡ Err p → opened_of ids s ≡ Err p
    unfolding opened_from
    opened_no_name p b = opened_root ∙ rw b

    module _ (e : ℕ) (n : name_at s (w + 1) ≡ Ok e) where
      pub opened_no_tag : (p : ℕ) → tag_end_at ids s e ≡ Err p → opened_of ids s ≡ Err p
      unfolding opened_from
      opened_no_tag p b = opened_root ∙ rw (n, b)

      pub opened_tag : (c : ℕ) → tag_end_at ids s e ≡ Ok c → opened_of ids s ≡ Ok (w, e, c)
      unfolding opened_from
      opened_tag c t = opened_root ∙ rw (n, t)

-- closed_by, a way out of the code at a time
module _ (s : List ℕ) (lt e c : ℕ) (w : Result ℕ ℕ) (p : ℕ) (h : w ≡ Ok p) where
  pub closed_no_end : (q : ℕ) → end_tag_at s (lt + 1) e p ≡ Err q → closed_by s lt e c w ≡ Err q
  closed_no_end q b = rw (h, b)

  module _ (q : ℕ) (k : end_tag_at s (lt + 1) e p ≡ Ok q) (z : ℕ) (u : z ≡ white_at s q) where
    pub closed_more : (z ≡ length s → ⊥) → closed_by s lt e c w ≡ Err z
    closed_more x = rw (h, k, ← u, ne_eqb _ _ x)

    pub closed_ends : z ≡ length s → closed_by s lt e c w ≡ Ok (lt, e, c)
    closed_ends x = rw (h, k, ← u, eq-eqb _ _ x)

pub root_ends : (ids : Bool) (s : List ℕ) (lt e : ℕ) → name_at s (lt + 1) ≡ Ok e → (c : ℕ) → tag_end_at ids s e ≡ Ok c → (p : ℕ) → content_at 11 s c ≡ Ok p
    → (q : ℕ) → end_tag_at s (lt + 1) e p ≡ Ok q → (z : ℕ) → z ≡ white_at s q → z ≡ length s → root_from ids s lt ≡ Ok (lt, e, c)
unfolding root_from
root_ends ids s lt e n c t p h q k z u x = rw (n, t) (closed_ends s lt e c (content_at 11 s c) p h q k z u x)

-- the whole is what is open, and its rest
pub markup_opened : (ids : Bool) (s : List ℕ) → markup_of ids s ≡ then_closed s (opened_of ids s)
unfolding markup_of root_from opened_of opened_from
markup_opened ids s = go (eqb (byte_at s (root_at s)) 60) (name_at s (root_at s + 1))
  where
    tag : (lt e : ℕ) (w : Result ℕ ℕ) → then_root w (λ c. closed_by s lt e c (content_at 11 s c)) ≡ then_closed s (then_root w (λ c. Ok (lt, e, c)))
    tag lt e (Ok c) = refl
    tag lt e (Err p) = refl

    go : (b : Bool) (w : Result ℕ ℕ)
        → cond b (then_root w (λ e. then_root (tag_end_at ids s e) (λ c. closed_by s (root_at s) e c (content_at 11 s c)))) (Err (root_at s))
        ≡ then_closed s (cond b (then_root w (λ e. then_root (tag_end_at ids s e) (λ c. Ok ((root_at s), e, c)))) (Err (root_at s)))
    go true (Ok e) = tag (root_at s) e (tag_end_at ids s e)
    go true (Err p) = refl
    go false w = refl

-- WHAT A DOCUMENT THAT STANDS IS MADE OF: its root's content ends at p, and its root at q
pub record Rooted (ids : Bool) (s : List ℕ) (lt e c p q : ℕ) : Type 0 where
  pub at : lt ≡ root_at s
  pub opens : byte_at s lt ≡ 60
  pub name : name_at s (lt + 1) ≡ Ok e
  pub tag : tag_end_at ids s e ≡ Ok c
  pub holds : content_at 11 s c ≡ Ok p
  pub end : end_tag_at s (lt + 1) e p ≡ Ok q
  pub ends : white_at s q ≡ length s

no_root : {a b c p : ℕ} {A : Type 0} → ◌≡◌ {A = Result (ℕ × ℕ × ℕ) ℕ} (Err p) (Ok (a, b, c)) → A
no_root e = let z : ◌≡◌ {A = ℕ} 0 1 = cc in absurd (omega arith)

-- a root's parts are its own
pub root_parts : {a b c x y z : ℕ} → ◌≡◌ {A = Result (ℕ × ℕ × ℕ) ℕ} (Ok (a, b, c)) (Ok (x, y, z)) → (a ≡ x) × (b ≡ y) × (c ≡ z)
root_parts {a = a} {b = b} {c = c} {x = x} {y = y} {z = z} e =
    let p : ◌≡◌ {A = ℕ × ℕ × ℕ} (a, b, c) (x, y, z) = cc in
    (ap (λ (t : ℕ × ℕ × ℕ). t.0) p, ap (λ (t : ℕ × ℕ × ℕ). t.1) p, ap (λ (t : ℕ × ℕ × ℕ). t.2) p)

cond_root : (b : Bool) (x : Result (ℕ × ℕ × ℕ) ℕ) (p : ℕ) {lt e c : ℕ} → cond b x (Err p) ≡ Ok (lt, e, c) → (b ≡ true) × (x ≡ Ok (lt, e, c))
cond_root true x p e = (refl, e)
cond_root false x p e = no_root e

then_root_lem : (w : Result ℕ ℕ) (k : ℕ → Result (ℕ × ℕ × ℕ) ℕ) {lt e c : ℕ} → then_root w k ≡ Ok (lt, e, c) → (p : ℕ) × (w ≡ Ok p) × (k p ≡ Ok (lt, e, c))
then_root_lem (Ok p) k e = (p, refl, e)
then_root_lem (Err p) k e = no_root e

-- a root that is closed is the one that was open
pub closed_root : (s : List ℕ) (lt e c : ℕ) (w : Result ℕ ℕ) {x y z : ℕ} → closed_by s lt e c w ≡ Ok (x, y, z) → closed_by s lt e c w ≡ Ok (lt, e, c)
closed_root s lt e c w h =
    let k = then_root_lem w _ h in
    let f = then_root_lem (end_tag_at s (lt + 1) e k.0) _ k.2 in
    rw (k.1, f.1, (cond_root (eqb (white_at s f.0) (length s)) _ (white_at s f.0) f.2).0)

rooted_same : {ids : Bool} {s : List ℕ} {r a b lt e c p q : ℕ} → Rooted ids s r a b p q → r ≡ lt → a ≡ e → b ≡ c → Rooted ids s lt e c p q
rooted_same k x y u = rw (← x, ← y, ← u) k

pub markup_parts : (ids : Bool) (s : List ℕ) (lt e c : ℕ) → markup_of ids s ≡ Ok (lt, e, c) → (p q : ℕ) × Rooted ids s lt e c p q
unfolding markup_of root_from
markup_parts ids s lt e c h =
    let r = root_at s in
    let a = cond_root (eqb (byte_at s r) 60) _ r h in
    let n = then_root_lem (name_at s (r + 1)) _ a.1 in
    let t = then_root_lem (tag_end_at ids s n.0) _ n.2 in
    let k = then_root_lem (content_at 11 s t.0) _ t.2 in
    let f = then_root_lem (end_tag_at s (r + 1) n.0 k.0) _ k.2 in
    let w = cond_root (eqb (white_at s f.0) (length s)) _ (white_at s f.0) f.2 in
    let z = w.1 in
    let o = root_parts z in
    let x : r ≡ lt = o.0 in
    let y : n.0 ≡ e = o.1 in
    let u : t.0 ≡ c = o.2 in
    (k.0, f.0, rooted_same (record { at = refl; opens = eqb-true _ _ a.0; name = n.1; tag = t.1; holds = k.1; end = f.1; ends = eqb-true _ _ w.0 }) x y u)

-- where the places of what is open lie
pub record Opened (s : List ℕ) (lt e c : ℕ) : Type 0 where
  pub named : lt + 1 < e
  pub tagged : e < c
  pub within : c ≤ length s

pub opened_placed : (ids : Bool) (s : List ℕ) (lt e c : ℕ) → opened_of ids s ≡ Ok (lt, e, c) → Opened s lt e c
unfolding opened_of opened_from
opened_placed ids s lt e c h =
    let r = root_at s in
    let a = cond_root (eqb (byte_at s r) 60) _ r h in
    let n = then_root_lem (name_at s (r + 1)) _ a.1 in
    let t = then_root_lem (tag_end_at ids s n.0) _ n.2 in
    let z = t.2 in
    let o = root_parts z in
    let x : r ≡ lt = o.0 in
    let y : n.0 ≡ e = o.1 in
    let u : t.0 ≡ c = o.2 in
    let f = name_past s (r + 1) n.0 n.1 in
    let g = tag_past ids s n.0 t.0 f.within t.1 in
    record { named = omega arith; tagged = omega arith; within = omega arith }

-- where these places lie
pub record Placed (s : List ℕ) (lt e c p q : ℕ) : Type 0 where
  pub named : lt + 1 < e
  pub tagged : e < c
  pub held : c ≤ p
  pub closed : p < q
  pub within : q ≤ length s

pub root_placed : {ids : Bool} {lt e c p q : ℕ} (s : List ℕ) → Rooted ids s lt e c p q → Placed s lt e c p q
root_placed {ids} {lt} {e} {c} {p} {q} s r =
    let n = name_past s (lt + 1) e r.name in
    let t = tag_past ids s e c n.within r.tag in
    let k = content_at_past 11 s c p r.holds in
    let f = end_past s (lt + 1) e p q r.end in
    record { named = n.on; tagged = t.on; held = k.0; closed = f.on; within = f.within }

-- a root with no Id is an element
pub root_plain : {ids : Bool} {lt e p q : ℕ} (s : List ℕ) → Rooted ids s lt e (e + 1) p q → byte_at s e ≡ 62 → element_at 12 s (lt + 1) ≡ Ok q
root_plain {ids} {lt} {e} {p} {q} s r b = element_ends 12 s (lt + 1) (λ z. absurd (omega arith)) e r.name b p r.holds ∙ r.end
