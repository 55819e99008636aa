-- Laws of the children of an element.
use Rattle.std.specs.Prelude.{Option, Result, Some, None, Ok, Err}
use Rattle.std.specs.Result.{result_ok}
use mathlib.Core.Path.{◌≡◌, refl, sym, ap, ◌∙◌}
use mathlib.Core.List.{List, [], ◌∷◌}
use mathlib.Core.Bool.{Bool, true, false, cond}
use Prim.Native.Nat.{ℕ, zero, suc, ◌+◌, ◌-◌, ◌≤◌, ◌<◌}
use native.Mathlib.Omega.{arith}
use lib.ListN.{length, get_or-eq_default}
use lib.Dec.{eqb}
use borrow.Author.Tests.{eqb-true, eq-eqb, ne_eqb}
use Rattle.scan.specs.Bytes.{byte_at, is_white}
use Rattle.scan.proofs.Laws.{run_from, run_within}
use Rattle.tokens.specs.Tokens.{white_at, name_at, end_tag_at}
use Rattle.tokens.proofs.Laws.{name_past, end_past}
use Rattle.markup.specs.Markup.{content_at}
use Rattle.markup.proofs.Laws.{content_at_past}
use Rattle.children.specs.declared.Child.{Child}
use Rattle.children.specs.Child.{child_at, onward, then_from, children_up_to, children_from, spans_of, field_at}

-- a child that begins at i or later lies in the flow: its <, its name, its content, its end, in this order
pub record Lies (s : List ℕ) (i : ℕ) (c : Child) : Type 0 where
  pub from : i ≤ c.lt
  pub name : c.lt + 1 < c.gt
  pub inner : c.gt + 1 ≤ c.to
  pub ends : c.to < c.after
  pub within : c.after ≤ length s

-- what was read where `ok` gives something, and where it gives nothing
pub ok_some : (r : Result ℕ ℕ) (o : Option ℕ) (x : ℕ) → o ≡ result_ok r → o ≡ Some x → r ≡ Ok x
ok_some (Ok y) o x h k = let z : Some y ≡ Some x = sym h ∙ k in cc
ok_some (Err e) o x h k = let z : None ≡ Some x = sym h ∙ k in absurd cc

pub ok_none : (r : Result ℕ ℕ) (o : Option ℕ) → o ≡ result_ok r → o ≡ None → (e : ℕ) × (r ≡ Err e)
ok_none (Ok y) o h k = let z : Some y ≡ None = sym h ∙ k in absurd cc
ok_none (Err e) o h k = (e, refl)

never : {c : Child} {A : Type 0} → ◌≡◌ {A = Option Child} (None) (Some c) → A
never e = let z : ◌≡◌ {A = ℕ} 0 1 = cc in absurd (omega arith)

cond_one : (b : Bool) (x : Option Child) {c : Child} → cond b x None ≡ Some c → (b ≡ true) × (x ≡ Some c)
cond_one true x e = (refl, e)
cond_one false x e = never e

onward_one : (w : Result ℕ ℕ) (k : ℕ → Option Child) {c : Child} → onward w k ≡ Some c → (p : ℕ) × (w ≡ Ok p) × (k p ≡ Some c)
onward_one (Ok p) k e = (p, refl, e)
onward_one (Err p) k e = never e

-- child_at's steps
abbrev closed : List ℕ → ℕ → ℕ → ℕ → ℕ → Option Child
closed s i e p q = Some (record { lt = i; gt = e; to = p; after = white_at s q })

abbrev filled : List ℕ → ℕ → ℕ → ℕ → Option Child
filled s i e p = onward (end_tag_at s (i + 1) e p) (closed s i e p)

abbrev opened : List ℕ → ℕ → ℕ → Option Child
opened s i e = cond (eqb (byte_at s e) 62) (onward (content_at 12 s (e + 1)) (filled s i e)) None

-- what was read of a child that is there: the end of its name, of its content and of itself
pub record ReadTo (s : List ℕ) (i : ℕ) (c : Child) : Type 0 where
  pub gt : ℕ
  pub to : ℕ
  pub end : ℕ
  pub opens : byte_at s i ≡ 60
  pub named : name_at s (i + 1) ≡ Ok gt
  pub tagged : byte_at s gt ≡ 62
  pub holds : content_at 12 s (gt + 1) ≡ Ok to
  pub ends : end_tag_at s (i + 1) gt to ≡ Ok end
  pub is : c ≡ record { lt = i; gt = gt; to = to; after = white_at s end }

pub child_read : (s : List ℕ) (i : ℕ) (c : Child) → child_at s i ≡ Some c → ReadTo s i c
unfolding child_at
child_read s i c h =
    let a = cond_one (eqb (byte_at s i) 60) (onward (name_at s (i + 1)) (opened s i)) h in
    let n = onward_one (name_at s (i + 1)) (opened s i) a.1 in
    let e = n.0 in
    let b = cond_one (eqb (byte_at s e) 62) (onward (content_at 12 s (e + 1)) (filled s i e)) n.2 in
    let k = onward_one (content_at 12 s (e + 1)) (filled s i e) b.1 in
    let l = onward_one (end_tag_at s (i + 1) e k.0) (closed s i e k.0) k.2 in
    let y = l.2 in
    let z : c ≡ record { lt = i; gt = e; to = k.0; after = white_at s l.0 } = cc in
    record { gt = e; to = k.0; end = l.0; opens = eqb-true _ _ a.0; named = n.1; tagged = eqb-true _ _ b.0; holds = k.1; ends = l.1; is = z }

pub child_lies : (s : List ℕ) (i : ℕ) (c : Child) → child_at s i ≡ Some c → (c.lt ≡ i) × Lies s i c
child_lies s i c h =
    let r = child_read s i c h in
    let g = name_past s (i + 1) r.gt r.named in
    let k = content_at_past 12 s (r.gt + 1) r.to r.holds in
    let l = end_past s (i + 1) r.gt r.to r.end r.ends in
    let w = run_from is_white s r.end in
    let v = run_within is_white s r.end l.within in
    rw r.is (refl, record { from = omega arith; name = g.on; inner = k.0; ends = omega arith; within = v })

-- the ways out of child_at
module _ (s : List ℕ) (i : ℕ) where
  pub child_none : (byte_at s i ≡ 60 → ⊥) → child_at s i ≡ None
  unfolding child_at
  child_none e = rw (ne_eqb _ _ e)

  module _ (l : byte_at s i ≡ 60) where
    pub child_no_name : (p : ℕ) → name_at s (i + 1) ≡ Err p → child_at s i ≡ None
    unfolding child_at
    child_no_name p n = rw (eq-eqb _ _ l, n)

    module _ (e : ℕ) (n : name_at s (i + 1) ≡ Ok e) where
      pub child_no_gt : (byte_at s e ≡ 62 → ⊥) → child_at s i ≡ None
      unfolding child_at
      child_no_gt g = rw (eq-eqb _ _ l, n, ne_eqb _ _ g)

      module _ (g : byte_at s e ≡ 62) where
        pub child_no_content : (p : ℕ) → content_at 12 s (e + 1) ≡ Err p → child_at s i ≡ None
        unfolding child_at
        child_no_content p k = rw (eq-eqb _ _ l, n, eq-eqb _ _ g, k)

        module _ (p : ℕ) (k : content_at 12 s (e + 1) ≡ Ok p) where
          pub child_no_end : (q : ℕ) → end_tag_at s (i + 1) e p ≡ Err q → child_at s i ≡ None
          unfolding child_at
          child_no_end q h = rw (eq-eqb _ _ l, n, eq-eqb _ _ g, k, h)

          pub child_one : (q : ℕ) → end_tag_at s (i + 1) e p ≡ Ok q → child_at s i ≡ Some (record { lt = i; gt = e; to = p; after = white_at s q })
          unfolding child_at
          child_one q h = rw (eq-eqb _ _ l, n, eq-eqb _ _ g, k, h)

-- past the end of the flow stands no child
pub child_beyond : (s : List ℕ) (i : ℕ) → length s ≤ i → child_at s i ≡ None
child_beyond s i h = let y : byte_at s i ≡ 0 = get_or-eq_default s 0 h in child_none s i (λ e. omega arith)

-- WHERE ITS OWN WORDS STAND
module _ (s : List ℕ) (i : ℕ) where
  pub field_none : child_at s i ≡ None → spans_of None ≡ field_at s i
  unfolding field_at
  field_none e = rw e

  pub field_one : (c : Child) → child_at s i ≡ Some c → spans_of (Some c) ≡ field_at s i
  unfolding field_at
  field_one c e = rw e

-- within the flow
pub field_within : (s : List ℕ) (i : ℕ) → ((field_at s i).name + (field_at s i).name_len ≤ length s) × ((field_at s i).text + (field_at s i).text_len ≤ length s)
unfolding field_at
field_within s i = go (child_at s i) refl
  where
    go : (w : Option Child) → child_at s i ≡ w → ((spans_of w).name + (spans_of w).name_len ≤ length s) × ((spans_of w).text + (spans_of w).text_len ≤ length s)
    go (Some c) e = let l = (child_lies s i c e).1 in (omega arith, omega arith)
    go None e = (omega arith, omega arith)

-- CHILDREN
-- two limits that are large enough give the same children
enough : (s : List ℕ) (n m i : ℕ) → length s - i < n → length s - i < m → children_up_to n s i ≡ children_up_to m s i
unfolding children_up_to
enough s zero m i h k = absurd (omega arith)
enough s (suc n) zero i h k = absurd (omega arith)
enough s (suc n) (suc m) i h k = go (child_at s i) refl (enough s n m)
  where
    go : (w : Option Child) → child_at s i ≡ w → ((j : ℕ) → length s - j < n → length s - j < m → children_up_to n s j ≡ children_up_to m s j) → then_from w (children_up_to n s) ≡ then_from w (children_up_to m s)
    go (Some c) e ih = let l = (child_lies s i c e).1 in ap (λ cs. c ∷ cs) (ih c.after (omega arith) (omega arith))
    go None e ih = refl

module _ (s : List ℕ) (i : ℕ) where
  pub children_end : child_at s i ≡ None → children_from s i ≡ []
  unfolding children_from children_up_to
  children_end e = rw e

  pub children_one : (c : Child) → child_at s i ≡ Some c → children_from s i ≡ c ∷ children_from s c.after
  unfolding children_from children_up_to
  children_one c e = let l = (child_lies s i c e).1 in rw e (ap (λ cs. c ∷ cs) (enough s (length s) (suc (length s)) c.after (omega arith) (omega arith)))
