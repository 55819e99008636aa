use mathlib.Core.Path.{refl, sym, ◌∙◌}
use native.Mathlib.Omega.{arith}
use Rattle.rows.proofs.Laws.{next_at, replaces_none, replaces_said, replaces_later}
use Rattle.rows.proofs.is_replacing_from.Goals as goal

pub loop-k-init : goal.loop-k-init
loop-k-init c = (c.requires.0, refl)

pub next_named-requires : goal.next_named-requires
next_named-requires c = (c.loop-k.invariant.0, c.requires.1)

pub returns : goal.returns
returns c = sym (c.loop-k.invariant.1 ∙ replaces_none _ _ c.loop-k.i (sym c.next_named.ensures ∙ c.in_default.is))

pub overflow_add-c : goal.overflow_add-c
overflow_add-c c = let l = (next_at _ _ c.loop-k.i c.in-Some.k (sym c.next_named.ensures ∙ c.in-Some.is)).lies in
    omega arith

pub is-requires : goal.is-requires
is-requires c = let l = (next_at _ _ c.loop-k.i c.in-Some.k (sym c.next_named.ensures ∙ c.in-Some.is)).lies in
    (l.inner, omega arith)

pub returns-then-k-eq0 : goal.returns-then-k-eq0
returns-then-k-eq0 c = c.is.ensures ∙ sym (c.loop-k.invariant.1 ∙ replaces_said _ _ c.loop-k.i c.in-Some.k (sym c.next_named.ensures ∙ c.in-Some.is) c.if-k-eq0.true)

pub loop-k-smaller : goal.loop-k-smaller
loop-k-smaller c = let l = (next_at _ _ c.loop-k.i c.in-Some.k (sym c.next_named.ensures ∙ c.in-Some.is)).lies in
    omega arith

pub loop-k-preserved : goal.loop-k-preserved
loop-k-preserved c = ((next_at _ _ c.loop-k.i c.in-Some.k (sym c.next_named.ensures ∙ c.in-Some.is)).lies.within, c.loop-k.invariant.1 ∙ replaces_later _ _ c.loop-k.i c.in-Some.k (sym c.next_named.ensures ∙ c.in-Some.is) c.if-k-eq0.false)
