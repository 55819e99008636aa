use mathlib.Core.Path.{refl, sym, ap, ◌∙◌}
use native.Mathlib.Omega.{arith}
use Rattle.rows.specs.Kept.{next_of}
use Rattle.children.proofs.Laws.{Lies, child_lies}
use Rattle.rows.proofs.Laws.{kept_end, kept_passed, kept_at}
use Rattle.rows.proofs.next_named.Goals as goal

pub loop-child-init : goal.loop-child-init
loop-child-init c = (c.requires.0, refl)

pub child_at-requires : goal.child_at-requires
child_at-requires c = (c.loop-child.invariant.0, c.requires.1)

pub returns : goal.returns
returns c = sym (ap next_of (c.loop-child.invariant.1 ∙ kept_end _ _ c.loop-child.i (sym c.child_at.ensures ∙ c.in_default.is)))

pub overflow_add-child : goal.overflow_add-child
overflow_add-child c = omega (arith, ((child_lies _ _ _ (sym c.child_at.ensures ∙ c.in-Some.is)).1))

pub spot_of-requires : goal.spot_of-requires
spot_of-requires c = let l : Lies c.args.s.now c.loop-child.i c.in-Some.child = (child_lies _ _ _ (sym c.child_at.ensures ∙ c.in-Some.is)).1 in (omega arith, omega arith)

pub returns-in-Some-spot_of : goal.returns-in-Some-spot_of
returns-in-Some-spot_of c = sym (ap next_of (c.loop-child.invariant.1 ∙ kept_at _ _ _ c.in-Some.child _ _ (sym c.child_at.ensures ∙ c.in-Some.is) (sym c.spot_of.ensures ∙ c.in-Some-spot_of.is)))

pub loop-child-smaller : goal.loop-child-smaller
loop-child-smaller c = omega (arith, ((child_lies _ _ _ (sym c.child_at.ensures ∙ c.in-Some.is)).1))

pub loop-child-preserved : goal.loop-child-preserved
loop-child-preserved c = (((child_lies _ _ _ (sym c.child_at.ensures ∙ c.in-Some.is)).1).within, c.loop-child.invariant.1 ∙ kept_passed _ _ _ c.in-Some.child (sym c.child_at.ensures ∙ c.in-Some.is) (sym c.spot_of.ensures ∙ c.in_default-spot_of.is))
