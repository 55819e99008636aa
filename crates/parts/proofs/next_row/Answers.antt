use mathlib.Core.Path.{refl, sym, ap, ◌∙◌}
use native.Mathlib.Omega.{arith}
use Rattle.rows.specs.Kept.{next_of}
use Rattle.rows.proofs.Laws.{next_at}
use Rattle.orders.proofs.Laws.{row_other, row_one}
use Rattle.parts.proofs.Laws.{row_done}
use Rattle.parts.proofs.next_row.Goals as goal

pub loop-k-init : goal.loop-k-init
loop-k-init c = (c.requires.0, refl)

pub next_named-requires : goal.next_named-requires
next_named-requires c = (c.loop-k.invariant.0, c.requires.1)

pub returns : goal.returns
returns c = sym (ap next_of (c.loop-k.invariant.1 ∙ row_done _ _ _ c.loop-k.i (sym c.next_named.ensures ∙ c.in_default.is)))

pub returns-then-k-row : goal.returns-then-k-row
returns-then-k-row c = sym (ap next_of (c.loop-k.invariant.1 ∙ row_one _ _ _ _ c.in-Some.k (sym c.next_named.ensures ∙ c.in-Some.is) c.if-k-row.true))

pub loop-k-smaller : goal.loop-k-smaller
loop-k-smaller c = omega (arith, ((next_at _ _ _ c.in-Some.k (sym c.next_named.ensures ∙ c.in-Some.is)).lies))

pub loop-k-preserved : goal.loop-k-preserved
loop-k-preserved c = (((next_at _ _ _ c.in-Some.k (sym c.next_named.ensures ∙ c.in-Some.is)).lies).within, c.loop-k.invariant.1 ∙ row_other _ _ _ _ c.in-Some.k (sym c.next_named.ensures ∙ c.in-Some.is) c.if-k-row.false)
