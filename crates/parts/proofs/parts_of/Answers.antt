use mathlib.Core.Path.{sym, ◌∙◌}
use native.Mathlib.Omega.{arith}
use Rattle.rows.proofs.Laws.{next_at}
use Rattle.parts.proofs.Laws.{lies_begins, lies_less, walk_start, walk_end, walk_past, walk_found, walk_new}
use Rattle.parts.proofs.parts_of.Goals.{else-row-lt9-via-then-row-lt9+else-each-row-eq0, else-row-lt9-via-else-row-lt9}
use Rattle.parts.proofs.parts_of.Goals as goal

pub loop-k-init : goal.loop-k-init
loop-k-init c = walk_start c.args.parent c.args.s.now c.args.from c.requires.0

pub next_named-requires : goal.next_named-requires
next_named-requires c = (c.loop-k.invariant.within, c.requires.1)

pub returns : goal.returns
returns c = walk_end c.args.parent c.args.s.now c.args.from c.loop-k.i c.loop-k.each c.loop-k.invariant (sym c.next_named.ensures ∙ c.in_default.is)

pub bounds-each-row : goal.bounds-each-row
bounds-each-row c = let z = c.loop-k.invariant.size in omega arith

pub overflow_add-each : goal.overflow_add-each
overflow_add-each c = omega (arith, lies_begins (next_at c.args.parent c.args.s.now c.loop-k.i c.in-Some.k (sym c.next_named.ensures ∙ c.in-Some.is)).lies)

pub loop-k-smaller-then-each-row-eq0 : goal.loop-k-smaller-then-each-row-eq0
loop-k-smaller-then-each-row-eq0 c = lies_less (next_at _ _ _ c.in-Some.k (sym c.next_named.ensures ∙ c.in-Some.is)).lies

pub loop-k-preserved-then-each-row-eq0 : goal.loop-k-preserved-then-each-row-eq0
loop-k-preserved-then-each-row-eq0 c = walk_new _ _ _ _ _ c.loop-k.invariant c.in-Some.k (sym c.next_named.ensures ∙ c.in-Some.is) c.if-row-lt9.true c.if-each-row-eq0.true

pub loop-k-smaller : goal.loop-k-smaller
loop-k-smaller c = lies_less (next_at _ _ _ c.in-Some.k (sym c.next_named.ensures ∙ c.in-Some.is)).lies

pub loop-k-preserved : goal.loop-k-preserved
loop-k-preserved c = let e = sym c.next_named.ensures ∙ c.in-Some.is in elim c.else-row-lt9.branch [
  | else-row-lt9-via-then-row-lt9+else-each-row-eq0 w ↦ let z = w.if-each-row-eq0.false in walk_found _ _ _ _ _ c.loop-k.invariant c.in-Some.k e (omega (arith, z))
  | else-row-lt9-via-else-row-lt9 w ↦ let z = w.if-row-lt9.false in walk_past _ _ _ _ _ c.loop-k.invariant c.in-Some.k e (omega arith)
]
