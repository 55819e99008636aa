use mathlib.Core.Path.{sym, ◌∙◌}
use native.Mathlib.Omega.{arith}
use borrow.Author.Tests.{not-true, not-false}
use Rattle.structure.specs.Walk.{paired}
use Rattle.structure.proofs.Walk.{filled_back, filled_end, filled_not, filled_more}
use Rattle.structure.proofs.filled_in.Goals as goal

pub returns-then-to-row : goal.returns-then-to-row
returns-then-to-row c = sym (filled_back (paired c.args.pairs.now) c.args.row c.args.n c.args.to c.if-to-row.true)

pub returns-then-not-row_allows : goal.returns-then-not-row_allows
returns-then-not-row_allows c = sym (c.loop-i.invariant.1 ∙ filled_not (paired c.args.pairs.now) c.loop-i.i c.loop-i.m c.args.to c.loop-i-test.true (sym c.row_allows.ensures ∙ not-true _ c.if-not-row_allows.true-raw))

pub loop-i-preserved : goal.loop-i-preserved
loop-i-preserved c = (omega (arith, c.loop-i-test.true), c.loop-i.invariant.1 ∙ filled_more (paired c.args.pairs.now) c.loop-i.i c.loop-i.m c.args.to c.loop-i-test.true (sym c.row_allows.ensures ∙ not-false _ c.if-not-row_allows.false-raw))

pub returns : goal.returns
returns c = sym (c.loop-i.invariant.1 ∙ filled_end (paired c.args.pairs.now) c.loop-i.i c.loop-i.m c.args.to c.loop-i.invariant.0 c.loop-i-test.false)
