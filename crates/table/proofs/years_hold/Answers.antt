use mathlib.Core.Path.{sym, ◌∙◌}
use native.Mathlib.Omega.{arith}
use borrow.Author.Tests.{eq-eqb, not-true, not-false}
use Rattle.table.proofs.Laws.{years_bare, years_are, years_none}
use Rattle.table.proofs.years_hold.Goals as goal

pub returns-then-not-l : goal.returns-then-not-l
returns-then-not-l c = sym (years_bare c.args.l c.args.t.now c.args.at _ (not-true _ c.if-not-l.true))

pub closed_of-closed-requires : goal.closed_of-closed-requires
closed_of-closed-requires c = let r = c.requires.0.year (not-false _ c.if-not-l.false) in
    omega arith

pub returns-then-closed-eq0 : goal.returns-then-closed-eq0
returns-then-closed-eq0 c = eq-eqb _ _ c.if-closed-eq0.true ∙ sym (years_none c.args.l c.args.t.now c.args.at c.args.base c.args.n (not-false _ c.if-not-l.false) c.closed_of-closed.ensures.0 c.if-closed-eq0.true c.requires.3)

pub returns-else-closed-eq0 : goal.returns-else-closed-eq0
returns-else-closed-eq0 c = c.all_later.ensures ∙ sym (years_are c.args.l c.args.t.now c.args.at c.args.base c.args.n (not-false _ c.if-not-l.false) c.closed_of-closed.ensures.0)
