use native.Mathlib.Omega.{arith}
use borrow.Author.Tests.{not-true, not-false}
use Rattle.message_fit.proofs.Holding.{lays_past, lays_wrong, lays_right}
use Rattle.message_fit.proofs.lay.Goals as goal

pub returns-then-not-at : goal.returns-then-not-at
returns-then-not-at c = lays_past c.args.texts.now c.args.t.now (not-true _ c.if-not-at.true)

pub returns-then-not-ok : goal.returns-then-not-ok
returns-then-not-ok c = lays_wrong c.args.texts.now c.args.t.now (not-true _ c.if-not-ok.true-raw)

pub ink-to-requires : goal.ink-to-requires
ink-to-requires c = record { fits = let l = c.requires.1 (not-false _ c.if-not-ok.false-raw) in omega arith }

pub returns : goal.returns
returns c = lays_right c.args.texts.now c.args.t.now (not-false _ c.if-not-at.false) (not-false _ c.if-not-ok.false-raw) (c.requires.1 (not-false _ c.if-not-ok.false-raw)) c.ink-to.ensures
