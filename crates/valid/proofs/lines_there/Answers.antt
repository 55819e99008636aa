use Prim.Native.Nat.{ℕ, ◌+◌}
use mathlib.Core.Path.{◌≡◌, sym, ap, ◌∙◌}
use mathlib.Core.Bool.{cond}
use lib.Dec.{eqb}
use native.Mathlib.Omega.{arith}
use lib.ListN.{get_or, drop}
use borrow.Author.Tests.{not-true, not-false}
use Rattle.record.specs.Slot.{record_at}
use Rattle.valid.specs.Valid.{executed_in, executed}
use Rattle.valid.proofs.Laws.{executed_sum}
use Rattle.valid.proofs.Lines.{left_ok, left_all, there_not, there_by, there_stop, over_stop, there_go, there_cents, there_done, lines_told, told_by}
use Rattle.valid.proofs.lines_there.Goals as goal

pub loop-k-init : goal.loop-k-init
unfolding record_at
loop-k-init c = let e = c.read8-rest.ensures in
    (omega arith, omega arith, ap (left_ok (record_at c.args.t.now c.args.at) c.args.lines 0) (sym e), omega (arith, c.requires.4))

pub returns-then-not-state_there : goal.returns-then-not-state_there
returns-then-not-state_there c = lines_told (record_at c.args.t.now c.args.at) c.args.lines (c.loop-k.invariant.2 ∙ there_stop c.args.t.now c.args.at c.args.lines c.loop-k.k c.loop-k.rest c.read8-amount.result (omega arith) (omega arith) c.requires.2 c.read8-amount.ensures (there_not _ _ _ (sym c.state_there.ensures ∙ not-true _ c.if-not-state_there.true-raw)))

pub returns-then-rest-amount : goal.returns-then-rest-amount
returns-then-rest-amount c = lines_told (record_at c.args.t.now c.args.at) c.args.lines (c.loop-k.invariant.2 ∙ over_stop c.args.t.now c.args.at c.args.lines c.loop-k.k c.loop-k.rest c.read8-amount.result (omega arith) (omega arith) c.requires.2 c.read8-amount.ensures c.if-rest-amount.true)

pub loop-k-preserved : goal.loop-k-preserved
loop-k-preserved c = let e = there_cents c.args.t.now c.args.at c.args.lines c.loop-k.k c.loop-k.rest c.read8-amount.result (omega arith) (omega arith) c.requires.2 c.read8-amount.ensures in
    let x : c.line_cents-cents.result ≡ cond (eqb (get_or c.args.t.now (c.args.at + 24 + c.loop-k.k) 0) 2) c.read8-amount.result 0 = c.line_cents-cents.ensures.0 in
    (omega arith, omega arith, c.loop-k.invariant.2 ∙ there_go c.args.t.now c.args.at c.args.lines c.loop-k.k c.loop-k.rest c.read8-amount.result (omega arith) (omega arith) c.requires.2 c.read8-amount.ensures (there_by _ _ _ (omega arith) (sym c.state_there.ensures ∙ not-false _ c.if-not-state_there.false-raw)) c.if-rest-amount.false, omega arith)

pub returns : goal.returns
returns c = let r = record_at c.args.t.now c.args.at in
    let q = c.requires.3 in
    let z = executed_sum (drop c.args.lines r.states) (drop c.args.lines r.amounts) in
    let k : c.loop-k.k ≡ c.args.lines = omega arith in
    let w = ap (λ (j : ℕ). executed_in (drop j r.states) (drop j r.amounts)) k in
    let v : c.loop-k.cents ≡ executed r = omega arith in
    let b = sym (left_all r c.args.lines) ∙ c.loop-k.invariant.2 ∙ there_done r c.args.lines c.loop-k.k c.loop-k.rest (omega arith) (omega arith) q in
    c.then_some.ensures ∙ told_by c.loop-k.rest c.loop-k.cents (sym b) v
