use mathlib.Core.Path.{◌≡◌, refl}
use native.Mathlib.Omega.{arith}
use lib.ListN.{length}
use borrow.Author.Rules.{rules}
use Rattle.room_notices.proofs.Laws.{amount_low, lines_more, lines_end}
use Rattle.room_notices.proofs.record_cents.Goals as goal

pub loop-k-init : goal.loop-k-init
loop-k-init c = (omega arith, omega arith, omega arith)

pub overflow_add-cents : goal.overflow_add-cents
overflow_add-cents c = let z : length c.args.r.amounts ≡ 8 = search (rules, c.well_formed.0) in
    let y : length c.args.r.states ≡ 8 = search (rules, c.well_formed.0) in
    let l = amount_low c.args.r.amounts c.loop-k.k c.requires (omega (arith, z, c.loop-k-test.true)) in
    omega (arith, l, c.line_cents-cents.ensures.1, c.loop-k.invariant.1)

pub loop-k-preserved : goal.loop-k-preserved
loop-k-preserved c = let z : length c.args.r.amounts ≡ 8 = search (rules, c.well_formed.0) in
    let y : length c.args.r.states ≡ 8 = search (rules, c.well_formed.0) in
    let l = amount_low c.args.r.amounts c.loop-k.k c.requires (omega (arith, z, c.loop-k-test.true)) in
    (omega (arith, c.loop-k-test.true), omega (arith, l, c.line_cents-cents.ensures.1, c.loop-k.invariant.1), lines_more c.args.r.states c.args.r.amounts c.loop-k.k c.loop-k.cents (omega (arith, y, c.loop-k-test.true)) (omega (arith, z, c.loop-k-test.true)) c.loop-k.invariant.2 refl c.line_cents-cents.ensures.0)

pub returns : goal.returns
returns c = let z : length c.args.r.amounts ≡ 8 = search (rules, c.well_formed.0) in
    let y : length c.args.r.states ≡ 8 = search (rules, c.well_formed.0) in
    let e = lines_end c.args.r.states c.args.r.amounts c.loop-k.k (omega (arith, y, c.loop-k-test.false)) in
    (omega (arith, e, c.loop-k.invariant.2), omega (arith, c.loop-k.invariant))
