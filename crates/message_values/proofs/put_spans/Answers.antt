use mathlib.Core.Path.{◌≡◌}
use Prim.Native.Nat.{◌-◌}
use native.Mathlib.Omega.{arith}
use lib.ListN.{length}
use borrow.Author.Rules.{rules}
use Rattle.message_values.proofs.Laws.{texts_start, texts_step, texts_end}
use Rattle.message_values.proofs.put_spans.Goals as goal

pub loop-i-init : goal.loop-i-init
loop-i-init c = let l : length c.args.each ≡ 9 = search rules in
    texts_start c.args.values.now c.args.each l

pub put_span-requires : goal.put_span-requires
put_span-requires c = let z = c.loop-i.invariant.size in
    let h = c.requires.0 in
    (omega arith, c.requires.1 c.loop-i.i c.loop-i-test.true)

pub loop-i-preserved : goal.loop-i-preserved
loop-i-preserved c = let before = c.args.values.now in
    let each = c.args.each in
    let l : length each ≡ 9 = search rules in
    let t = c.loop-i.invariant in
    let i = c.loop-i.i in
    texts_step before each l _ i t c.loop-i-test.true c.requires.0 c.put_span.ensures

pub shape_of-values : goal.shape_of-values
shape_of-values c = c.loop-i.invariant.size

pub returns : goal.returns
returns c = let before = c.args.values.now in
    let each = c.args.each in
    let l : length each ≡ 9 = search rules in
    let t = c.loop-i.invariant in
    let i = c.loop-i.i in
    texts_end before each l _ i t c.loop-i-test.false
