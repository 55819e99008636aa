use Rattle.std.specs.Prelude.{Some}
use mathlib.Core.Path.{◌≡◌, sym, ◌∙◌}
use native.Mathlib.Omega.{arith}
use Rattle.rows.specs.Kept.{kept_from, next_of}
use Rattle.orders.proofs.Laws.{lining_start, lining_end, lining_full, lining_shaped, lining_step}
use Rattle.orders.proofs.lines_from.Goals as goal

pub loop-count-init : goal.loop-count-init
loop-count-init c = rw c.no_line-each.ensures (lining_start c.args.parent c.args.s.now c.args.from c.requires.1)

pub next_named-requires : goal.next_named-requires
next_named-requires c = (c.loop-count.invariant.within, c.requires.2)

pub returns-in_default : goal.returns-in_default
returns-in_default c = let s = c.args.s.now in
    let p = c.args.parent in
    let from = c.args.from in
    let each = c.loop-count.each in
    let count = c.loop-count.count in
    let i = c.loop-count.i in
    lining_end p s from each count i c.loop-count.invariant (sym c.next_named.ensures ∙ c.in_default.is)

pub line_of-requires : goal.line_of-requires
line_of-requires c = let s = c.args.s.now in
    let p = c.args.parent in
    let from = c.args.from in
    let each = c.loop-count.each in
    let count = c.loop-count.count in
    let i = c.loop-count.i in
    let k = c.in-Some.k in
    let e : next_of (kept_from p s i) ≡ Some k = sym c.next_named.ensures ∙ c.in-Some.is in
    (lining_shaped p s from each count i c.loop-count.invariant k e c.requires.0, c.requires.2)

pub bounds-each-count : goal.bounds-each-count
bounds-each-count c = let z = c.loop-count.invariant.size in
    omega arith

pub loop-count-preserved : goal.loop-count-preserved
loop-count-preserved c = let s = c.args.s.now in
    let p = c.args.parent in
    let from = c.args.from in
    let each = c.loop-count.each in
    let count = c.loop-count.count in
    let i = c.loop-count.i in
    let k = c.in-Some.k in
    let e : next_of (kept_from p s i) ≡ Some k = sym c.next_named.ensures ∙ c.in-Some.is in
    lining_step p s from each count i c.loop-count.invariant k e c.line_of.result c.line_of.ensures c.loop-count-test.true

pub returns : goal.returns
returns c = let s = c.args.s.now in
    let p = c.args.parent in
    let from = c.args.from in
    let each = c.loop-count.each in
    let count = c.loop-count.count in
    let i = c.loop-count.i in
    let z : count ≡ 8 = omega (arith, c.loop-count.invariant.size, c.loop-count.auto.count-end) in
    rw z at (lining_full p s from each count i c.loop-count.invariant c.loop-count-test.false)
