use Prim.Native.Nat.{◌+◌, ◌-◌, ◌*◌}
use native.Mathlib.Omega.{arith}
use mathlib.Core.Path.{◌≡◌, ◌∙◌, sym}
use Rattle.slots.proofs.Laws.{used_end, used_none}
use Rattle.slots.proofs.Filter.{marking_start, marking_more, marking_end}
use Rattle.slots.proofs.mark_keys.Goals as goal

pub loop-i-init : goal.loop-i-init
loop-i-init c = marking_start c.args.t.now c.args.base c.args.n c.requires.1

pub shape_of-marks-then-t-at-eq0 : goal.shape_of-marks-then-t-at-eq0
shape_of-marks-then-t-at-eq0 c = c.loop-i.invariant.marked.size ∙ sym c.requires.1

pub returns-then-t-at-eq0 : goal.returns-then-t-at-eq0
returns-then-t-at-eq0 c = marking_end c.args.t.now c.args.base c.args.n c.loop-i.invariant (used_end c.args.t.now (c.args.base + 96 * c.loop-i.i) (c.args.n - c.loop-i.i) c.if-t-at-eq0.true)

pub bounds-marks-mark_of : goal.bounds-marks-mark_of
bounds-marks-mark_of c = omega (arith, c.loop-i.invariant.marked.size)

pub loop-i-preserved : goal.loop-i-preserved
loop-i-preserved c = marking_more c.args.t.now c.args.base c.args.n c.loop-i.invariant c.mark_of.result (omega arith) c.if-t-at-eq0.false c.key_at.ensures c.mark_of.ensures.0 c.mark_of.ensures.1

pub shape_of-marks : goal.shape_of-marks
shape_of-marks c = c.loop-i.invariant.marked.size ∙ sym c.requires.1

pub returns : goal.returns
returns c = let q : c.args.n ≡ c.loop-i.i = omega arith in
    let e = marking_end c.args.t.now c.args.base c.args.n c.loop-i.invariant (used_none c.args.t.now (c.args.base + 96 * c.loop-i.i) (c.args.n - c.loop-i.i) (omega arith)) in
    (q ∙ e.0, e.1)
