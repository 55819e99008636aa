use lib.ListN.{length}
use Rattle.keeping.proofs.Laws.{rest_start, rest_yes, rest_no, rest_end}
use native.Mathlib.Omega.{arith}
use mathlib.Core.Path.{ap, ◌∙◌}
use Rattle.keeping.proofs.count_blanked.Goals as goal
use Rattle.keeping.proofs.count_blanked.Goals.{then-is_blanked, else-is_blanked}

pub loop-i-init : goal.loop-i-init
loop-i-init c = (omega arith, omega (arith, ap length (rest_start c.args.t.now c.args.base c.args.flags.now)))

pub loop-i-preserved : goal.loop-i-preserved
loop-i-preserved c = let l = c.loop-i in
    elim c.if-is_blanked.branch [
      | then-is_blanked w ↦
          let k = rest_yes c.args.t.now c.args.base c.args.flags.now l.i (omega arith) c.is_blanked.ensures w.if-is_blanked.true in
          (omega (arith, w.count-is), l.invariant.1 ∙ omega (arith, w.count-is, ap length k))
      | else-is_blanked w ↦
          let k = rest_no c.args.t.now c.args.base c.args.flags.now l.i (omega arith) c.is_blanked.ensures w.if-is_blanked.false in
          (omega (arith, w.count-is), l.invariant.1 ∙ omega (arith, w.count-is, ap length k))
    ]

pub returns : goal.returns
returns c = let l = c.loop-i in
    let k = rest_end c.args.t.now c.args.base c.args.flags.now l.i (omega arith) in
    (omega (arith, l.invariant.1, ap length k), omega arith)
