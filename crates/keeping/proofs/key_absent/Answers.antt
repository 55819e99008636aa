use Rattle.std.proofs.Common.{arith, sym, ◌∙◌}
use Rattle.keeping.proofs.Laws.{none_start, none_skip, none_hit, none_pass, none_end}
use Rattle.keeping.proofs.key_absent.Goals as goal
use Rattle.keeping.proofs.key_absent.Goals.{else-flags-i-eq1-via-then-flags-i-eq1+else-hit_at, else-flags-i-eq1-via-else-flags-i-eq1}

pub loop-i-init : goal.loop-i-init
loop-i-init c = none_start c.args.t.now c.args.base c.args.flags.now c.args.n c.args.key

pub returns-then-hit_at : goal.returns-then-hit_at
returns-then-hit_at c = none_hit c.args.t.now c.args.base c.args.flags.now c.args.n c.args.key c.loop-i.i (omega arith) (omega arith) c.if-flags-i-eq1.true c.hit_at.ensures c.if-hit_at.true ∙ sym c.loop-i.invariant

pub loop-i-preserved : goal.loop-i-preserved
loop-i-preserved c = c.loop-i.invariant ∙ elim c.else-flags-i-eq1.branch [
  | else-flags-i-eq1-via-then-flags-i-eq1+else-hit_at w ↦ none_pass c.args.t.now c.args.base c.args.flags.now c.args.n c.args.key c.loop-i.i (omega arith) (omega arith) w.if-flags-i-eq1.true w.hit_at.ensures w.if-hit_at.false
  | else-flags-i-eq1-via-else-flags-i-eq1 w ↦ none_skip c.args.t.now c.args.base c.args.flags.now c.args.n c.args.key c.loop-i.i (omega arith) (omega arith) w.if-flags-i-eq1.false
]

pub returns : goal.returns
returns c = none_end c.args.t.now c.args.base c.args.flags.now c.args.n c.args.key c.loop-i.i (omega arith) (omega arith) ∙ sym c.loop-i.invariant
