use Rattle.std.proofs.Common.{ap, ◌∙◌, sym, arith}
use Rattle.lines.specs.declared.Tally.{Tally}
use Rattle.lines.proofs.Laws.{code_from, starts, steps, ends}
use Rattle.lines.proofs.line_check.Goals as goal

pub loop-i-init : goal.loop-i-init
loop-i-init c = record {
  within = omega arith;
  so = ap (λ (t : Tally). code_from t 0 c.args.lines.now) c.start-t.ensures ∙ starts c.args.lines.now c.args.total;
}

pub loop-i-preserved : goal.loop-i-preserved
loop-i-preserved c = record {
  within = omega arith;
  so = rw c.step-t.ensures (steps c.args.lines.now c.loop-i.t c.loop-i.i c.loop-i-test.true ∙ c.loop-i.invariant.so);
}

pub returns : goal.returns
returns c =
    c.answer.ensures ∙ sym (ends c.args.lines.now c.loop-i.t c.loop-i.i (omega arith)) ∙ c.loop-i.invariant.so
