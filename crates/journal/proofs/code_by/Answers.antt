use mathlib.Core.Path.{sym, ◌∙◌}
use native.Mathlib.Omega.{arith}
use Rattle.journal.proofs.Lines.{by_state, by_cents, by_right}
use Rattle.journal.proofs.code_by.Goals as goal

pub returns-then-t-at-ne-EXECUTED : goal.returns-then-t-at-ne-EXECUTED
returns-then-t-at-ne-EXECUTED c = by_state c.args.t.now c.args.at c.args.m (omega arith) (omega arith) c.if-t-at-ne-EXECUTED.true

pub returns-then-read8-m : goal.returns-then-read8-m
returns-then-read8-m c = by_cents c.args.t.now c.args.at c.args.m (omega arith) (omega arith) c.if-t-at-ne-EXECUTED.false (λ e. c.if-read8-m.true (c.read8.ensures ∙ e))

pub returns-else-read8-m : goal.returns-else-read8-m
returns-else-read8-m c = by_right c.args.t.now c.args.at c.args.m (omega arith) (omega arith) c.if-t-at-ne-EXECUTED.false (sym c.read8.ensures ∙ c.if-read8-m.false)
