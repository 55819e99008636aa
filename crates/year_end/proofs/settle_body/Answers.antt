use mathlib.Core.Path.{sym, ◌∙◌}
use Rattle.slots.specs.Slots.{records_at}
use Rattle.year_end.proofs.Laws.{sums_broken, sums_right, settled_with}
use Rattle.year_end.proofs.settle_body.Goals as goal

pub returns-in_default : goal.returns-in_default
returns-in_default c = absurd (sums_broken c.args.t.now c.args.base c.args.n c.requires.valid (sym c.judge.ensures ∙ c.in_default.is))

pub returns-in-Some : goal.returns-in-Some
returns-in-Some c = settled_with c.args.t.now _ c.args.e (records_at c.args.t.now c.args.base c.args.n) (sums_right c.args.t.now c.args.base c.args.n c.requires.valid (sym c.judge.ensures ∙ c.in-Some.is)) c.settle.ensures
