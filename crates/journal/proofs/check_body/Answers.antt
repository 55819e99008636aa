use mathlib.Core.Path.{sym, ◌∙◌}
use native.Mathlib.Omega.{arith}
use Rattle.slots.specs.Slots.{records_at}
use Rattle.journal.proofs.Laws.{whole}
use Rattle.journal.proofs.check_body.Goals as goal

pub returns : goal.returns
returns c = c.one_by_one.ensures ∙ sym (whole (records_at c.args.t.now c.args.base c.args.n) c.args.s.now c.if-s-ne0.false (omega arith))
