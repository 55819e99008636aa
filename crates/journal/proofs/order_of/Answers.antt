use mathlib.Core.Path.{ap, ◌∙◌}
use Rattle.slots.specs.Slots.{records_at, find_in}
use Rattle.journal.proofs.order_of.Goals as goal

pub returns : goal.returns
returns c = c.locate.ensures ∙ ap (find_in (records_at c.args.t.now c.args.base c.args.n) 0) c.key_of-key.ensures
