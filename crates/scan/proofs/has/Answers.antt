use mathlib.Core.Path.{◌∙◌}
use Rattle.scan.proofs.Laws.{has_is}
use Rattle.scan.proofs.has.Goals as goal

pub returns : goal.returns
returns c = c.starts_with.ensures.value ∙ has_is c.args.x.now c.args.s.now c.args.at
