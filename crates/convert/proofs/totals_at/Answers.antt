use Rattle.convert.proofs.Laws.{totals_told}
use Rattle.convert.proofs.totals_at.Goals as goal

pub returns : goal.returns
returns c = totals_told c.args.o.now c.args.at c.place_of-base.ensures.0 c.slots_of-n.ensures.0 c.requires.3 c.judge.ensures c.unwrap_or-paid.ensures
