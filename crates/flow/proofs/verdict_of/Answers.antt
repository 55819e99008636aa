use Rattle.flow.proofs.Laws.{flow_by}
use Rattle.flow.proofs.verdict_of.Goals as goal

pub returns : goal.returns
returns c = (flow_by c.args.e c.args.s.now c.root_of.ensures c.id_allowed.ensures c.verdict_by.ensures.0, c.verdict_by.ensures.1)
