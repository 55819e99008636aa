use Rattle.order.specs.Ordinativo.{ordinativo}
use Rattle.service.proofs.Laws.{outcome_put}
use Rattle.service.proofs.put_outcome.Goals as goal

pub returns : goal.returns
returns c = outcome_put c.args.out.now _ _ _ c.args.at (ordinativo c.args.o) c.args.code c.requires c.operation_number.ensures c.count_of-n.ensures.0 c.copy_in.ensures c.write4.ensures c.write8.ensures
