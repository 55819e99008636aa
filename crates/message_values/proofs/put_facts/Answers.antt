use Rattle.message_values.proofs.Laws.{facts_put}
use Rattle.message_values.proofs.put_facts.Goals as goal

pub returns : goal.returns
returns c = facts_put c.args.values.now c.args.at c.args.f c.requires c.copy_in.ensures c.write2.ensures c.write2-2.ensures c.write4.ensures c.write2-3.ensures c.copy_in-2.ensures c.write8.ensures
