use Rattle.message_values.proofs.Laws.{parts_put}
use Rattle.message_values.proofs.put_parts.Goals as goal

pub returns : goal.returns
returns c = parts_put c.args.values.now c.args.at c.args.f c.args.flow c.args.time c.requires.0 c.put_facts.ensures c.put_span.ensures c.put_span-2.ensures c.write8.ensures
