use mathlib.Core.Path.{refl}
use Rattle.message_values.proofs.Laws.{span_put}
use Rattle.message_values.proofs.put_span.Goals as goal

pub returns : goal.returns
returns c = span_put c.args.values.now c.args.at c.args.w c.requires.0 refl refl c.write4.ensures c.write4-2.ensures
