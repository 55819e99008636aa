use Rattle.message_rewrite.proofs.Laws.{span_is}
use Rattle.message_rewrite.proofs.span_at.Goals as goal

pub returns : goal.returns
returns c = span_is c.args.v.now c.args.at c.read4-from.ensures.0 c.read4-length.ensures.0
