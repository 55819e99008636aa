use Rattle.message_rewrite.proofs.Laws.{given_is}
use Rattle.message_rewrite.proofs.given_at.Goals as goal

pub returns : goal.returns
returns c = given_is c.args.v.now c.span_at.ensures c.span_at-2.ensures c.span_at-3.ensures c.span_at-4.ensures c.span_at-5.ensures c.span_at-6.ensures c.span_at-7.ensures c.span_at-8.ensures
