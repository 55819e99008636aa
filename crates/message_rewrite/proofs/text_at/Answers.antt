use Rattle.message_rewrite.proofs.Laws.{pair_there, text_shown_lem}
use Rattle.message_rewrite.proofs.text_at.Goals as goal

pub part_at-requires : goal.part_at-requires
part_at-requires c = pair_there c.span_at.ensures c.requires

pub returns : goal.returns
returns c = text_shown_lem c.args.s.now c.args.v.now c.args.at c.span_at.ensures c.part_at.ensures
