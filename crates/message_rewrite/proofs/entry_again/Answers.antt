use Rattle.message_rewrite.proofs.Laws.{entry_room, entry_wrote}
use Rattle.message_rewrite.proofs.entry_again.Goals as goal

pub said_at-requires : goal.said_at-requires
said_at-requires c = c.requires.0

pub text_at-flow-requires : goal.text_at-flow-requires
text_at-flow-requires c = c.requires.1.flow

pub text_at-time-requires : goal.text_at-time-requires
text_at-time-requires c = c.requires.1.time

pub entry-requires : goal.entry-requires
entry-requires c = entry_room c.args.s.now c.args.v.now c.args.at c.said_at.ensures c.text_at-flow.ensures c.text_at-time.ensures c.requires.2

pub returns : goal.returns
returns c = entry_wrote c.args.s.now c.args.v.now c.args.at c.said_at.ensures c.text_at-flow.ensures c.text_at-time.ensures c.entry.ensures
