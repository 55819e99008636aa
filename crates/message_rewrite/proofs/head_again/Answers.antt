use Rattle.message_rewrite.proofs.Laws.{given_there, head_room, head_wrote}
use Rattle.message_rewrite.proofs.head_again.Goals as goal

pub beginning-requires : goal.beginning-requires
beginning-requires c = (given_there c.args.s.now c.args.v.now c.given_at.ensures c.requires.0, head_room c.args.s.now c.args.v.now c.text_at-abi.ensures c.text_at-body.ensures c.given_at.ensures c.requires.1)

pub returns : goal.returns
returns c = head_wrote c.args.s.now c.args.v.now c.text_at-abi.ensures c.text_at-body.ensures c.given_at.ensures c.beginning.ensures
