use Rattle.markup.proofs.Noted.{noted_none}
use Rattle.flow.proofs.verdict_alone.Goals as goal

pub verdict_of-requires : goal.verdict_of-requires
verdict_of-requires c = noted_none c.args.s.now 1
