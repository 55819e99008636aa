use Rattle.markup.proofs.Noted.{noted_none}
use Rattle.markup.proofs.markup_of.Goals as goal

pub markup_noted-requires : goal.markup_noted-requires
markup_noted-requires c = noted_none c.args.s.now 1
