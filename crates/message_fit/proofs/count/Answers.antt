use Rattle.message_fit.proofs.count.Goals as goal

pub returns : goal.returns
returns c = c.count_of.ensures.0
