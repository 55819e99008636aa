use Rattle.trail.proofs.Laws.{found_there, found_out}
use Rattle.trail.proofs.found_at.Goals as goal

pub returns-then-trail-n : goal.returns-then-trail-n
returns-then-trail-n c = found_out _ _ c.if-trail-n.true

pub returns : goal.returns
returns c = found_there _ _ c.if-trail-n.false
