use native.Mathlib.Omega.{arith}
use lib.Seq.{lt-length-set}
use Rattle.trail.proofs.Laws.{trail_keep}
use Rattle.trail.proofs.keep.Goals as goal

pub bounds-trail-n-2 : goal.bounds-trail-n-2
bounds-trail-n-2 c = lt-length-set c.args.trail.now _ _ (omega (arith, c.if-trail-n.false))

pub returns : goal.returns
returns c = trail_keep _ _ _ c.args.e (omega (arith, c.if-e-gt65535.false)) (omega (arith, c.if-e-gt65535-2.false)) c.requires.2 c.requires.1 c.requires.0 (omega (arith, c.if-trail-n.false))
