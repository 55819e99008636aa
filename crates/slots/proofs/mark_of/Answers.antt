use mathlib.Core.Path.{refl}
use native.Mathlib.Omega.{arith}
use Rattle.slots.specs.Inner.{mark_of}
use Rattle.slots.proofs.mark_of.Goals as goal

pub returns : goal.returns
unfolding mark_of
returns c = (refl, omega arith)
