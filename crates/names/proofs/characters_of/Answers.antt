use native.Mathlib.Omega.{arith}
use Rattle.names.proofs.Laws.{characters_end}
use Rattle.names.proofs.characters_of.Goals as goal

pub loop-i-init : goal.loop-i-init
loop-i-init c = (omega arith, omega arith, omega arith)

pub overflow_add-n : goal.overflow_add-n
overflow_add-n c = let p = c.past_one-i.ensures in omega arith

pub loop-i-smaller : goal.loop-i-smaller
loop-i-smaller c = let p = c.past_one-i.ensures in omega arith

pub loop-i-preserved : goal.loop-i-preserved
loop-i-preserved c = let p = c.past_one-i.ensures in (omega arith, omega arith, omega arith)

pub returns : goal.returns
returns c = let z = characters_end c.args.t.now c.loop-i.i c.loop-i-test.false in omega arith
