use native.Mathlib.Omega.{arith}
use lib.Seq.{paste-zero}
use Rattle.words.proofs.Laws.{turn, whole}
use Rattle.words.proofs.copy_in.Goals as goal

pub loop-i-init : goal.loop-i-init
loop-i-init c = paste-zero c.args.s.now c.args.at c.args.v.now

pub loop-i-preserved : goal.loop-i-preserved
loop-i-preserved c = let l = c.loop-i in
    let a = c.args in
    turn a.s.now l.s a.at a.v.now l.i (omega arith) (omega arith) l.invariant

pub returns : goal.returns
returns c = let l = c.loop-i in
    let a = c.args in
    whole a.s.now l.s a.at a.v.now l.i (omega arith) (omega arith) l.invariant
