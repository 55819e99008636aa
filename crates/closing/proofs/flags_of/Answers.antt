use lib.ListN.{length}
use Rattle.closing.proofs.Laws.{flags_none, flags_more, flags_all}
use native.Mathlib.Omega.{arith}
use mathlib.Core.Path.{sym}
use Rattle.closing.proofs.flags_of.Goals as goal

pub loop-i-init : goal.loop-i-init
loop-i-init c = let a = c.args in flags_none a.t.now a.base a.year a.flags.now

pub loop-i-preserved : goal.loop-i-preserved
loop-i-preserved c = let a = c.args in
    let l = c.loop-i in
    flags_more a.t.now a.base a.year l.flags l.i _ (omega arith) l.invariant c.flag_of.ensures

pub returns : goal.returns
returns c = let a = c.args in
    let l = c.loop-i in
    flags_all a.t.now a.base a.year l.flags l.i (length a.flags.now) (sym l.auto.flags) (omega arith) (omega arith) l.invariant
