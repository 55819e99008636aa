use mathlib.Core.Path.{refl}
use native.Mathlib.Omega.{arith}
use Rattle.message_rewrite.proofs.Call.{read_refused, read_done, ready_done}
use Rattle.message_rewrite.proofs.rewrite_in.Goals as goal

pub returns-then-r-ne0 : goal.returns-then-r-ne0
returns-then-r-ne0 c = read_refused c.args.ed c.args.s.now c.args.b.now c.read_in-r.ensures refl c.if-r-ne0.true c.no_message.ensures

pub counted-requires : goal.counted-requires
counted-requires c = let d = (read_done c.args.ed c.args.s.now c.read_in-r.ensures (omega arith) c.if-r-ne0.false) in
    (d.there, d.all, d.room)

pub returns : goal.returns
returns c = ready_done c.args.ed c.args.s.now c.read_in-r.new.values c.args.b.now c.counted.new.b c.read_in-r.result.entries c.counted.result (read_done c.args.ed c.args.s.now c.read_in-r.ensures (omega arith) c.if-r-ne0.false) c.counted.ensures
