use native.Mathlib.Omega.{arith}
use Rattle.packing.proofs.Laws.{together}
use Rattle.packing.proofs.pack.Goals as goal

pub returns : goal.returns
returns c = let m = c.move_up-n in
    let a = c.args in
    (m.ensures.0, together a.t.now _ _ a.base a.flags.now m.result (omega arith) m.ensures.0 m.ensures.2 c.blank_slots.ensures)
