use Rattle.std.proofs.Common.{◌≡◌, ◌∙◌, ap, arith}
use Rattle.packing.proofs.Laws.{room}
use Rattle.packing.specs.Packing.{packed}
use Rattle.keeping.specs.Keeping.{keeps_at}
use Rattle.mending.proofs.repair_in.Goals as goal

pub returns : goal.returns
returns c = let a = c.args in
    let q = room a.n (omega arith) in
    let e : c.flags_of.new.flags ≡ keeps_at a.closed a.t.now a.base a.n = c.flags_of.ensures ∙ ap (keeps_at a.closed a.t.now a.base) q in
    c.pack.ensures.1 ∙ ap (packed a.t.now a.base) e
