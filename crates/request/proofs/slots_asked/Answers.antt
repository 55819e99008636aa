use Rattle.std.proofs.Common.{ℕ, ◌+◌, ◌-◌, ◌*◌, ap, arith}
use Rattle.entries.specs.Entry.{request_size, slots_from}
use Rattle.entries.proofs.Laws.{at_next, slots_more, slots_done}
use Rattle.request.specs.Request.{first_body}
use Rattle.request.proofs.slots_asked.Goals as goal

pub loop-i-preserved : goal.loop-i-preserved
loop-i-preserved c = let a = c.args in
    let i = c.loop-i.i in
    let at = first_body + request_size * i in
    let m = a.n - (i + 1) in
    let s = c.slots_of-sum.ensures in
    let e = slots_more request_size a.q.now at (a.n - i) m (omega arith) in
    let q = ap (λ (p : ℕ). slots_from request_size a.q.now p m) (at_next request_size first_body a.n i) in
    (omega arith, omega arith)

pub returns : goal.returns
returns c = let a = c.args in
    let i = c.loop-i.i in
    let z = slots_done request_size a.q.now (first_body + request_size * i) (a.n - i) (omega arith) in
    (omega arith, omega arith)
