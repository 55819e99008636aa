use Rattle.std.specs.Prelude.{Ok}
use mathlib.Core.Path.{refl}
use Rattle.order.specs.Ordinativo.{ordinativo}
use Rattle.slots.specs.Slots.{records_at}
use Rattle.rules.specs.Inner.{names_code}
use Rattle.service.specs.Service.{order_stored}
use Rattle.service.proofs.Laws.{ruled_refused, ruled_stored, refused_is, absent_is, absent_put}
use Rattle.service.proofs.serve_absent.Goals as goal

pub returns-then-code-ne0 : goal.returns-then-code-ne0
returns-then-code-ne0 c = let a = c.args in
    let o = ordinativo a.o in
    ruled_refused (order_stored a.t.now a.base a.n a.year o) (Ok (a.c, a.used)) (absent_is a.t.now a.base a.n o a.c a.used c.names_code-named.ensures c.absent_code-code.ensures) c.if-code-ne0.true
    (refused_is a.t.now a.base a.n a.year o c.absent_code-code.result)

pub returns : goal.returns
returns c = let a = c.args in
    let o = ordinativo a.o in
    let e = absent_is a.t.now a.base a.n o a.c a.used c.names_code-named.ensures c.absent_code-code.ensures in
    ruled_stored (order_stored a.t.now a.base a.n a.year o) (Ok (a.c, a.used)) e refl c.if-code-ne0.false
    (absent_put a.t.now a.base a.year o a.c (names_code a.c o (records_at a.t.now a.base a.n)) a.used a.n e c.if-code-ne0.false c.mark_names.ensures c.new_record.ensures c.put_record.ensures)
