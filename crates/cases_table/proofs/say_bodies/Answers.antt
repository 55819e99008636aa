use native.Mathlib.Omega.{arith}
use Rattle.table.specs.Table.{table2}
use Rattle.table.proofs.Laws.{head, table}
use Rattle.cases_table.proofs.say_bodies.Goals as goal

pub body_count-n-requires : goal.body_count-n-requires
body_count-n-requires g c = let t = c.args.t.now in
    let h = head table2 t (table table2 t c.requires).head_ok in
    h.long

pub overflow_sub-n : goal.overflow_sub-n
overflow_sub-n g c = let t = c.args.t.now in
    let h = head table2 t (table table2 t c.requires).head_ok in
    omega (arith, h.some)

pub place_of-requires : goal.place_of-requires
place_of-requires g c = let t = c.args.t.now in
    let h = head table2 t (table table2 t c.requires).head_ok in
    omega (arith, h.some, h.room)
