use mathlib.Core.Path.{◌≡◌, refl}
use native.Mathlib.Omega.{arith}
use lib.ListN.{length}
use Rattle.order.specs.Ordinativo.{ordinativo}
use Rattle.training.specs.Training.{list_of}
use Rattle.training.proofs.Laws.{taken_low, record_refused, record_taken}
use Rattle.training.proofs.change_record.Goals as goal

pub overflow_add-result : goal.overflow_add-result
overflow_add-result c = let z : length c.args.b.records ≡ 32 = c.well_formed.0.1.1.1.0.1.0.1 in
    let l = taken_low c.args.b.count c.args.b.records c.args.i c.requires in
    omega (arith, z, l)

pub returns-then-code-ne0 : goal.returns-then-code-ne0
returns-then-code-ne0 c = (record_refused c.args.year (ordinativo c.args.o) (list_of c.args.b) c.args.i c.args.c c.requires c.order_at-r.ensures c.record_code-code.ensures c.if-code-ne0.true, refl)

pub overflow_add-result-2 : goal.overflow_add-result-2
overflow_add-result-2 c = let z : length c.args.b.records ≡ 32 = c.well_formed.0.1.1.1.0.1.0.1 in
    let l = taken_low c.args.b.count c.args.b.records c.args.i c.requires in
    omega (arith, z, l)

pub returns : goal.returns
returns c = (record_taken c.args.year (ordinativo c.args.o) (list_of c.args.b) c.args.i c.args.c c.requires c.order_at-r.ensures c.record_code-code.ensures c.if-code-ne0.false c.written_by.ensures c.replaced.ensures, refl)
