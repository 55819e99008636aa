use native.Mathlib.Omega.{arith}
use Rattle.children.proofs.Laws.{field_within}
use Rattle.children.proofs.name_at.Goals as goal

pub overflow_add-result : goal.overflow_add-result
overflow_add-result c = let l = (field_within c.args.s.now c.args.place).0 in
    rw c.field_at-w.ensures (omega arith)

pub returns : goal.returns
returns c = rw c.field_at-w.ensures

pub slice_bounds-result-end : goal.slice_bounds-result-end
slice_bounds-result-end c = let l = (field_within c.args.s.now c.args.place).0 in
    rw c.field_at-w.ensures l
