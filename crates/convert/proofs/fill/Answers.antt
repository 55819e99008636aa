use native.Mathlib.Omega.{arith}
use Rattle.convert.proofs.Laws.{five, sizes, slots_fit, filled}
use Rattle.convert.proofs.fill.Goals as goal

pub slice_bounds-put_head-end : goal.slice_bounds-put_head-end
slice_bounds-put_head-end c = let w = sizes c.args.o.now c.requires.0 c.requires.1 c.requires.2 in
    omega arith

pub put_head-requires : goal.put_head-requires
put_head-requires c = let w = sizes c.args.o.now c.requires.0 c.requires.1 c.requires.2 in
    (omega arith, five c.args.o.now c.requires.0)

pub put_entries-requires : goal.put_entries-requires
put_entries-requires c = let w = sizes c.args.o.now c.requires.0 c.requires.1 c.requires.2 in
    (c.requires.0, w.number, omega arith)

pub overflow_mul-from : goal.overflow_mul-from
overflow_mul-from c = let w = sizes c.args.o.now c.requires.0 c.requires.1 c.requires.2 in
    omega arith

pub overflow_add-from : goal.overflow_add-from
overflow_add-from c = let w = sizes c.args.o.now c.requires.0 c.requires.1 c.requires.2 in
    omega arith

pub overflow_mul-n : goal.overflow_mul-n
overflow_mul-n c = let w = sizes c.args.o.now c.requires.0 c.requires.1 c.requires.2 in
    omega arith

pub overflow_add-n : goal.overflow_add-n
overflow_add-n c = let w = sizes c.args.o.now c.requires.0 c.requires.1 c.requires.2 in
    omega arith

pub slice_bounds-copy_in-count : goal.slice_bounds-copy_in-count
slice_bounds-copy_in-count c = let w = sizes c.args.o.now c.requires.0 c.requires.1 c.requires.2 in
    omega arith

pub slice_bounds-copy_in-start : goal.slice_bounds-copy_in-start
slice_bounds-copy_in-start c = let w = sizes c.args.o.now c.requires.0 c.requires.1 c.requires.2 in
    omega arith

pub slice_bounds-copy_in-end : goal.slice_bounds-copy_in-end
slice_bounds-copy_in-end c = let w = sizes c.args.o.now c.requires.0 c.requires.1 c.requires.2 in
    omega arith

pub copy_in-requires : goal.copy_in-requires
copy_in-requires c = let w = sizes c.args.o.now c.requires.0 c.requires.1 c.requires.2 in
    let z = slots_fit c.args.o.now c.requires.0 w.number in
    omega arith

pub returns : goal.returns
returns c = filled c.args.o.now c.requires.0 c.args.t.now c.put_head.new.t c.put_entries.new.t c.copy_in.new.s c.requires.1 c.requires.2 c.put_head.ensures c.put_entries.ensures c.copy_in.ensures
