use native.Mathlib.Omega.{arith}
use Rattle.order.specs.Ordinativo.{lines_there}
use Rattle.replacing.proofs.Bytes.{going_start, going_code, going_next, going_end}
use Rattle.replacing.proofs.mark_lines.Goals as goal

pub loop-j-init : goal.loop-j-init
loop-j-init c = going_start c.args.t.now c.args.base c.args.n c.args.o.kind (lines_there c.args.o.lines) c.requires.1

pub mark_line-requires : goal.mark_line-requires
mark_line-requires c = let g = c.loop-j.invariant in
    (omega (arith, g.long, c.requires.0), going_code c.args.t.now c.args.base c.args.n c.args.o.kind (lines_there c.args.o.lines) c.loop-j.t c.loop-j.j g (omega (arith, c.count_of-j-end.ensures.0, c.loop-j-test.true)) c.naming_at.ensures)

pub loop-j-preserved : goal.loop-j-preserved
loop-j-preserved c = let g = c.loop-j.invariant in
    going_next c.args.t.now c.args.base c.args.n c.args.o.kind (lines_there c.args.o.lines) c.loop-j.t c.loop-j.j g (omega (arith, c.count_of-j-end.ensures.0, c.loop-j-test.true)) (omega (arith, g.long, c.requires.0)) c.naming_at.ensures c.mark_line.ensures

pub shape_of-t : goal.shape_of-t
shape_of-t c = c.loop-j.invariant.long

pub returns : goal.returns
returns c = going_end c.args.t.now c.args.base c.args.n c.args.o.kind (lines_there c.args.o.lines) c.loop-j.t c.loop-j.j c.loop-j.invariant (omega (arith, c.count_of-j-end.ensures.0, c.loop-j-test.false))
