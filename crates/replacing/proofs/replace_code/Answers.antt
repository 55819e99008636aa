use mathlib.Core.Path.{sym}
use native.Mathlib.Omega.{arith}
use Rattle.slots.specs.Slots.{records_at}
use Rattle.order.specs.Ordinativo.{lines_there}
use Rattle.replacing.proofs.Marks.{sofar_start, sofar_stops, sofar_next, sofar_end}
use Rattle.replacing.proofs.replace_code.Goals as goal

pub loop-j-init : goal.loop-j-init
loop-j-init c = sofar_start (records_at c.args.t.now c.args.base c.args.n) c.args.o.kind (lines_there c.args.o.lines)

pub returns-then-c-ne0 : goal.returns-then-c-ne0
returns-then-c-ne0 c = sym (sofar_stops (records_at c.args.t.now c.args.base c.args.n) c.args.o.kind (lines_there c.args.o.lines) c.loop-j.j c.line_code-c.result c.loop-j.invariant (omega (arith, c.count_of-j-end.ensures.0, c.loop-j-test.true)) c.line_code-c.ensures c.if-c-ne0.true)

pub loop-j-preserved : goal.loop-j-preserved
loop-j-preserved c = sofar_next (records_at c.args.t.now c.args.base c.args.n) c.args.o.kind (lines_there c.args.o.lines) c.loop-j.j c.line_code-c.result c.loop-j.invariant (omega (arith, c.count_of-j-end.ensures.0, c.loop-j-test.true)) c.line_code-c.ensures c.if-c-ne0.false

pub returns : goal.returns
returns c = sym (sofar_end (records_at c.args.t.now c.args.base c.args.n) c.args.o.kind (lines_there c.args.o.lines) c.loop-j.j c.loop-j.invariant (omega (arith, c.count_of-j-end.ensures.0, c.loop-j-test.false)))
