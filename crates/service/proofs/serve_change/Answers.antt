use native.Mathlib.Omega.{arith}
use Rattle.order.specs.Ordinativo.{ordinativo}
use Rattle.service.proofs.Laws.{change_lines, change_held, change_at, change_none, steps_lines, steps_at, steps_none}
use borrow.Author.Rules.{rules}
use Rattle.service.proofs.serve_change.Goals as goal

pub returns-then-code-ne0 : goal.returns-then-code-ne0
returns-then-code-ne0 c = (change_lines c.args.t.now c.args.base c.args.n c.args.year (ordinativo c.args.o) c.args.c c.check_lines-code.ensures c.if-code-ne0.true, steps_lines c.args.t.now c.args.base c.args.n c.args.year (ordinativo c.args.o) c.args.c c.check_lines-code.ensures c.if-code-ne0.true)

pub serve_record-requires : goal.serve_record-requires
serve_record-requires c = omega (arith, (change_held c.args.t.now c.args.base c.args.n c.args.year (ordinativo c.args.o) c.args.c c.check_lines-code.ensures c.if-code-ne0.false c.key_for-key.ensures c.seek_marked.ensures c.in-Ok.is).low, c.requires.0)

pub overflow_add-result : goal.overflow_add-result
overflow_add-result c = let h = (change_held c.args.t.now c.args.base c.args.n c.args.year (ordinativo c.args.o) c.args.c c.check_lines-code.ensures c.if-code-ne0.false c.key_for-key.ensures c.seek_marked.ensures c.in-Ok.is).low in
    let p = c.requires.0 in
    let g = c.well_formed in
    search (rules, h, p)

pub returns-in-Ok : goal.returns-in-Ok
returns-in-Ok c = (change_at c.args.t.now c.args.base c.args.n c.args.year (ordinativo c.args.o) c.args.c c.check_lines-code.ensures c.if-code-ne0.false c.key_for-key.ensures c.seek_marked.ensures c.in-Ok.is c.serve_record.ensures, steps_at c.args.t.now c.args.base c.args.n c.args.year (ordinativo c.args.o) c.args.c c.check_lines-code.ensures c.if-code-ne0.false c.key_for-key.ensures c.seek_marked.ensures c.in-Ok.is)

pub returns-in-Err : goal.returns-in-Err
returns-in-Err c = (change_none c.args.t.now c.args.base c.args.n c.args.year (ordinativo c.args.o) c.args.c c.check_lines-code.ensures c.if-code-ne0.false c.key_for-key.ensures c.seek_marked.ensures c.in-Err.is c.serve_absent.ensures, steps_none c.args.t.now c.args.base c.args.n c.args.year (ordinativo c.args.o) c.args.c c.check_lines-code.ensures c.if-code-ne0.false c.key_for-key.ensures c.seek_marked.ensures c.in-Err.is)
