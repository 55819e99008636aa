use Rattle.std.specs.Prelude.{Some, None}
use mathlib.Core.Path.{◌≡◌, sym, ◌∙◌}
use native.Mathlib.Omega.{arith}
use Rattle.slots.proofs.Held.{search_held}
use Rattle.service.proofs.Laws.{notice_none, notice_found, notice_lines}
use Rattle.service.proofs.judge_notice.Goals as goal

pub returns-in_err-i : goal.returns-in_err-i
returns-in_err-i c = let f : c.find.result ≡ None = grind arith in
    let n = notice_none c.args.t.now c.args.base c.args.n c.args.executing c.args.key c.args.line c.find.ensures f in
    grind arith

pub overflow_mul-i : goal.overflow_mul-i
overflow_mul-i c = let f : c.find.result ≡ Some c.in_ok-i.i = grind arith in
    omega (arith, (search_held c.args.t.now c.args.base c.args.n c.args.key c.find.ensures f).low)

pub overflow_add-base : goal.overflow_add-base
overflow_add-base c = let f : c.find.result ≡ Some c.in_ok-i.i = grind arith in
    omega (arith, (search_held c.args.t.now c.args.base c.args.n c.args.key c.find.ensures f).low)

pub record_at-r-requires : goal.record_at-r-requires
record_at-r-requires c = let f : c.find.result ≡ Some c.in_ok-i.i = grind arith in
    omega (arith, (search_held c.args.t.now c.args.base c.args.n c.args.key c.find.ensures f).low)

pub notice_in-requires : goal.notice_in-requires
notice_in-requires c = let f : c.find.result ≡ Some c.in_ok-i.i = grind arith in
    notice_lines c.args.t.now c.args.base c.args.n c.args.executing c.args.key c.args.line c.find.ensures f c.record_at-r.ensures c.requires.1

pub returns : goal.returns
returns c = let f : c.find.result ≡ Some c.in_ok-i.i = grind arith in
    c.notice_in.ensures ∙ sym (notice_found c.args.t.now c.args.base c.args.n c.args.executing c.args.key c.args.line c.find.ensures f c.record_at-r.ensures)
