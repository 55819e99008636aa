use mathlib.Core.Path.{sym, ◌∙◌}
use native.Mathlib.Omega.{arith}
use Rattle.service.proofs.Laws.{notice_place, notice_refused}
use Rattle.service.proofs.Moved.{notice_movable, notice_stored_lem}
use Rattle.service.proofs.serve_notice.Goals as goal

pub judge_notice-requires : goal.judge_notice-requires
judge_notice-requires c = let S = c.requires in
    (S.inside, S.valid)

pub overflow_mul-at : goal.overflow_mul-at
overflow_mul-at c = omega (arith, notice_place c.args.t.now c.args.base c.args.n c.args.executing c.args.key c.args.line c.requires.inside c.requires.valid c.judge_notice.ensures c.in_ok-i.was)

pub overflow_add-at : goal.overflow_add-at
overflow_add-at c = omega (arith, notice_place c.args.t.now c.args.base c.args.n c.args.executing c.args.key c.args.line c.requires.inside c.requires.valid c.judge_notice.ensures c.in_ok-i.was)

pub overflow_add-at-2 : goal.overflow_add-at-2
overflow_add-at-2 c = omega (arith, notice_place c.args.t.now c.args.base c.args.n c.args.executing c.args.key c.args.line c.requires.inside c.requires.valid c.judge_notice.ensures c.in_ok-i.was)

pub overflow_sub-at : goal.overflow_sub-at
overflow_sub-at c = omega (arith, notice_place c.args.t.now c.args.base c.args.n c.args.executing c.args.key c.args.line c.requires.inside c.requires.valid c.judge_notice.ensures c.in_ok-i.was)

pub overflow_add-at-3 : goal.overflow_add-at-3
overflow_add-at-3 c = omega (arith, notice_place c.args.t.now c.args.base c.args.n c.args.executing c.args.key c.args.line c.requires.inside c.requires.valid c.judge_notice.ensures c.in_ok-i.was)

pub copy_in-requires : goal.copy_in-requires
copy_in-requires c = omega (arith, notice_place c.args.t.now c.args.base c.args.n c.args.executing c.args.key c.args.line c.requires.inside c.requires.valid c.judge_notice.ensures c.in_ok-i.was)

pub move_kept-requires : goal.move_kept-requires
move_kept-requires c = let S = c.requires in
    let w = S.inside in
    let x = S.entry in
    let k = notice_movable c.args.t.now c.args.e c.args.base c.args.n c.args.executing c.args.key c.args.line c.requires (sym c.judge_notice.ensures ∙ c.in_ok-i.was) c.moved_to.ensures c.copy_in.ensures in
    (omega arith, k.0, k.1)

pub returns-in_err-i : goal.returns-in_err-i
returns-in_err-i c = (
  grind arith,
  notice_refused c.args.t.now c.args.base c.args.n c.args.executing c.args.key c.args.line c.args.e (sym c.judge_notice.ensures ∙ c.in_err-i.was),
)

pub returns : goal.returns
returns c = (
  sym c.in_ok-i.was ∙ c.judge_notice.ensures,
  notice_stored_lem c.args.t.now c.args.e c.args.base c.args.n c.args.executing c.args.key c.args.line c.requires (sym c.judge_notice.ensures ∙ c.in_ok-i.was) c.moved_to.ensures c.copy_in.ensures c.move_kept.ensures,
)
