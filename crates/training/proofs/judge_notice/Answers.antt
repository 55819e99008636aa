use Rattle.std.specs.Prelude.{Some, None}
use mathlib.Core.Path.{◌≡◌}
use native.Mathlib.Omega.{arith}
use Rattle.training.specs.Training.{list_of}
use Rattle.training.proofs.Laws.{found_low, eight_here, notice_at_lem, notice_none}
use Rattle.training.proofs.judge_notice.Goals as goal

pub returns-in_err-i : goal.returns-in_err-i
returns-in_err-i c = let f : c.find.result ≡ None = grind arith in
    let n = notice_none (list_of c.args.b) c.args.executing c.args.key c.args.line c.find.ensures f in
    grind arith

pub order_at-requires : goal.order_at-requires
order_at-requires c = let f : c.find.result ≡ Some c.in_ok-i.i = grind arith in
    found_low (list_of c.args.b) c.args.key c.find.ensures f

pub notice_in-requires : goal.notice_in-requires
notice_in-requires c = let f : c.find.result ≡ Some c.in_ok-i.i = grind arith in
    eight_here (list_of c.args.b) c.args.executing c.args.key c.args.line c.requires (found_low (list_of c.args.b) c.args.key c.find.ensures f) c.order_at.ensures

pub returns : goal.returns
returns c = let f : c.find.result ≡ Some c.in_ok-i.i = grind arith in
    notice_at_lem (list_of c.args.b) c.args.executing c.args.key c.args.line c.find.ensures f c.order_at.ensures c.notice_in.ensures
