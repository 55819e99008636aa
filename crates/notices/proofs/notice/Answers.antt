use Rattle.std.specs.Prelude.{Err}
use mathlib.Core.Path.{ap, sym, ◌∙◌}
use Rattle.address.proofs.Laws.{slots}
use Rattle.notices.proofs.Laws.{no_table, no_body, served, slots_served}
use Rattle.notices.proofs.notice.Goals as goal

pub serve_notice-requires : goal.serve_notice-requires
serve_notice-requires c = let s = slots c.args.t.now c.args.code.now (sym c.addressed_by.ensures ∙ c.in-Ok.is) in
    slots_served s

pub returns-in-Err-Invalid : goal.returns-in-Err-Invalid
returns-in-Err-Invalid c = no_table c.args.t.now c.args.code.now c.args.executing c.args.key c.args.line (sym c.addressed_by.ensures ∙ c.in-Err-Invalid.is ∙ ap Err c.in-Err-Invalid.field-0-is)

pub returns-in-Err-Unknown : goal.returns-in-Err-Unknown
returns-in-Err-Unknown c = no_body c.args.t.now c.args.code.now c.args.executing c.args.key c.args.line (sym c.addressed_by.ensures ∙ c.in-Err-Unknown.is ∙ ap Err c.in-Err-Unknown.field-0-is)

pub returns-in-Ok : goal.returns-in-Ok
returns-in-Ok c = served c.args.t.now c.args.code.now c.args.executing c.args.key c.args.line (sym c.addressed_by.ensures ∙ c.in-Ok.is) c.serve_notice.ensures.0 c.serve_notice.ensures.1 c.answer_of.ensures
