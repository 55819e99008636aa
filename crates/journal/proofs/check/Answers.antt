use Rattle.std.specs.Prelude.{Err}
use mathlib.Core.Path.{ap, sym, ◌∙◌}
use Rattle.address.proofs.Laws.{slots}
use Rattle.body.proofs.Slots.{parts}
use Rattle.journal.proofs.Laws.{call_at}
use Rattle.journal.proofs.check.Goals as goal

pub check_body-requires : goal.check_body-requires
check_body-requires c = let w = slots c.args.t.now c.args.code.now (sym c.addressed_by.ensures ∙ c.in-Ok.is) in
    (w.inside, w.few, (parts _ _ _ w.valid).keys)

pub returns-in-Err-Invalid : goal.returns-in-Err-Invalid
returns-in-Err-Invalid c = call_at c.args.t.now c.args.code.now c.args.s.now (sym c.addressed_by.ensures ∙ c.in-Err-Invalid.is ∙ ap Err c.in-Err-Invalid.field-0-is)

pub returns-in-Err-Unknown : goal.returns-in-Err-Unknown
returns-in-Err-Unknown c = call_at c.args.t.now c.args.code.now c.args.s.now (sym c.addressed_by.ensures ∙ c.in-Err-Unknown.is ∙ ap Err c.in-Err-Unknown.field-0-is)

pub returns-in-Ok : goal.returns-in-Ok
returns-in-Ok c = c.check_body.ensures ∙ call_at c.args.t.now c.args.code.now c.args.s.now (sym c.addressed_by.ensures ∙ c.in-Ok.is)
