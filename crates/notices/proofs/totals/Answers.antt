use Rattle.std.specs.Prelude.{Err}
use mathlib.Core.Path.{ap, sym, ◌∙◌}
use Rattle.address.proofs.Laws.{slots}
use Rattle.notices.proofs.Laws.{totals_at, slots_served}
use Rattle.notices.proofs.totals.Goals as goal

pub body_totals-requires : goal.body_totals-requires
body_totals-requires c = let s = slots c.args.t.now c.args.code.now (sym c.addressed_by.ensures ∙ c.in-Ok.is) in
    slots_served s

pub returns-in-Err-Invalid : goal.returns-in-Err-Invalid
returns-in-Err-Invalid c = totals_at c.args.t.now c.args.code.now (sym c.addressed_by.ensures ∙ c.in-Err-Invalid.is ∙ ap Err c.in-Err-Invalid.field-0-is) c.no_totals.ensures

pub returns-in-Err-Unknown : goal.returns-in-Err-Unknown
returns-in-Err-Unknown c = totals_at c.args.t.now c.args.code.now (sym c.addressed_by.ensures ∙ c.in-Err-Unknown.is ∙ ap Err c.in-Err-Unknown.field-0-is) c.no_totals-in-Err-Unknown.ensures

pub returns-in-Ok : goal.returns-in-Ok
returns-in-Ok c = totals_at c.args.t.now c.args.code.now (sym c.addressed_by.ensures ∙ c.in-Ok.is) c.body_totals.ensures
