use mathlib.Core.Path.{◌∙◌}
use native.Mathlib.Omega.{arith}
use Rattle.days.proofs.Signed.{difference_kept}
use Rattle.notices.proofs.Laws.{totals_made, paid_is, collected_is, few_cents}
use Rattle.notices.proofs.body_totals.Goals as goal

pub difference-balance-requires : goal.difference-balance-requires
difference-balance-requires c = let p = c.read8-paid.ensures ∙ paid_is c.requires in
    let q = c.read8-collected.ensures ∙ collected_is c.requires in
    let a = few_cents c.requires 1 in
    let b = few_cents c.requires 2 in
    (omega arith, omega arith)

pub returns : goal.returns
returns c = let p = c.read8-paid.ensures ∙ paid_is c.requires in
    let q = c.read8-collected.ensures ∙ collected_is c.requires in
    let a = few_cents c.requires 1 in
    let b = few_cents c.requires 2 in
    totals_made c.args.t.now c.args.base c.args.n c.used_slots-used.ensures p q (difference_kept c.read8-collected.result c.read8-paid.result (omega arith) (omega arith) c.difference-balance.ensures)
