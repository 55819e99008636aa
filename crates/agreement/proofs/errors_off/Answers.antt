use mathlib.Core.Path.{ap, ◌∙◌}
use native.Mathlib.Omega.{arith}
use borrow.Author.Tests.{not-true, not-false}
use Rattle.rows.specs.Kept.{kept_from}
use Rattle.orders.specs.Orders.{value_of}
use Rattle.parts.proofs.Laws.{at_within}
use Rattle.agreement.specs.Agreement.{errors_parent}
use Rattle.agreement.proofs.Laws.{parts_by, errors_again, errors_name, errors_none}
use Rattle.agreement.proofs.errors_off.Goals as goal

pub text_at-requires : goal.text_at-requires
text_at-requires c = at_within c.parts_of-each.result (errors_parent c.args.kind) c.args.s.now c.args.from 2 (omega arith) (parts_by c.args.s.now c.args.from c.parts_of-each.ensures c.errors_parent.ensures)

pub text_at-requires-2 : goal.text_at-requires-2
text_at-requires-2 c = at_within c.parts_of-each.result (errors_parent c.args.kind) c.args.s.now c.args.from 1 (omega arith) (parts_by c.args.s.now c.args.from c.parts_of-each.ensures c.errors_parent.ensures)

pub returns-then-not-same : goal.returns-then-not-same
returns-then-not-same c = errors_again c.args.kind c.args.s.now (kept_from (errors_parent c.args.kind) c.args.s.now c.args.from) c.parts_of-each.result (parts_by c.args.s.now c.args.from c.parts_of-each.ensures c.errors_parent.ensures) _ _ c.text_at-2.ensures c.text_at.ensures c.same.ensures (not-true _ c.if-not-same.true-raw)

pub text_at-requires-3 : goal.text_at-requires-3
text_at-requires-3 c = at_within c.parts_of-each.result (errors_parent c.args.kind) c.args.s.now c.args.from 1 (omega arith) (parts_by c.args.s.now c.args.from c.parts_of-each.ensures c.errors_parent.ensures)

pub text_at-requires-4 : goal.text_at-requires-4
text_at-requires-4 c = at_within c.parts_of-each.result (errors_parent c.args.kind) c.args.s.now c.args.from 3 (omega arith) (parts_by c.args.s.now c.args.from c.parts_of-each.ensures c.errors_parent.ensures)

pub returns-then-not-is_element : goal.returns-then-not-is_element
returns-then-not-is_element c = errors_name c.args.kind c.args.s.now (kept_from (errors_parent c.args.kind) c.args.s.now c.args.from) c.parts_of-each.result (parts_by c.args.s.now c.args.from c.parts_of-each.ensures c.errors_parent.ensures) _ _ c.text_at-2.ensures c.text_at.ensures c.same.ensures (not-false _ c.if-not-same.false-raw) _ _ _ c.text_at-3.ensures c.text_at-4.ensures (c.value_of-n.ensures ∙ ap value_of c.codice_errore.ensures) c.is_element.ensures (not-true _ c.if-not-is_element.true-raw)

pub returns : goal.returns
returns c = errors_none c.args.kind c.args.s.now (kept_from (errors_parent c.args.kind) c.args.s.now c.args.from) c.parts_of-each.result (parts_by c.args.s.now c.args.from c.parts_of-each.ensures c.errors_parent.ensures) _ _ c.text_at-2.ensures c.text_at.ensures c.same.ensures (not-false _ c.if-not-same.false-raw) _ _ _ c.text_at-3.ensures c.text_at-4.ensures (c.value_of-n.ensures ∙ ap value_of c.codice_errore.ensures) c.is_element.ensures (not-false _ c.if-not-is_element.false-raw)
