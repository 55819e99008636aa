use Rattle.std.specs.Prelude.{Option}
use mathlib.Core.Path.{ap, ◌∙◌}
use mathlib.Core.Bool.{not}
use native.Mathlib.Omega.{arith}
use lib.ListN.{get_or}
use lib.Dec.{eqb}
use borrow.Author.Tests.{not-true, not-false}
use Rattle.scan.specs.Bytes.{is_white}
use Rattle.scan.proofs.Laws.{run_within}
use Rattle.codes.specs.declared.Esito.{Esito}
use Rattle.rows.specs.Kept.{kept_from}
use Rattle.parts.specs.Parts.{no_span}
use Rattle.parts.proofs.Laws.{at_within}
use Rattle.agreement.specs.Agreement.{entry_parent, errors_parent, word_stands, errors_off_at}
use Rattle.agreement.proofs.Laws.{parts_by, entry_word, entry_none, entry_list, list_within}
use Rattle.agreement.proofs.entry_off.Goals as goal

pub text_at-requires : goal.text_at-requires
text_at-requires c = at_within c.parts_of-each.result (entry_parent c.args.kind) c.args.s.now c.args.from 6 (omega arith) (parts_by c.args.s.now c.args.from c.parts_of-each.ensures c.entry_parent.ensures)

pub returns-then-not-word_stands : goal.returns-then-not-word_stands
returns-then-not-word_stands c = entry_word c.args.kind (entry_parent c.args.kind) c.args.s.now c.args.from c.parts_of-each.result (parts_by c.args.s.now c.args.from c.parts_of-each.ensures c.entry_parent.ensures) _ c.text_at.ensures (c.word_stands.ensures ∙ ap (λ (x : Option Esito). word_stands x (not (eqb (get_or c.parts_of-each.result 8 no_span).to 0))) c.esito_operazione.ensures) (not-true _ c.if-not-word_stands.true-raw)

pub returns-then-list-eq0 : goal.returns-then-list-eq0
returns-then-list-eq0 c = entry_none c.args.kind (entry_parent c.args.kind) c.args.s.now c.args.from c.parts_of-each.result (parts_by c.args.s.now c.args.from c.parts_of-each.ensures c.entry_parent.ensures) _ c.text_at.ensures (c.word_stands.ensures ∙ ap (λ (x : Option Esito). word_stands x (not (eqb (get_or c.parts_of-each.result 8 no_span).to 0))) c.esito_operazione.ensures) (not-false _ c.if-not-word_stands.false-raw) c.if-list-eq0.true

pub white_end-requires : goal.white_end-requires
white_end-requires c = list_within (entry_parent c.args.kind) c.args.s.now c.args.from c.parts_of-each.result (parts_by c.args.s.now c.args.from c.parts_of-each.ensures c.entry_parent.ensures) 8 (omega arith)

pub errors_off-requires : goal.errors_off-requires
errors_off-requires c = (rw c.white_end.ensures (run_within is_white c.args.s.now (get_or c.parts_of-each.result 8 no_span).from (list_within (entry_parent c.args.kind) c.args.s.now c.args.from c.parts_of-each.result (parts_by c.args.s.now c.args.from c.parts_of-each.ensures c.entry_parent.ensures) 8 (omega arith))), c.requires.1)

pub returns : goal.returns
returns c = c.errors_off.ensures ∙ ap (λ j. errors_off_at c.args.kind c.args.s.now (kept_from (errors_parent c.args.kind) c.args.s.now j)) c.white_end.ensures ∙ entry_list c.args.kind (entry_parent c.args.kind) c.args.s.now c.args.from c.parts_of-each.result (parts_by c.args.s.now c.args.from c.parts_of-each.ensures c.entry_parent.ensures) _ c.text_at.ensures (c.word_stands.ensures ∙ ap (λ (x : Option Esito). word_stands x (not (eqb (get_or c.parts_of-each.result 8 no_span).to 0))) c.esito_operazione.ensures) (not-false _ c.if-not-word_stands.false-raw) c.if-list-eq0.false
