use mathlib.Core.Path.{ap, ◌∙◌}
use native.Mathlib.Omega.{arith}
use Rattle.codes.specs.Codes.{operation_number}
use Rattle.message_values.proofs.Laws.{facts_made}
use Rattle.message_values.proofs.facts_of.Goals as goal

pub year_at-esercizio-requires : goal.year_at-esercizio-requires
year_at-esercizio-requires c = c.requires.0 1 (omega arith)

pub number_at-number-requires : goal.number_at-number-requires
number_at-number-requires c = c.requires.0 2 (omega arith)

pub date_at-date-requires : goal.date_at-date-requires
date_at-date-requires c = c.requires.0 4 (omega arith)

pub total_at-total-requires : goal.total_at-total-requires
total_at-total-requires c = c.requires.0 5 (omega arith)

pub operation_at-requires : goal.operation_at-requires
operation_at-requires c = c.requires.0 6 (omega arith)

pub returns : goal.returns
returns c = facts_made c.args.kind c.args.s.now c.args.each c.kind_number-kind.ensures (c.operation_number-operation.ensures ∙ ap operation_number c.operation_at.ensures) c.code_at-code.ensures c.year_at-esercizio.ensures c.number_at-number.ensures c.date_at-date.ensures c.total_at-total.ensures
