use mathlib.Core.Path.{sym, ◌∙◌}
use borrow.Author.Tests.{not-false}
use Rattle.scan.specs.Bytes.{bytes}
use Rattle.scan.proofs.Laws.{has_within}
use Rattle.rows.proofs.Operation.{words, tells}
use Rattle.rows.proofs.operation_at.Goals.{then-stands-3, else-stands-3}
use Rattle.rows.proofs.operation_at.Goals as goal

pub stands-requires-2 : goal.stands-requires-2
stands-requires-2 c = has_within (bytes "<tipo_operazione>") _ _ c.requires (sym c.stands.ensures ∙ not-false _ c.if-not-stands.false-raw)

pub stands-requires-else-stands : goal.stands-requires-else-stands
stands-requires-else-stands c = has_within (bytes "<tipo_operazione>") _ _ c.requires (sym c.stands.ensures ∙ not-false _ c.if-not-stands.false-raw)

pub stands-requires-else-stands-2 : goal.stands-requires-else-stands-2
stands-requires-else-stands-2 c = has_within (bytes "<tipo_operazione>") _ _ c.requires (sym c.stands.ensures ∙ not-false _ c.if-not-stands.false-raw)

pub stands-requires-else-stands-3 : goal.stands-requires-else-stands-3
stands-requires-else-stands-3 c = has_within (bytes "<tipo_operazione>") _ _ c.requires (sym c.stands.ensures ∙ not-false _ c.if-not-stands.false-raw)

pub returns-then-stands : goal.returns-then-stands
returns-then-stands c = tells _ _ _ _ _ words.0 c.requires (sym c.stands.ensures ∙ not-false _ c.if-not-stands.false-raw) (sym c.stands-2.ensures ∙ c.if-stands.true)

pub returns-then-stands-2 : goal.returns-then-stands-2
returns-then-stands-2 c = tells _ _ _ _ _ words.1 c.requires (sym c.stands.ensures ∙ not-false _ c.if-not-stands.false-raw) (sym c.stands-else-stands.ensures ∙ c.if-stands-2.true)

pub returns-then-stands-4 : goal.returns-then-stands-4
returns-then-stands-4 c = elim c.if-stands-3.branch [
  | then-stands-3 w ↦ tells _ _ _ _ _ words.2 c.requires (sym c.stands.ensures ∙ not-false _ c.if-not-stands.false-raw) (sym c.stands-else-stands-2.ensures ∙ w.if-stands-3.true)
  | else-stands-3 w ↦ tells _ _ _ _ _ words.3 c.requires (sym c.stands.ensures ∙ not-false _ c.if-not-stands.false-raw) (sym w.stands-else-stands-3.ensures ∙ (sym w.value-is ∙ c.if-stands-4.true))
]
