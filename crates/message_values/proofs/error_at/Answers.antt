use mathlib.Core.Path.{ap, ◌∙◌}
use Rattle.digits.specs.Digits.{codice_errore}
use Rattle.orders.specs.Orders.{value_of}
use Rattle.message_values.proofs.Laws.{code_small}
use Rattle.message_values.proofs.error_at.Goals as goal

pub small-requires : goal.small-requires
small-requires c = rw c.codice_errore.ensures (code_small _)

pub returns : goal.returns
returns c = c.small.ensures ∙ ap value_of (c.codice_errore.ensures ∙ ap codice_errore c.text_at.ensures)
