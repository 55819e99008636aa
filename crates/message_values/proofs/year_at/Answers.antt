use mathlib.Core.Path.{ap, ◌∙◌}
use Rattle.digits.specs.Digits.{esercizio}
use Rattle.orders.specs.Orders.{value_of}
use Rattle.message_values.proofs.year_at.Goals as goal

pub returns : goal.returns
returns c = c.value_of.ensures ∙ ap value_of (c.esercizio_of.ensures ∙ ap esercizio c.text_at.ensures)
