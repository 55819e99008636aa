use mathlib.Core.Path.{ap, ◌∙◌}
use Rattle.digits.specs.Digits.{numero}
use Rattle.orders.specs.Orders.{value_of}
use Rattle.message_values.proofs.number_at.Goals as goal

pub returns : goal.returns
returns c = c.value_of.ensures ∙ ap value_of (c.numero_of.ensures ∙ ap numero c.text_at.ensures)
