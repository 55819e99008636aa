use mathlib.Core.Path.{ap, ◌∙◌}
use Rattle.digits.specs.Digits.{importo}
use Rattle.orders.specs.Orders.{value_of}
use Rattle.message_values.proofs.total_at.Goals as goal

pub returns : goal.returns
returns c = c.value_of.ensures ∙ ap value_of (c.importo_of.ensures ∙ ap importo c.text_at.ensures)
