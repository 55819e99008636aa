use mathlib.Core.Path.{ap, ◌∙◌}
use Rattle.dates.specs.Dates.{data_of}
use Rattle.orders.specs.Orders.{date_of}
use Rattle.message_values.proofs.date_at.Goals as goal

pub returns : goal.returns
returns c = c.date_of.ensures ∙ ap date_of (c.data_of.ensures ∙ ap data_of c.text_at.ensures)
