use mathlib.Core.Path.{ap, ◌∙◌}
use Rattle.codes.specs.Codes.{esito_operazione}
use Rattle.message.specs.Read.{operation_in}
use Rattle.message_values.proofs.operation_at.Goals as goal

pub returns : goal.returns
returns c = c.operation_of.ensures ∙ ap operation_in (c.esito_operazione.ensures ∙ ap esito_operazione c.text_at.ensures)
