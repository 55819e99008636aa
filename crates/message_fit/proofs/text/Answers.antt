use mathlib.Core.Path.{sym, ◌∙◌}
use Rattle.message_fit.proofs.Holding.{text_140, lays_by}
use Rattle.message_fit.proofs.text.Goals as goal

pub lay-requires : goal.lay-requires
lay-requires c = (c.requires, λ e. text_140 c.args.t.now (sym c.is_caller_text.ensures ∙ e))

pub returns : goal.returns
returns c = lays_by c.is_caller_text.ensures c.lay.ensures
