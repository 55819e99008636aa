use mathlib.Core.Path.{sym, ◌∙◌}
use Rattle.message_fit.proofs.Holding.{time_140, lays_by}
use Rattle.message_fit.proofs.time.Goals as goal

pub lay-requires : goal.lay-requires
lay-requires c = (c.requires, λ e. time_140 c.args.t.now (sym c.is_caller_time.ensures ∙ e))

pub returns : goal.returns
returns c = lays_by c.is_caller_time.ensures c.lay.ensures
