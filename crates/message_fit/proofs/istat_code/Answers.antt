use mathlib.Core.Path.{sym, ◌∙◌}
use Rattle.message_fit.proofs.Holding.{istat_140, lays_by}
use Rattle.message_fit.proofs.istat_code.Goals as goal

pub lay-requires : goal.lay-requires
lay-requires c = (c.requires, λ e. istat_140 c.args.t.now (sym c.is_istat.ensures ∙ e))

pub returns : goal.returns
returns c = lays_by c.is_istat.ensures c.lay.ensures
