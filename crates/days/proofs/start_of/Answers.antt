use mathlib.Core.Path.{◌∙◌}
use Rattle.calendar.specs.Calendar.{leap, month_length}
use Rattle.days.specs.Days.{length_at}
use Rattle.days.proofs.Table.{starts, table_rule}
use Rattle.days.proofs.start_of.Goals as goal

pub returns : goal.returns
unfolding starts length_at month_length leap
returns c = c.from.ensures ∙ table_rule c.args.k c.requires
