use mathlib.Core.Path.{sym, ap, subst, ◌∙◌}
use Rattle.table.specs.declared.Layout.{Layout}
use Rattle.table.specs.Table.{valid_as}
use Rattle.table.specs.Inner.{Known}
use Rattle.table.proofs.Laws.{known_2}
use Rattle.table.proofs.table_ok.Goals as goal

pub valid_as-requires : goal.valid_as-requires
valid_as-requires c = subst Known (sym c.table_2.ensures) known_2

pub returns : goal.returns
returns c = c.valid_as.ensures ∙ ap (λ (l : Layout). valid_as l c.args.t.now) c.table_2.ensures
