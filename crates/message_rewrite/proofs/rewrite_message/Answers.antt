use mathlib.Core.Path.{sym, ◌∙◌}
use Rattle.message_rewrite.specs.Promise.{no_edition, by_edition_lem}
use Rattle.message_rewrite.proofs.rewrite_message.Goals as goal

pub returns-in_default : goal.returns-in_default
returns-in_default c = rw c.no_message.ensures (no_edition (sym c.edition_of.ensures ∙ c.in_default.is))

pub returns : goal.returns
returns c = by_edition_lem (sym c.edition_of.ensures ∙ c.in-Some.is) c.rewrite_in.ensures
