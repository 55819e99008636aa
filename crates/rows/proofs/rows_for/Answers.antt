use Rattle.rows.proofs.Laws.{rows_told, rows_other}
use Rattle.rows.proofs.Operation.{says_mandato, says_reversale}
use borrow.Author.Rules.{rules}
use Rattle.rows.proofs.rows_for.Goals as goal

pub is_replacing-requires : goal.is_replacing-requires
is_replacing-requires c = (search rules, search rules, says_mandato _ _ c.in-Mandato.is)

pub is_replacing-requires-in-Reversale : goal.is_replacing-requires-in-Reversale
is_replacing-requires-in-Reversale c = (search rules, search rules, says_reversale _ _ c.in-Reversale.is)

pub returns-in-Mandato : goal.returns-in-Mandato
returns-in-Mandato c = rows_told _ _ _ _ c.in-Mandato.is _ c.is_replacing.ensures

pub returns-in-Reversale : goal.returns-in-Reversale
returns-in-Reversale c = rows_told _ _ _ _ c.in-Reversale.is _ c.is_replacing-in-Reversale.ensures

pub returns-in_default : goal.returns-in_default
returns-in_default c = rows_other c.args.parent c.args.s.now c.args.at c.in_default.not-Mandato c.in_default.not-Reversale
