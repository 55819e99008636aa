use Rattle.std.specs.Prelude.{None}
use Rattle.tags.proofs.Laws.{told, spelled_lines}
use Rattle.tags.proofs.in_beneficiario_line.Goals as goal

pub returns-in-0 : goal.returns-in-0
returns-in-0 c = told _ _ _ _ _ _ None _ (spelled_lines c.args.replaces).0.0 c.requires tt c.tag_at.ensures

pub returns-in-1 : goal.returns-in-1
returns-in-1 c = told _ _ _ _ _ _ None _ (spelled_lines c.args.replaces).0.1.0 c.requires tt c.tag_at-in-1.ensures

pub returns-in-2 : goal.returns-in-2
returns-in-2 c = told _ _ _ _ _ _ None _ (spelled_lines c.args.replaces).0.1.1.0 c.requires tt c.tag_at-in-2.ensures
