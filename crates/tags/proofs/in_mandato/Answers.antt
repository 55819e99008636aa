use Rattle.std.specs.Prelude.{None}
use Rattle.tags.proofs.Laws.{told, spelled_mandato}
use Rattle.tags.proofs.in_mandato.Goals as goal

pub returns-in-0 : goal.returns-in-0
returns-in-0 c = told _ _ _ _ _ _ None _ (spelled_mandato c.args.replaces).0 c.requires tt c.tag_at.ensures

pub returns-in-1 : goal.returns-in-1
returns-in-1 c = told _ _ _ _ _ _ None _ (spelled_mandato c.args.replaces).1.0 c.requires tt c.tag_at-in-1.ensures

pub returns-in-2 : goal.returns-in-2
returns-in-2 c = told _ _ _ _ _ _ None _ (spelled_mandato c.args.replaces).1.1.0 c.requires tt c.tag_at-in-2.ensures

pub returns-in-3 : goal.returns-in-3
returns-in-3 c = told _ _ _ _ _ _ None _ (spelled_mandato c.args.replaces).1.1.1.0 c.requires tt c.tag_at-in-3.ensures

pub returns-in_default : goal.returns-in_default
returns-in_default c = told _ _ _ _ _ _ None _ (spelled_mandato c.args.replaces).1.1.1.1.0 c.requires tt c.tag_at-in_default.ensures
