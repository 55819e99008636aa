use Rattle.std.specs.Prelude.{None}
use Rattle.tags.proofs.Laws.{told_opens}
use Rattle.tags.proofs.header_at.Goals as goal

pub returns-in-0 : goal.returns-in-0
returns-in-0 c = λ p o. told_opens _ _ _ _ _ _ None _ o.0 c.requires tt c.tag_at.ensures

pub returns-in-1 : goal.returns-in-1
returns-in-1 c = λ p o. told_opens _ _ _ _ _ _ None _ o.1 c.requires tt c.tag_at-in-1.ensures

pub returns-in-2 : goal.returns-in-2
returns-in-2 c = λ p o. told_opens _ _ _ _ _ _ None _ o.2 c.requires tt c.tag_at-in-2.ensures

pub returns-in-3 : goal.returns-in-3
returns-in-3 c = λ p o. told_opens _ _ _ _ _ _ None _ o.3 c.requires tt c.tag_at-in-3.ensures
