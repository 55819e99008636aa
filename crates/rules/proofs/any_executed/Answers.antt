use Rattle.std.proofs.Common.{rules, tests, ◌∙◌}
use Rattle.std.proofs.lemmas.Iterator.{YieldsList-from_slice}
use Rattle.std.proofs.lemmas.Iterator.Search.{any_from_yields_List}
use Rattle.rules.specs.Rules.{was_executed}
use Rattle.rules.proofs.Laws.{any_is}
use Rattle.rules.proofs.any_executed.Goals as goal

pub returns : goal.returns
returns c = any_from_yields_List was_executed _ _ _ c.any.ensures.ran (YieldsList-from_slice c.args.states.now cc) (λ x b q k. search (rules, tests)) ∙ any_is c.args.states.now
