use Rattle.std.proofs.Common.{rules, tests, cond, ltb, get_or}
use Rattle.order.specs.Ordinativo.{no_line, lines_there}
use Rattle.rules.specs.Rules.{amounts_of}
use Rattle.rules.proofs.Laws.{made_eight, amount_there}
use Rattle.rules.proofs.amounts_of.Goals as goal

pub returns : goal.returns
returns c = let ls = c.args.ls in
    made_eight (amounts_of (lines_there ls)) (λ k. cond (ltb k ls.count) (get_or ls.each k no_line).amount 0) c.from_fn.ensures.items (λ i y q k. search (rules, tests)) (amount_there ls.count ls.each)
