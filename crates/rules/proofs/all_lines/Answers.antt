use Rattle.std.proofs.Common.{rules, tests, cond, ltb, replicate}
use Rattle.rules.proofs.Laws.{made_eight, state_there}
use Rattle.rules.proofs.all_lines.Goals as goal

pub returns : goal.returns
returns c = let a = c.args in
    made_eight (replicate a.n a.state) (λ k. cond (ltb k a.n) a.state 0) c.from_fn.ensures.items (λ i y q k. search (rules, tests)) (state_there a.state a.n)
