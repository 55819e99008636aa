use Rattle.std.proofs.Common.{rules, tests, ◌∙◌, ap, eqb, max, ℕ}
use Rattle.std.proofs.lemmas.Iterator.{YieldsList-from_slice}
use Rattle.std.proofs.lemmas.Iterator.Consumers.{fold_from_yields_List}
use Rattle.scan.specs.Bytes.{part}
use Rattle.ranges.specs.Ranges.{zeros}
use Rattle.ranges.proofs.Laws.{zero_greatest}
use Rattle.ranges.proofs.are_zero.Goals as goal

pub returns : goal.returns
unfolding zeros
returns c = let a = c.args in
    let bytes = part a.t.now a.a a.e in
    let e = fold_from_yields_List _ (λ top b. max top b) 0 c.fold.result c.fold.ensures.ran (YieldsList-from_slice bytes cc) (λ a x b q k. search (rules, tests)) in
    ap (λ (top : ℕ). eqb top 0) e ∙ zero_greatest 0 bytes
