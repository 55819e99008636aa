use Rattle.std.proofs.Common.{rules, tests, ◌∙◌}
use Rattle.std.proofs.lemmas.Iterator.{YieldsList-from_slice}
use Rattle.std.proofs.lemmas.Iterator.Search.{all_from_yields_List}
use Rattle.scan.specs.Bytes.{part}
use Rattle.ranges.specs.Ranges.{is_of}
use Rattle.ranges.proofs.Laws.{all_is}
use Rattle.ranges.proofs.are_of.Goals as goal

pub returns : goal.returns
returns c = let a = c.args in
    let bytes = part a.t.now a.a a.e in
    all_from_yields_List (is_of a.c) _ _ _ c.all.ensures.ran (YieldsList-from_slice bytes cc) (λ x b q k. search (rules, tests)) ∙ all_is (is_of a.c) bytes
