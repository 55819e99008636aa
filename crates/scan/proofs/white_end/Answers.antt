use borrow.Author.Rules.{rules}
use borrow.Author.Tests.{tests}
use lib.ListN.{length}
use Rattle.std.specs.List.{slice_range}
use Rattle.std.proofs.lemmas.Iterator.{YieldsList-from_slice}
use Rattle.std.proofs.lemmas.Iterator.Search.{YieldsList-from_take_while}
use Rattle.std.proofs.lemmas.Iterator.Consumers.{count_from_yields_List}
use Rattle.scan.specs.Bytes.{is_white}
use Rattle.scan.proofs.Laws.{run_end_is}
use Rattle.scan.proofs.white_end.Goals as goal

pub returns : goal.returns
returns c = let s = c.args.s.now in
    let at = c.args.at in
    run_end_is is_white s at c.count.result (count_from_yields_List c.take_while.result c.count.result c.count.ensures.ran
    (YieldsList-from_take_while _ is_white (YieldsList-from_slice (slice_range s at (length s)) (cc)) (cc) (cc) (λ x b q k. search (rules, tests))))
