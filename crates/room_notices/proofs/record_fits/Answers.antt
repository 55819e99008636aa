use Rattle.std.proofs.Common.{rules, tests, ◌∙◌, le-leb, leb}
use Rattle.std.proofs.lemmas.Iterator.{YieldsList-from_slice}
use Rattle.std.proofs.lemmas.Iterator.Search.{all_from_yields_List}
use Rattle.bounds.specs.Bounds.{max_cents}
use Rattle.room_notices.proofs.Laws.{all_fit}
use Rattle.room_notices.proofs.record_fits.Goals as goal

pub returns-then-r-le8 : goal.returns-then-r-le8
returns-then-r-le8 c = rw (le-leb c.args.r.lines 8 c.if-r-le8.true)
    (all_from_yields_List (λ x. leb x max_cents) _ _ _ c.all.ensures.ran (YieldsList-from_slice c.args.r.amounts cc) (λ x b q k. search (rules, tests)) ∙ all_fit c.args.r.amounts)
