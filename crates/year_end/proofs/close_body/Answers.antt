use mathlib.Core.Path.{sym, subst}
use Rattle.year_end.specs.Inner.{Fits}
use Rattle.year_end.proofs.Laws.{removed_fits, closed_by}
use Prim.Native.Nat.{ℕ}
use mathlib.Core.List.{List}
use Rattle.year_end.proofs.close_body.Goals as goal

pub settle_body-requires : goal.settle_body-requires
settle_body-requires c = subst (λ (x : List ℕ). Fits x c.args.e c.args.base c.args.n) (sym c.remove_year-count.ensures.1) (removed_fits c.args.t.now c.args.e c.args.base c.args.n c.args.year c.requires)

pub returns : goal.returns
returns c = (c.remove_year-count.ensures.0, closed_by c.args.t.now c.args.e c.args.base c.args.n c.args.year c.requires _ _ _ c.remove_year-count.ensures.1 c.settle_body.ensures c.write2.ensures)
