use mathlib.Core.Path.{sym, ◌∙◌}
use native.Mathlib.Omega.{arith}
use borrow.Author.Tests.{ltb-true, leb-true, leb-false}
use Rattle.structure.proofs.Walk.{pairs_beyond, pairs_less, pairs_most}
use Rattle.structure.proofs.row_allows.Goals.{then-row-pairs, else-row-pairs}
use Rattle.structure.proofs.row_allows.Goals as goal

pub returns-then-from-n : goal.returns-then-from-n
returns-then-from-n c = elim c.if-row-pairs.branch [
  | then-row-pairs w ↦
      let k = leb-true _ _ (sym w.value-is ∙ c.if-from-n.true) in
      rw c.from-then-from-n.ensures (pairs_most c.args.pairs.now c.args.row c.args.n w.if-row-pairs.true (rw w.from.ensures at k))
  | else-row-pairs w ↦ absurd (omega (arith, ltb-true _ _ (sym w.value-is ∙ c.if-from-n.true)))
]

pub returns-else-from-n : goal.returns-else-from-n
returns-else-from-n c = elim c.if-row-pairs.branch [
  | then-row-pairs w ↦
      let k = leb-false _ _ (sym w.value-is ∙ c.if-from-n.false) in
      c.if-from-n.false ∙ pairs_less c.args.pairs.now c.args.row c.args.n w.if-row-pairs.true (rw w.from.ensures at k)
  | else-row-pairs w ↦ c.if-from-n.false ∙ pairs_beyond c.args.pairs.now c.args.row c.args.n w.if-row-pairs.false
]
