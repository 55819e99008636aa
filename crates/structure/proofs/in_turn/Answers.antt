use mathlib.Core.Path.{sym, ◌∙◌}
use native.Mathlib.Omega.{arith}
use borrow.Author.Tests.{eqb-true, ltb-true}
use Rattle.std.proofs.lemmas.Bool.{true≢false}
use Rattle.structure.proofs.Walk.{filled_same, filled_one}
use Rattle.structure.proofs.in_turn.Goals.{then-to-row, else-to-row+then-n-eq1, then-row-to, else-row-to, then-to-row-eq1, else-to-row-eq1, else-to-row+else-n-eq1}
use Rattle.structure.proofs.in_turn.Goals as goal

pub returns-then-ones : goal.returns-then-ones
returns-then-ones c = elim c.if-to-row.branch [
  | then-to-row w ↦ c.if-ones.true ∙ filled_same _ _ _ _ w.if-to-row.true
  | else-to-row+then-n-eq1 w ↦ elim w.if-to-row-eq1.branch [
    | then-to-row-eq1 v ↦ elim w.if-row-to.branch [
      | then-row-to u ↦
          c.if-ones.true ∙ filled_one _ _ _ _ c.requires u.if-row-to.true (eqb-true _ _ (sym u.value-is ∙ v.if-to-row-eq1.true)) (eqb-true _ _ (sym v.value-is ∙ w.if-n-eq1.true)) (sym w.ones.ensures ∙ (sym w.value-is ∙ c.if-ones.true))
      | else-row-to u ↦ absurd (omega (arith, ltb-true _ _ (sym u.value-is ∙ v.if-to-row-eq1.true)))
    ]
    | else-to-row-eq1 v ↦ absurd (true≢false (sym w.if-n-eq1.true ∙ (v.value-is ∙ v.if-to-row-eq1.false)))
  ]
  | else-to-row+else-n-eq1 w ↦ absurd (true≢false (sym c.if-ones.true ∙ (w.value-is ∙ w.if-n-eq1.false)))
]
