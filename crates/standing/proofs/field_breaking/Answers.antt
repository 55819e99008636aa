use mathlib.Core.Path.{◌≡◌, sym, ◌∙◌}
use mathlib.Core.Bool.{true}
use Prim.Native.Nat.{◌+◌}
use borrow.Author.Tests.{not-true, not-false}
use Rattle.structure.specs.Structure.{text_only}
use Rattle.standing.proofs.Laws.{read_broken, read_stood, field_other, field_judged}
use Rattle.standing.proofs.field_breaking.Goals as goal

pub returns-then-not-text_only : goal.returns-then-not-text_only
returns-then-not-text_only c = field_other c.args.s.now c.args.f c.args.c (sym c.text_only.ensures ∙ not-true _ c.if-not-text_only.true-raw)

pub returns-then-is_err : goal.returns-then-is_err
returns-then-is_err c = let o : text_only c.args.s.now (c.args.c.gt + 1) ≡ true = sym c.text_only.ensures ∙ not-false _ c.if-not-text_only.false-raw in
    read_broken _ (sym c.is_err.ensures.value ∙ c.if-is_err.true) ∙ field_judged c.args.s.now c.args.f c.args.c _ o (sym c.read_field.ensures)

pub returns-else-is_err : goal.returns-else-is_err
returns-else-is_err c = let o : text_only c.args.s.now (c.args.c.gt + 1) ≡ true = sym c.text_only.ensures ∙ not-false _ c.if-not-text_only.false-raw in
    read_stood _ (sym c.is_err.ensures.value ∙ c.if-is_err.false) ∙ field_judged c.args.s.now c.args.f c.args.c _ o (sym c.read_field.ensures)
