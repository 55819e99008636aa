use Rattle.std.specs.Prelude.{Err}
use mathlib.Core.Path.{ap, refl, sym, ◌∙◌}
use Rattle.desk.proofs.Laws.{verdict_read}
use Rattle.desk.proofs.take_noted.Goals as goal

pub for_bank-requires : goal.for_bank-requires
for_bank-requires c = (c.requires.0, sym c.verdict_of.ensures.0 ∙ c.in-Ok.is, c.verdict_of.ensures.1, c.requires.1)

pub returns-in-Err-MarkupBreaks : goal.returns-in-Err-MarkupBreaks
returns-in-Err-MarkupBreaks c = verdict_read c.args.e c.args.t.now c.args.f.now c.args.out.now (sym c.verdict_of.ensures.0 ∙ c.in-Err-MarkupBreaks.is ∙ ap Err c.in-Err-MarkupBreaks.field-0-is) (refl, refl, refl)

pub returns-in-Err-StructureBreaks : goal.returns-in-Err-StructureBreaks
returns-in-Err-StructureBreaks c = verdict_read c.args.e c.args.t.now c.args.f.now c.args.out.now (sym c.verdict_of.ensures.0 ∙ c.in-Err-StructureBreaks.is ∙ ap Err c.in-Err-StructureBreaks.field-0-is) (refl, refl, refl)

pub returns-in-Ok : goal.returns-in-Ok
returns-in-Ok c = verdict_read c.args.e c.args.t.now c.args.f.now c.args.out.now (sym c.verdict_of.ensures.0 ∙ c.in-Ok.is) c.for_bank.ensures
