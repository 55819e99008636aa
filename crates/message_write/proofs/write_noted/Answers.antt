use Rattle.std.specs.Prelude.{Err}
use mathlib.Core.Path.{ap, refl, sym, ◌∙◌}
use Rattle.message_fit.specs.Holding.{caller_in}
use Rattle.message_write.proofs.Laws.{write_read}
use Rattle.message_write.proofs.write_noted.Goals as goal

pub standing-requires : goal.standing-requires
standing-requires c = (sym c.verdict_of.ensures.0 ∙ c.in-Ok.is, c.verdict_of.ensures.1, c.requires.2)

pub returns-in-Err-MarkupBreaks : goal.returns-in-Err-MarkupBreaks
returns-in-Err-MarkupBreaks c = write_read c.args.f.now c.args.out.now (caller_in c.args.t.held c.args.t.bytes.now) c.args.m.now c.args.e c.requires.0 (sym c.verdict_of.ensures.0 ∙ c.in-Err-MarkupBreaks.is ∙ ap Err c.in-Err-MarkupBreaks.field-0-is) (refl, refl)

pub returns-in-Err-StructureBreaks : goal.returns-in-Err-StructureBreaks
returns-in-Err-StructureBreaks c = write_read c.args.f.now c.args.out.now (caller_in c.args.t.held c.args.t.bytes.now) c.args.m.now c.args.e c.requires.0 (sym c.verdict_of.ensures.0 ∙ c.in-Err-StructureBreaks.is ∙ ap Err c.in-Err-StructureBreaks.field-0-is) (refl, refl)

pub returns-in-Err-FieldBreaks : goal.returns-in-Err-FieldBreaks
returns-in-Err-FieldBreaks c = write_read c.args.f.now c.args.out.now (caller_in c.args.t.held c.args.t.bytes.now) c.args.m.now c.args.e c.requires.0 (sym c.verdict_of.ensures.0 ∙ c.in-Err-FieldBreaks.is ∙ ap Err c.in-Err-FieldBreaks.field-0-is) (refl, refl)

pub returns-in-Ok : goal.returns-in-Ok
returns-in-Ok c = write_read c.args.f.now c.args.out.now (caller_in c.args.t.held c.args.t.bytes.now) c.args.m.now c.args.e c.requires.0 (sym c.verdict_of.ensures.0 ∙ c.in-Ok.is) c.standing.ensures
