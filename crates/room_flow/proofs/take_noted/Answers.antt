use Rattle.std.specs.Prelude.{Err}
use mathlib.Core.Path.{ap, sym, ◌∙◌}
use Rattle.room.specs.Room.{room_of}
use Rattle.room_flow.proofs.Laws.{kept, verdict_read}
use Rattle.room_flow.proofs.take_noted.Goals as goal

pub for_bank-requires : goal.for_bank-requires
for_bank-requires c = (sym c.verdict_of.ensures.0 ∙ c.in-Ok.is, c.verdict_of.ensures.1, c.requires.0)

pub returns-in-Err-MarkupBreaks : goal.returns-in-Err-MarkupBreaks
returns-in-Err-MarkupBreaks c = let a = c.args in
    verdict_read a.e (room_of a.r) a.f.now a.out.now (sym c.verdict_of.ensures.0 ∙ c.in-Err-MarkupBreaks.is ∙ ap Err c.in-Err-MarkupBreaks.field-0-is) (kept (room_of a.r) a.out.now c.refused.ensures)

pub returns-in-Err-StructureBreaks : goal.returns-in-Err-StructureBreaks
returns-in-Err-StructureBreaks c = let a = c.args in
    verdict_read a.e (room_of a.r) a.f.now a.out.now (sym c.verdict_of.ensures.0 ∙ c.in-Err-StructureBreaks.is ∙ ap Err c.in-Err-StructureBreaks.field-0-is) (kept (room_of a.r) a.out.now c.refused-in-Err-StructureBreaks.ensures)

pub returns-in-Ok : goal.returns-in-Ok
returns-in-Ok c = let a = c.args in
    verdict_read a.e (room_of a.r) a.f.now a.out.now (sym c.verdict_of.ensures.0 ∙ c.in-Ok.is) c.for_bank.ensures
