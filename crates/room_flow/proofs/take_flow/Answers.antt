use mathlib.Core.Path.{sym, ◌∙◌}
use Rattle.markup.proofs.Noted.{noted_none}
use Rattle.room.specs.Room.{room_of}
use Rattle.room_flow.proofs.Laws.{flow_unknown, flow_long, flow_read}
use Rattle.room_flow.proofs.take_flow.Goals as goal

pub returns-in_default : goal.returns-in_default
returns-in_default c = let a = c.args in
    flow_unknown (room_of a.r) a.edition a.f.now a.out.now (sym c.edition_of.ensures ∙ c.in_default.is) c.refused.ensures

pub returns-then-f-gt32768 : goal.returns-then-f-gt32768
returns-then-f-gt32768 c = let a = c.args in
    flow_long (room_of a.r) a.edition a.f.now a.out.now _ (sym c.edition_of.ensures ∙ c.in-Some.is) c.if-f-gt32768.true c.refused-then-f-gt32768.ensures

pub take_noted-requires : goal.take_noted-requires
take_noted-requires c = (c.if-f-gt32768.false, noted_none c.args.f.now 8193)

pub returns : goal.returns
returns c = let a = c.args in
    flow_read (room_of a.r) a.edition a.f.now a.out.now _ (sym c.edition_of.ensures ∙ c.in-Some.is) c.if-f-gt32768.false c.take_noted.ensures
