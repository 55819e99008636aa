use mathlib.Core.Path.{refl, sym, ◌∙◌}
use native.Mathlib.Omega.{arith}
use Rattle.room.specs.Room.{room_of}
use Rattle.room.proofs.Laws.{seat_here, seat_later, seat_none}
use Rattle.room.proofs.find_seat.Goals as goal

pub loop-b-init : goal.loop-b-init
loop-b-init c = (omega arith, refl)

pub returns-then-code_is : goal.returns-then-code_is
returns-then-code_is c = sym (c.loop-b.invariant.1 ∙ seat_here (room_of c.args.r) c.loop-b.b c.args.code.now (omega (arith, c.size-b-end.ensures, c.loop-b-test.true)) c.seat_at.ensures c.code_is.ensures c.if-code_is.true)

pub loop-b-preserved : goal.loop-b-preserved
loop-b-preserved c = (omega (arith, c.loop-b-test.true), c.loop-b.invariant.1 ∙ seat_later (room_of c.args.r) c.loop-b.b c.args.code.now (omega (arith, c.size-b-end.ensures, c.loop-b-test.true)) c.seat_at.ensures c.code_is.ensures c.if-code_is.false)

pub returns : goal.returns
returns c = sym (c.loop-b.invariant.1 ∙ seat_none (room_of c.args.r) c.loop-b.b c.args.code.now (omega (arith, c.size-b-end.ensures, c.loop-b-test.false)))
