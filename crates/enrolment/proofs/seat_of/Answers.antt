use mathlib.Core.Path.{refl}
use native.Mathlib.Omega.{arith}
use Rattle.enrolment.proofs.Laws.{seat_says}
use Rattle.enrolment.proofs.seat_of.Goals as goal

pub returns : goal.returns
returns c = seat_says c.args.t.now c.args.e c.code_of.result refl c.slots_of-slots.ensures.0 c.place_of.ensures.0 (omega arith) c.code_of.ensures c.book_of.ensures
