use mathlib.Core.Path.{refl}
use Rattle.training.specs.Training.{list_of}
use Rattle.plain.specs.Plain.{Listed, no_body, relisted}
use Rattle.room.specs.Room.{listed}
use Rattle.room.proofs.Laws.{mapped_changed}
use Rattle.room.proofs.with_book.Goals as goal

pub returns : goal.returns
returns c = let e = mapped_changed listed c.args.r.count c.args.r.seats c.args.b _ _ no_body (λ (l : Listed). relisted l (list_of c.args.book)) c.requires refl in
    λ i. record { abi = c.args.r.abi; bodies = e i }
