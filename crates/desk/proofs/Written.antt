-- THE ORDERS OF A FLOW THAT STANDS have values that a record can hold.
use mathlib.Core.List.{List, [], ◌∷◌}
use Rattle.order.specs.Ordinativo.{Ordinativo}
use Rattle.flow.proofs.Values.{OrderOk, Each}
use Rattle.rules.proofs.Kept.{Writable, Writables, none, more}

writable : (o : Ordinativo) → OrderOk o → Writable o
writable o h = record { kind = h.kind; number = h.number; date = h.date; total = h.total; count = h.count }

pub writables : (os : List Ordinativo) → Each OrderOk os → Writables os
writables [] h = none
writables (o ∷ os) h = more (writable o h.0) (writables os h.1)
