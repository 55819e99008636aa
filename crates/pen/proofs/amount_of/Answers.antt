use Rattle.pen.specs.Decimal.{amount}
use Rattle.pen.proofs.Laws.{wrote_then, room_first, room_then}
use Rattle.pen.proofs.amount_of.Goals as goal

pub decimal_digits-a-requires : goal.decimal_digits-a-requires
unfolding amount
decimal_digits-a-requires c = room_first _ c.requires

pub ink-b-requires : goal.ink-b-requires
unfolding amount
ink-b-requires c = room_first _ (room_then c.decimal_digits-a.ensures c.requires)

pub fixed_digits-requires : goal.fixed_digits-requires
unfolding amount
fixed_digits-requires c = room_then c.ink-b.ensures (room_then c.decimal_digits-a.ensures c.requires)

pub returns : goal.returns
unfolding amount
returns c = wrote_then c.decimal_digits-a.ensures (wrote_then c.ink-b.ensures c.fixed_digits.ensures)
