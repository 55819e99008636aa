use borrow.Author.Rules.{rules}
use Rattle.pen.proofs.Laws.{wrote_then, room_first, room_then, decimal_step}
use Rattle.pen.proofs.+digits_by.Goals as goal

pub digits_by-a-requires : goal.digits_by-a-requires
digits_by-a-requires t c = (search rules, room_first _ (rw (decimal_step _ _ c.if-w-eq0.false c.if-n-le9.false) at c.requires))

pub one_digit-requires-2 : goal.one_digit-requires-2
one_digit-requires-2 t c = room_then c.digits_by-a.ensures (rw (decimal_step _ _ c.if-w-eq0.false c.if-n-le9.false) at c.requires)

pub returns : goal.returns
returns t c = rw (decimal_step _ _ c.if-w-eq0.false c.if-n-le9.false) (wrote_then c.digits_by-a.ensures c.one_digit-2.ensures)
