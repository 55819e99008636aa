use borrow.Author.Rules.{rules}
use Rattle.pen.proofs.Laws.{wrote_nothing, wrote_then, room_first, room_then, fixed_step}
use Rattle.pen.proofs.+fixed_digits.Goals as goal

pub returns-then-w-eq0 : goal.returns-then-w-eq0
returns-then-w-eq0 t c = rw c.if-w-eq0.true (wrote_nothing _ _)

pub fixed_digits-a-requires : goal.fixed_digits-a-requires
fixed_digits-a-requires t c = (search rules, room_first _ (rw (fixed_step _ _ c.if-w-eq0.false) at c.requires))

pub one_digit-requires : goal.one_digit-requires
one_digit-requires t c = room_then c.fixed_digits-a.ensures (rw (fixed_step _ _ c.if-w-eq0.false) at c.requires)

pub returns : goal.returns
returns t c = rw (fixed_step _ _ c.if-w-eq0.false) (wrote_then c.fixed_digits-a.ensures c.one_digit.ensures)
