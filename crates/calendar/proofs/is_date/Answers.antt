use native.Mathlib.Omega.{arith}
use borrow.Author.Tests.{le-leb}
use Rattle.std.proofs.lemmas.Grind.{common_steps}
use Rattle.calendar.specs.Calendar.{month_length, is_date}
use Rattle.calendar.proofs.Laws.{month_at_least}
use Rattle.calendar.proofs.is_date.Goals as goal

pub returns-then-d-le28 : goal.returns-then-d-le28
unfolding is_date
returns-then-d-le28 c = let d = c.args.d in
    let l = month_at_least d.year d.month in
    rw (le-leb d.day (month_length d.year d.month) (omega arith)) (grind (arith, common_steps))
