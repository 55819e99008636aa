use mathlib.Core.Path.{ap}
use Prim.Native.Nat.{ℕ, ◌+◌, ◌-◌}
use native.Mathlib.Omega.{arith}
use Rattle.days.specs.Days.{month_of, day_number}
use Rattle.days.proofs.Laws.{placed, number_most}
use Rattle.days.proofs.date_number.Goals as goal

pub overflow_sub-k : goal.overflow_sub-k
overflow_sub-k c = (placed c.args.d c.requires).ranges.year.0

pub overflow_mul-k : goal.overflow_mul-k
overflow_mul-k c = let r = (placed c.args.d c.requires).ranges.year in record { fits = omega arith }

pub overflow_sub-k-2 : goal.overflow_sub-k-2
overflow_sub-k-2 c = (placed c.args.d c.requires).ranges.month.0

pub overflow_add-k : goal.overflow_add-k
overflow_add-k c = let r = (placed c.args.d c.requires).ranges in record { fits = omega (arith, r.year, r.month) }

pub start_of-requires : goal.start_of-requires
unfolding month_of
start_of-requires c = (placed c.args.d c.requires).few

pub overflow_sub-result : goal.overflow_sub-result
overflow_sub-result c = (placed c.args.d c.requires).ranges.day.0

pub overflow_add-result : goal.overflow_add-result
unfolding day_number month_of
overflow_add-result c = let m = number_most c.args.d c.requires in
    record { fits = omega (arith, c.start_of.ensures) }

pub returns : goal.returns
unfolding day_number month_of
returns c = ap (λ (n : ℕ). n + (c.args.d.day - 1)) c.start_of.ensures
