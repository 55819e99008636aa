use Rattle.pen.specs.Decimal.{decimal}
use Rattle.std.proofs.Common.{rules}
use Rattle.pen.proofs.decimal_digits.Goals as goal

pub digits_by-requires : goal.digits_by-requires
unfolding decimal
digits_by-requires c = search rules

pub returns : goal.returns
unfolding decimal
returns c = search rules
