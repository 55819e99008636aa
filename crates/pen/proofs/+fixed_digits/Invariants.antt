use Rattle.pen.proofs.+fixed_digits.Given as goal

abbrev pub decreases-fixed_digits : goal.decreases-fixed_digits
decreases-fixed_digits l = l.w
