use Rattle.pen.proofs.+digits_by.Given as goal

abbrev pub decreases-digits_by : goal.decreases-digits_by
decreases-digits_by l = l.w
