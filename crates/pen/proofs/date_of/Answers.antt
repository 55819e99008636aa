use native.Mathlib.Omega.{arith}
use Rattle.pen.specs.Decimal.{dated}
use Rattle.pen.proofs.Laws.{wrote_then}
use Rattle.pen.proofs.date_of.Goals as goal

pub fixed_digits-a-requires : goal.fixed_digits-a-requires
unfolding dated
fixed_digits-a-requires c = record { fits = omega (arith, c.requires.fits) }

pub ink-b-requires : goal.ink-b-requires
unfolding dated
ink-b-requires c = record { fits = omega (arith, c.requires.fits) }

pub fixed_digits-c-requires : goal.fixed_digits-c-requires
unfolding dated
fixed_digits-c-requires c = record { fits = omega (arith, c.requires.fits) }

pub ink-e-requires : goal.ink-e-requires
unfolding dated
ink-e-requires c = record { fits = omega (arith, c.requires.fits) }

pub fixed_digits-requires : goal.fixed_digits-requires
unfolding dated
fixed_digits-requires c = record { fits = omega (arith, c.requires.fits) }

pub returns : goal.returns
unfolding dated
returns c = wrote_then (wrote_then (wrote_then (wrote_then c.fixed_digits-a.ensures c.ink-b.ensures) c.fixed_digits-c.ensures) c.ink-e.ensures) c.fixed_digits.ensures
