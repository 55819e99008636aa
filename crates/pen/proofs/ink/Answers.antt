use mathlib.Core.Path.{refl}
use native.Mathlib.Omega.{arith}
use Rattle.pen.proofs.ink.Goals as goal

pub returns-else-to-m : goal.returns-else-to-m
returns-else-to-m c = record { to = refl; size = refl; wrote = λ h. absurd (omega (arith, c.if-to-m.false, h)) }
