use native.Mathlib.Omega.{arith}
use Prim.Native.Nat.{◌≤◌}
use Rattle.message_values.proofs.small.Goals as goal

pub overflow_cast-result : goal.overflow_cast-result
overflow_cast-result c = let h : c.in-Some.v ≤ 255 = rw c.in-Some.is at c.requires in
    omega arith
