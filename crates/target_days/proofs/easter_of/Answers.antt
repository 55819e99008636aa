use Prim.Native.Nat.{ℕ, ◌+◌, ◌-◌, ◌≤◌, ◌<◌}
use native.Mathlib.Omega.{arith}
use native.Mathlib.Nat.{mod-lt}
use Rattle.target_days.specs.Published.{butcher_end, butcher_mid, butcher}
use Rattle.target_days.proofs.Easter.{by_butcher}
use Rattle.target_days.proofs.easter_of.Goals as goal

room : (a b : ℕ) {h k : ℕ} → h < 30 → k < 4 → k ≤ 32 + a + b - h
room a b p q = omega arith

pub overflow_sub-l-2 : goal.overflow_sub-l-2
overflow_sub-l-2 c = room _ _ (mod-lt _ (omega arith)) (mod-lt _ (omega arith))

pub returns : goal.returns
unfolding butcher butcher_mid butcher_end
returns c = by_butcher c.args.y (omega arith) (omega arith)
