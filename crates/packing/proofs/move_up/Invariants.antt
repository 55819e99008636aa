use Prim.Native.Nat.{◌≤◌}
use mathlib.Core.Path.{◌≡◌}
use lib.ListN.{take}
use Rattle.words.specs.Numbers.{put}
use Rattle.packing.specs.Packing.{chosen_count, chosen_bytes}
use Rattle.packing.proofs.move_up.Given as goal

abbrev pub invariant-loop-i : goal.invariant-loop-i
invariant-loop-i l = (l.to ≤ l.i) × (l.to ≡ chosen_count (take l.i l.flags)) × (l.t ≡ put l.initial.t l.base (chosen_bytes l.initial.t l.base (take l.i l.flags)))
