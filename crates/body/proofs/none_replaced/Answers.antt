use Prim.Native.Nat.{ℕ}
use mathlib.Core.Path.{ap, ◌∙◌}
use native.Mathlib.Omega.{arith}
use Rattle.slots.specs.Slots.{slots_at}
use Rattle.slots.proofs.Laws.{used_le}
use Rattle.body.specs.Body.{none_replaced}
use Rattle.body.proofs.none_replaced.Goals as goal

pub slots_unreplaced-requires : goal.slots_unreplaced-requires
slots_unreplaced-requires c = omega (arith, c.requires, c.used_slots-used.ensures, used_le c.args.t.now c.args.base c.args.n)

pub returns : goal.returns
returns c = c.slots_unreplaced.ensures ∙ ap (λ (k : ℕ). none_replaced (slots_at c.args.t.now c.args.base k)) c.used_slots-used.ensures
