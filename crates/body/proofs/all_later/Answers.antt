use Prim.Native.Nat.{ℕ}
use mathlib.Core.Path.{ap, ◌∙◌}
use native.Mathlib.Omega.{arith}
use Rattle.slots.specs.Slots.{slots_at}
use Rattle.slots.proofs.Laws.{used_le}
use Rattle.body.specs.Body.{all_later}
use Rattle.body.proofs.all_later.Goals as goal

pub slots_later-requires : goal.slots_later-requires
slots_later-requires c = omega (arith, c.requires, c.used_slots-used.ensures, used_le c.args.t.now c.args.base c.args.n)

pub returns : goal.returns
returns c = c.slots_later.ensures ∙ ap (λ (k : ℕ). all_later c.args.year (slots_at c.args.t.now c.args.base k)) c.used_slots-used.ensures
