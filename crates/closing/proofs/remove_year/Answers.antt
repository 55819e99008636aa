use Rattle.std.proofs.Common.{◌∙◌, ap, arith, ℕ}
use Rattle.packing.specs.Packing.{chosen_count, packed}
use Rattle.packing.proofs.Laws.{room}
use Rattle.closing.specs.Closing.{stays_at}
use Rattle.closing.proofs.Removed.{removed_used}
use Rattle.closing.proofs.remove_year.Goals as goal

pub overflow_sub-result : goal.overflow_sub-result
overflow_sub-result c = let a = c.args in
    let e = c.flags_of.ensures ∙ ap (λ (m : ℕ). stays_at a.t.now a.base m a.year) (room a.n (omega arith)) in
    omega (arith, removed_used a.t.now a.base a.n a.year c.requires.0 c.requires.2, c.used_slots-used.ensures, c.pack.ensures.0, ap chosen_count e)

pub returns : goal.returns
returns c = let a = c.args in
    let e = c.flags_of.ensures ∙ ap (λ (m : ℕ). stays_at a.t.now a.base m a.year) (room a.n (omega arith)) in
    (omega (arith, removed_used a.t.now a.base a.n a.year c.requires.0 c.requires.2, c.used_slots-used.ensures, c.pack.ensures.0, ap chosen_count e), c.pack.ensures.1 ∙ ap (packed a.t.now a.base) e)
