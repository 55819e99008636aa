use Rattle.std.proofs.Common.{◌≡◌, ◌∙◌, ap, arith, ℕ, List, length}
use Rattle.packing.proofs.Laws.{room}
use Rattle.keeping.specs.Keeping.{keeps_at, blanked_from}
use Rattle.mending.proofs.blanked_in.Goals as goal

pub returns : goal.returns
returns c = let a = c.args in
    let q = room a.n (omega arith) in
    let e : c.flags_of.new.flags ≡ keeps_at a.closed a.t.now a.base a.n = c.flags_of.ensures ∙ ap (keeps_at a.closed a.t.now a.base) q in
    (c.count_blanked.ensures.0 ∙ ap (λ (fs : List ℕ). length (blanked_from a.t.now a.base fs)) e, omega (arith, q, ap length e, c.count_blanked.ensures.1))
