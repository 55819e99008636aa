use mathlib.Core.Path.{refl, sym, ◌∙◌}
use Prim.Native.Nat.{◌+◌}
use Rattle.markup.proofs.Laws.{element_past}
use Rattle.onward.proofs.passed.Goals as goal

pub white_end-requires : goal.white_end-requires
white_end-requires c = (element_past c.args.depth c.args.s.now (c.args.i + 1) c.in-Ok.q (sym c.element.ensures.0 ∙ c.in-Ok.is)).within

pub returns-in-Ok : goal.returns-in-Ok
returns-in-Ok c = (λ f. record { past = c.in-Ok.q; element = sym c.element.ensures.0 ∙ c.in-Ok.is; next = c.white_end.ensures }, c.element.ensures.1)

pub returns-in-Err : goal.returns-in-Err
returns-in-Err c = (λ f. absurd (f refl), c.element.ensures.1)
